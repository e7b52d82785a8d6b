use Rattle.machine.specs.Makings.{resume}
use Rattle.store.proofs.Assembled.{made_by}
use Rattle.store.proofs.state.Store.resume.Goals as goal

pub returns-clause-made : goal.returns-clause-made
returns-clause-made g c =
    let card = g.C.Card.records c.args.ends.card in
    rw c.assemble.ensures.store (made_by (λ tape. resume (g.S.Seal.rules c.args.ends.seal) card tape c.args.file.now) card card (g.T.Tape.words c.args.ends.tape)
    c.prepare_resume-prepared.result c.prepare_resume-prepared.ensures)
