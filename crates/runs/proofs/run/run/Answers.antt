use Rattle.std.proofs.Common.{sym, subst}
use Rattle.machine.proofs.LawOfRuns.{law_of_runs}
use Rattle.runs.specs.Told.{making_told}
use Rattle.runs.specs.Shown.{notes_told, first_shown, Followed}
use Rattle.runs.proofs.Exhibits.{exhibit, finished, shown_by_a_store}
use Rattle.runs.proofs.run.run.Goals as goal

pub finish-requires : goal.finish-requires
finish-requires g c =
    let made = c.make-store.result.store in
    let after = c.follow-notes.new.store.store in
    let records = g.C.Card.records c.args.ends.card in
    let k = making_told c.args.making.now in
    let P : g.row.S.Denot → Type 0 = λ s. Followed notes_told (g.S.Seal.rules s) made (first_shown made k records) c.args.calls.now after c.follow-notes.result in
    let noted = subst P c.make-store.ensures.seal (c.follow-notes.ensures.step records (sym c.count-count.ensures)) in
    shown_by_a_store (g.S.Seal.rules c.args.ends.seal) (g.met.S.Seal.lawful c.args.ends.seal) records (g.T.Tape.words c.args.ends.tape) k c.of_bytes.ensures
    c.args.calls.now made after c.follow-notes.result c.make-store.ensures.made noted

pub returns-clause-run : goal.returns-clause-run
returns-clause-run g c =
    let made = c.make-store.result.store in
    let after = c.follow-notes.new.store.store in
    let records = g.C.Card.records c.args.ends.card in
    let words = g.T.Tape.words c.args.ends.tape in
    let k = making_told c.args.making.now in
    let rules = g.S.Seal.rules c.args.ends.seal in
    let P : g.row.S.Denot → Type 0 = λ s. Followed notes_told (g.S.Seal.rules s) made (first_shown made k records) c.args.calls.now after c.follow-notes.result in
    let noted = subst P c.make-store.ensures.seal (c.follow-notes.ensures.step records (sym c.count-count.ensures)) in
    let followed = finished rules made after (first_shown made k records) c.args.calls.now c.follow-notes.result c.finish.result c.finish.ensures noted in
    record {
      made = made;
      made_as_defined = c.make-store.ensures.made;
      followed_as_defined = followed;
      run_of_the_law = λ m. exhibit rules (g.met.S.Seal.lawful c.args.ends.seal) records words k c.of_bytes.ensures
          c.args.calls.now made after c.finish.result m c.make-store.ensures.made followed;
      law = law_of_runs;
    }
