use Rattle.std.proofs.Common.{refl, ap}
use Rattle.machine.specs.Makings.{Called}
use Rattle.runs.specs.declared.transcript.Notes.{Notes}
use Rattle.runs.proofs.Growing.{call_noted}
use Rattle.runs.proofs.notes.note_call.Goals as goal

pub returns-clause-step : goal.returns-clause-step
returns-clause-step g c =
    let before = c.args.store.now.store in
    let after = c.perform.new.store.store in
    let rules = g.S.Seal.rules c.args.store.now.seal in
    let u = c.note_beat.new.notes in
    let w : Notes = record { begun = u.begun; answers = c.push.new.self; faces = u.faces; places = u.places; sealings = u.sealings } in
    let e = c.in_ok-answer.ensures.step in (
      ap (λ (d : Called). d.store) e,
      call_noted rules before after c.args.call.now c.in_ok-answer.answer c.args.notes.now u w e c.in_ok-note_beat.ensures
          refl c.in_ok-push.ensures.items refl refl refl,
    )
