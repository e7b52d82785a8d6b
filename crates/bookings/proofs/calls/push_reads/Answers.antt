use Rattle.std.proofs.Common.{refl, List, [], ◌∷◌, ◌++◌, map, replicate, vec_items, ap, ◌∙◌}
use Rattle.std.proofs.lemmas.List.{append_assoc}
use Rattle.machine.specs.Machine.{Call, Read}
use Rattle.runs.specs.Told.{call_told}
use Rattle.bookings.specs.Days.{reads_from}
use Rattle.bookings.proofs.Adding.{added, reads_more}
use Rattle.bookings.proofs.calls.push_reads.Goals as goal

pub loop-block-preserved : goal.loop-block-preserved
loop-block-preserved c =
    let block = c.loop-block.block in
    let begun = map call_told (vec_items c.args.calls.now) in
    let read : List Call = Read block (replicate 48 0) ∷ [] in
    added call_told (vec_items c.loop-block.calls) _ _ read c.in_ok-push.ensures.items refl
    ∙ (ap (λ (told : List Call). told ++ read) c.loop-block.invariant
    ∙ (append_assoc begun (reads_from 0 block) read
    ∙ ap (λ (more : List Call). begun ++ more) (reads_more block)))
