use Rattle.std.proofs.Common.{◌+◌, List, [], ◌∷◌, ◌++◌, map, sym, ap, ◌∙◌, arith}
use Rattle.std.proofs.lemmas.List.{map_push}
use Rattle.machine.specs.Runs as law
use Rattle.machine.specs.Runs.{format_sealings}
use Rattle.runs.specs.Shown.{sealing_told}
use Rattle.runs.proofs.Growing.{format_sealings_more}
use Rattle.runs.proofs.notes.note_format.Goals as goal

pub loop-i-preserved : goal.loop-i-preserved
loop-i-preserved c = λ card h.
    ap (map sealing_told) c.in_ok-push.ensures.items ∙ (map_push sealing_told c.loop-i.sealings.items _
    ∙ (ap (λ (xs : List law.Sealing). xs ++ record { place = c.loop-i.i; counter = c.loop-i.i + 1 } ∷ []) (c.loop-i.invariant card (omega arith))
    ∙ sym (format_sealings_more c.loop-i.i card h)))
