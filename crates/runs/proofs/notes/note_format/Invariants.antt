use Rattle.std.proofs.Common.{◌≡◌, ◌≤◌, List, map, length, take, vec_items}
use Rattle.layout.specs.Numbers.{Bytes}
use Rattle.machine.specs.Runs.{format_sealings}
use Rattle.runs.specs.Shown.{sealing_told}
use Rattle.runs.proofs.notes.note_format.Given as goal

abbrev pub invariant-loop-i : goal.invariant-loop-i
invariant-loop-i l = (card : List Bytes) → l.i ≤ length card → map sealing_told (vec_items l.sealings) ≡ format_sealings 0 (take l.i card)
