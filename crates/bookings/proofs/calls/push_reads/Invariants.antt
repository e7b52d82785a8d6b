use Rattle.std.proofs.Common.{◌≡◌, ◌++◌, map, vec_items}
use Rattle.runs.specs.Told.{call_told}
use Rattle.bookings.specs.Days.{reads_from}
use Rattle.bookings.proofs.calls.push_reads.Given as goal

-- the blocks so far have their reads
abbrev pub invariant-loop-block : goal.invariant-loop-block
invariant-loop-block l = map call_told (vec_items l.calls) ≡ map call_told (vec_items l.initial.calls) ++ reads_from 0 l.block
