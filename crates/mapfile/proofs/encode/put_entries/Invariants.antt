use Rattle.mapfile.proofs.Written.{Written}
use Rattle.mapfile.proofs.encode.put_entries.Given as goal

abbrev pub invariant-loop-block : goal.invariant-loop-block
invariant-loop-block l = Written l.initial.buffer l.apart l.map l.block l.at l.buffer
