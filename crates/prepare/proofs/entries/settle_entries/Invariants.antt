use Rattle.machine.specs.Files.{file_blocks, entries}
use Rattle.mapfile.specs.Listed.{entries_left}
use Rattle.prepare.proofs.Rising.{Going}
use Rattle.prepare.proofs.entries.settle_entries.Given as goal

abbrev pub invariant-loop-block : goal.invariant-loop-block
invariant-loop-block l = Going (file_blocks l.file.bytes.now) l.count (entries l.file.bytes.now) (entries_left l.block-iterator) l.from l.map
