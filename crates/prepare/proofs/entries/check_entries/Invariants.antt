use Rattle.machine.specs.Files.{entries}
use Rattle.mapfile.specs.Listed.{entries_left}
use Rattle.prepare.proofs.Opens.{Left}
use Rattle.prepare.proofs.entries.check_entries.Given as goal

abbrev pub invariant-loop-block : goal.invariant-loop-block
invariant-loop-block g l = Left (g.S.Seal.rules l.seal) (g.C.Card.records l.card) (entries l.file.bytes.now) (entries_left l.block-iterator)
