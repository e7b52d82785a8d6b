use Rattle.std.proofs.Common.{◌≡◌, length}
use Rattle.prepare.proofs.Halves.{half_done}
use Rattle.prepare.proofs.dummies.seal_dummies.Given as goal

abbrev pub invariant-loop-i : goal.invariant-loop-i
invariant-loop-i g l =
    (length l.bytes ≡ 64)
    × (g.C.Card.records l.card ≡ half_done (g.S.Seal.rules l.seal) (g.C.Card.records l.initial.card) l.i)
