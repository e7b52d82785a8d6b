use Rattle.std.proofs.Common.{◌≡◌, drop}
use Rattle.machine.specs.Makings.{above}
use Rattle.prepare.proofs.checks.check_counters.Given as goal

abbrev pub invariant-loop-i : goal.invariant-loop-i
invariant-loop-i g l = above l.last l.i (drop l.i (g.C.Card.records l.card)) ≡ above l.last 0 (g.C.Card.records l.card)
