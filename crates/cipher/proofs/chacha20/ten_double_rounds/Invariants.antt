use Rattle.std.proofs.Common.{◌≡◌}
use Rattle.cipher.specs.Chacha20.{double_rounds}
use Rattle.cipher.proofs.chacha20.ten_double_rounds.Given as goal

abbrev pub invariant-loop-i : goal.invariant-loop-i
invariant-loop-i l = l.s ≡ double_rounds l._i l.initial.s
