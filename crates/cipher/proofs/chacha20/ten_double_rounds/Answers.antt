use Rattle.std.proofs.Common.{refl, add-one}
use Rattle.cipher.specs.Chacha20.{double_rounds}
use Rattle.cipher.proofs.chacha20.ten_double_rounds.Goals as goal

pub loop-i-init : goal.loop-i-init
unfolding double_rounds
loop-i-init c = refl

pub loop-i-preserved : goal.loop-i-preserved
unfolding double_rounds
loop-i-preserved c = simp add-one (cc)
