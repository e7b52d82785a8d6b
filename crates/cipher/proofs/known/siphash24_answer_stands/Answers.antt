use Rattle.std.proofs.Common.{refl}
use Rattle.cipher.specs.Siphash.{sip_round}
use Rattle.cipher.proofs.known.siphash24_answer_stands.Goals as goal

pub returns : goal.returns
unfolding sip_round
returns c = refl
