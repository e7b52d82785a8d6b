use Rattle.cipher.specs.Siphash.{sip_round}
use Rattle.cipher.proofs.siphash.SipState.round.Goals as goal

pub returns : goal.returns
unfolding sip_round
returns c = cc
