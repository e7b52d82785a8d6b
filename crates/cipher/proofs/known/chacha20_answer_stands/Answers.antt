use Rattle.std.proofs.Common.{refl}
use Rattle.cipher.specs.Chacha20.{add_xor_roll_of, double_rounds, initial_state_of}
use Rattle.cipher.proofs.known.chacha20_answer_stands.Goals as goal

pub returns : goal.returns
unfolding add_xor_roll_of double_rounds initial_state_of
returns c = refl
