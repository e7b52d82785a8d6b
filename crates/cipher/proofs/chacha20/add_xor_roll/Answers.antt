use Rattle.std.proofs.Common.{rules}
use Rattle.cipher.specs.Chacha20.{add_xor_roll_of}
use Rattle.cipher.proofs.chacha20.add_xor_roll.Goals as goal

pub returns : goal.returns
unfolding add_xor_roll_of
returns c = search rules
