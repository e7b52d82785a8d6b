use Rattle.std.proofs.Common.{arith}
use Rattle.tape.specs.Keyed.{tape_block}
use Rattle.tape.proofs.keyed.KeyedTape.new.Goals as goal

pub invariant_of-result : goal.invariant_of-result
unfolding tape_block
invariant_of-result c = record { within = omega arith; current = c.chacha20_words-block.ensures }
