use Rattle.std.proofs.Common.{◌≡◌}
use Rattle.cipher.specs.Siphash.{compressed_words}
use Rattle.cipher.proofs.siphash.SipState.compress_words.Given as goal

abbrev pub invariant-loop-word : goal.invariant-loop-word
invariant-loop-word l = l.state ≡ compressed_words l.message l.word-index l.initial.state
