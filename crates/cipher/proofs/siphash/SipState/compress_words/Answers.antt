use Rattle.std.proofs.Common.{◌/◌, length, add-one, arith}
use Rattle.cipher.proofs.Words.{word_of_eight}
use Rattle.cipher.proofs.siphash.SipState.compress_words.Goals as goal

pub loop-word-preserved : goal.loop-word-preserved
loop-word-preserved c =
    let message = c.args.message.now in
    let word = word_of_eight c.as_chunks.result.0.now c.loop-word.word-index (length message / 8) message c.as_chunks.ensures.front (omega arith) (omega arith) in
    simp add-one (cc)
