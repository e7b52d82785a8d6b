use Rattle.std.proofs.Common.{ℕ, ◌/◌, ◌<◌, length, arith}
use Rattle.cipher.specs.Chacha20.{initial_state_of}
use Rattle.cipher.proofs.Words.{word_of_four}
use Rattle.cipher.proofs.chacha20.initial_state.Goals as goal

pub returns : goal.returns
unfolding initial_state_of
returns c =
    let key = c.args.key.now in
    let nonce = c.args.nonce.now in
    let key_word = λ (i : ℕ) (h : i < length key / 4). word_of_four c.as_chunks.result.0.now i (length key / 4) key c.as_chunks.ensures.front h (omega arith) in
    let nonce_word = λ (i : ℕ) (h : i < length nonce / 4). word_of_four c.as_chunks-2.result.0.now i (length nonce / 4) nonce c.as_chunks-2.ensures.front h (omega arith) in
    let k0 = key_word 0 (omega arith) in
    let k1 = key_word 1 (omega arith) in
    let k2 = key_word 2 (omega arith) in
    let k3 = key_word 3 (omega arith) in
    let k4 = key_word 4 (omega arith) in
    let k5 = key_word 5 (omega arith) in
    let k6 = key_word 6 (omega arith) in
    let k7 = key_word 7 (omega arith) in
    let n0 = nonce_word 0 (omega arith) in
    let n1 = nonce_word 1 (omega arith) in
    let n2 = nonce_word 2 (omega arith) in
    cc
