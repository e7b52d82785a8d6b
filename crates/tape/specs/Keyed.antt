-- The words of a keyed tape.
use Rattle.std.specs.Prelude.{ℕ, zero, suc, ◌/◌, ◌%◌, List, [], ◌∷◌, slice_index}
use Rattle.layout.specs.Numbers.{Bytes}
use Rattle.cipher.specs.Chacha20.{Words, block_words}

-- the ChaCha20 block with block counter n
unfoldable pub tape_block : Bytes → Bytes → ℕ → Words
tape_block key nonce n = block_words key n nonce

-- word i is word i mod 16 of the block with block counter i ÷ 16 rounded down
abbrev pub tape_word : Bytes → Bytes → ℕ → ℕ
tape_word key nonce i = slice_index (tape_block key nonce (i / 16)) (i % 16)

-- n words, from word i on
abbrev pub keyed_words : Bytes → Bytes → ℕ → ℕ → List ℕ
keyed_words key nonce i zero = []
keyed_words key nonce i (suc n) = tape_word key nonce i ∷ keyed_words key nonce (suc i) n
