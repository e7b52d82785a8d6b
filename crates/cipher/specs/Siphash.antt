-- SipHash-2-4 of Aumasson and Bernstein, on a state of four 64-bit words. Assumes nothing.
use Rattle.std.specs.Prelude.{ℕ, zero, suc, ◌+◌, ◌-◌, ◌*◌, ◌/◌, ◌%◌, ◌^◌, length, take, drop, bit_or, bit_xor}
use Rattle.layout.specs.Numbers.{Bytes, number}
use Rattle.cipher.specs.declared.siphash.SipState.{SipState}

-- the sum modulo 2 ^ 64
abbrev pub add64 : ℕ → ℕ → ℕ
add64 x y = (x + y) % 2 ^ 64

-- x <<< n, the left rotation of a 64-bit word by n bits
abbrev pub rotate64 : ℕ → ℕ → ℕ
rotate64 x n = bit_or ((x * 2 ^ n) % 2 ^ 64) (x / 2 ^ (64 - n))

-- SipRound: sums, rotations and exclusive ors of the four words, each prime a later value of the word
unfoldable pub sip_round : SipState → SipState
sip_round s =
    let v0 = add64 s.v0 s.v1 in
    let v2 = add64 s.v2 s.v3 in
    let v1 = bit_xor (rotate64 s.v1 13) v0 in
    let v3 = bit_xor (rotate64 s.v3 16) v2 in
    let v0' = rotate64 v0 32 in
    let v2' = add64 v2 v1 in
    let v0'' = add64 v0' v3 in
    let v1' = bit_xor (rotate64 v1 17) v2' in
    let v3' = bit_xor (rotate64 v3 21) v0'' in
    let v2'' = rotate64 v2' 32 in
    record { v0 = v0''; v1 = v1'; v2 = v2''; v3 = v3' }

-- v3 ^= m
abbrev pub word_in : ℕ → SipState → SipState
word_in m s = record { v0 = s.v0; v1 = s.v1; v2 = s.v2; v3 = bit_xor s.v3 m }

-- v0 ^= m
abbrev pub word_out : ℕ → SipState → SipState
word_out m s = record { v0 = bit_xor s.v0 m; v1 = s.v1; v2 = s.v2; v3 = s.v3 }

-- one word of the message: v3 ^= m, two rounds, v0 ^= m
abbrev pub compressed : ℕ → SipState → SipState
compressed m s = word_out m (sip_round (sip_round (word_in m s)))

-- the word that the eight bytes from place i on spell, the lowest first
abbrev pub word_at : Bytes → ℕ → ℕ
word_at bytes i = number (take 8 (drop i bytes))

-- the first n words of the message, one after the other
abbrev pub compressed_words : Bytes → ℕ → SipState → SipState
compressed_words message zero s = s
compressed_words message (suc n) s = compressed (word_at message (n * 8)) (compressed_words message n s)

-- the bytes past the last whole word, then zeros, and at the top the length modulo 256
abbrev pub last_word : Bytes → ℕ
last_word message = number (drop (length message / 8 * 8) message) + length message % 256 * 2 ^ 56

-- the key's two words, combined with four constants
abbrev pub initialised : Bytes → SipState
initialised key = record {
  v0 = bit_xor (word_at key 0) 0x736f6d6570736575;
  v1 = bit_xor (word_at key 8) 0x646f72616e646f6d;
  v2 = bit_xor (word_at key 0) 0x6c7967656e657261;
  v3 = bit_xor (word_at key 8) 0x7465646279746573;
}

-- v2 ^= 0xff
abbrev pub marked : SipState → SipState
marked s = record { v0 = s.v0; v1 = s.v1; v2 = bit_xor s.v2 0xff; v3 = s.v3 }

-- v2 ^= 0xff, four rounds, v0 ^ v1 ^ v2 ^ v3
abbrev pub finalised : SipState → ℕ
finalised s =
    let t = sip_round (sip_round (sip_round (sip_round (marked s)))) in
    bit_xor (bit_xor (bit_xor t.v0 t.v1) t.v2) t.v3

-- the tag of a message under a key
abbrev pub siphash : Bytes → Bytes → ℕ
siphash key message =
    let whole = compressed_words message (length message / 8) (initialised key) in
    finalised (compressed (last_word message) whole)
