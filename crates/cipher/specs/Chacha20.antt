-- The ChaCha20 block function of RFC 8439, on lists of 32-bit words. Assumes nothing.
use Rattle.std.specs.Prelude.{ℕ, zero, suc, ◌+◌, ◌-◌, ◌*◌, ◌/◌, ◌%◌, ◌^◌, List, [], ◌∷◌, take, drop, set, bit_or, bit_xor, slice_index, slice_set}
use Rattle.std.specs.Simd.Lanes.{zip2}
use Rattle.std.specs.List.{flat_map}
use Rattle.layout.specs.Numbers.{Bytes, little, number}

abbrev pub Words : Type 0
Words = List ℕ

-- the sum modulo 2 ^ 32
abbrev pub add32 : ℕ → ℕ → ℕ
add32 x y = (x + y) % 2 ^ 32

-- x <<< n, the n-bit left roll of a 32-bit word
abbrev pub roll32 : ℕ → ℕ → ℕ
roll32 x n = bit_or ((x * 2 ^ n) % 2 ^ 32) (x / 2 ^ (32 - n))

-- a += b; d ^= a; d <<<= n, on the words of the state at the places a, b and d
unfoldable pub add_xor_roll_of : (a b d n : ℕ) → Words → Words
add_xor_roll_of a b d n s =
    let added = set s a (add32 (slice_index s a) (slice_index s b)) in
    slice_set added d (roll32 (bit_xor (slice_index added d) (slice_index added a)) n)

-- section 2.1: the four lines of the quarter round, in their order
abbrev pub quarter_round_of : (a b c d : ℕ) → Words → Words
quarter_round_of a b c d s₀ =
    let s₁ = add_xor_roll_of a b d 16 s₀ in
    let s₂ = add_xor_roll_of c d b 12 s₁ in
    let s₃ = add_xor_roll_of a b d 8 s₂ in
    add_xor_roll_of c d b 7 s₃

-- section 2.3: a quarter round on each column of the four by four words
abbrev pub column_round_of : Words → Words
column_round_of s₀ =
    let s₁ = quarter_round_of 0 4 8 12 s₀ in
    let s₂ = quarter_round_of 1 5 9 13 s₁ in
    let s₃ = quarter_round_of 2 6 10 14 s₂ in
    quarter_round_of 3 7 11 15 s₃

-- a quarter round on each diagonal
abbrev pub diagonal_round_of : Words → Words
diagonal_round_of s₀ =
    let s₁ = quarter_round_of 0 5 10 15 s₀ in
    let s₂ = quarter_round_of 1 6 11 12 s₁ in
    let s₃ = quarter_round_of 2 7 8 13 s₂ in
    quarter_round_of 3 4 9 14 s₃

-- a column round, then a diagonal round
abbrev pub double_round : Words → Words
double_round s = diagonal_round_of (column_round_of s)

-- n double rounds; the block function has ten, which are its 20 rounds
unfoldable pub double_rounds : ℕ → Words → Words
double_rounds zero s = s
double_rounds (suc n) s = double_round (double_rounds n s)

-- the word that the four bytes from place i on spell, the lowest first
abbrev pub word_at : Bytes → ℕ → ℕ
word_at bytes i = number (take 4 (drop i bytes))

-- four constants, the eight words of the key, the block counter, the three words of the nonce
unfoldable pub initial_state_of : Bytes → ℕ → Bytes → Words
initial_state_of key counter nonce =
    0x61707865 ∷ 0x3320646e ∷ 0x79622d32 ∷ 0x6b206574
    ∷ word_at key 0 ∷ word_at key 4 ∷ word_at key 8 ∷ word_at key 12
    ∷ word_at key 16 ∷ word_at key 20 ∷ word_at key 24 ∷ word_at key 28
    ∷ counter ∷ word_at nonce 0 ∷ word_at nonce 4 ∷ word_at nonce 8 ∷ []

-- the state after the rounds, to each word of which the initial state's is added
abbrev pub block_words : Bytes → ℕ → Bytes → Words
block_words key counter nonce =
    let state = initial_state_of key counter nonce in
    zip2 add32 (double_rounds 10 state) state

-- the words one after the other, each as four bytes with the lowest first
abbrev pub serialised : Words → Bytes
serialised words = flat_map (little 4) words

-- the 64 bytes of one block
abbrev pub block : Bytes → ℕ → Bytes → Bytes
block key counter nonce = serialised (block_words key counter nonce)
