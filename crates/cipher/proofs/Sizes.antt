-- How long a block is, and that its words, its bytes and a tag fit their widths. Assumes nothing.
use Rattle.std.proofs.Common.{◌≡◌, ℕ, zero, suc, ◌-◌, ◌*◌, ◌/◌, ◌%◌, ◌^◌, ◌<◌, ◌≤◌, [], ◌∷◌, ◌++◌, length, get_or, take, drop, set, refl, ap, ◌∙◌, arith, lit<, length-append, length-drop, length-set}
use native.Mathlib.Nat.{pow-succ'}
use lib.Bits.{bit_xor, or_lt, xor_lt}
use lib.Pow.{shr_le}
use lib.Lanes.{zip2}
use Rattle.std.specs.List.{AllByRecursion as All}
use Rattle.std.proofs.lemmas.List.{take_all}
use Rattle.layout.specs.Numbers.{Bytes, little, number}
use Rattle.cipher.specs.Chacha20.{Words, add32, roll32, add_xor_roll_of, double_round, double_rounds, initial_state_of, block_words, serialised, block}
use Rattle.cipher.specs.Siphash.{add64, rotate64, sip_round, word_in, compressed, compressed_words, word_at, last_word, initialised, marked, finalised, siphash}
use Rattle.cipher.specs.declared.siphash.SipState.{SipState}

-- no step of the rounds changes how many words the state has
length_add_xor_roll : (a b d n : ℕ) (s : Words) → length (add_xor_roll_of a b d n s) ≡ length s
unfolding add_xor_roll_of
length_add_xor_roll a b d n s =
    let added = set s a (add32 (get_or s a 0) (get_or s b 0)) in
    length-set added d (roll32 (bit_xor (get_or added d 0) (get_or added a 0)) n) ∙ length-set s a (add32 (get_or s a 0) (get_or s b 0))

length_double_round : (s : Words) → length (double_round s) ≡ length s
length_double_round s = simp length_add_xor_roll

length_double_rounds : (n : ℕ) (s : Words) → length (double_rounds n s) ≡ length s
unfolding double_rounds
length_double_rounds zero s = refl
length_double_rounds (suc n) s = length_double_round (double_rounds n s) ∙ length_double_rounds n s

length_zip2 : (f : ℕ → ℕ → ℕ) (xs ys : Words) → length xs ≡ length ys → length (zip2 f xs ys) ≡ length ys
length_zip2 f [] [] e = refl
length_zip2 f [] (y ∷ ys) e = e
length_zip2 f (x ∷ xs) [] e = refl
length_zip2 f (x ∷ xs) (y ∷ ys) e = ap suc (length_zip2 f xs ys (omega arith))

-- a block has 16 words
pub length_block_words : (key : Bytes) (counter : ℕ) (nonce : Bytes) → length (block_words key counter nonce) ≡ 16
unfolding initial_state_of
length_block_words key counter nonce =
    let state = initial_state_of key counter nonce in
    length_zip2 add32 (double_rounds 10 state) state (length_double_rounds 10 state)

length_serialised : (words : Words) → length (serialised words) ≡ 4 * length words
length_serialised [] = refl
length_serialised (w ∷ words) =
    let e = length-append (little 4 w) (serialised words) in
    let r = length_serialised words in
    omega arith

-- a block has 64 bytes
pub length_block : (key : Bytes) (counter : ℕ) (nonce : Bytes) → length (block key counter nonce) ≡ 64
length_block key counter nonce =
    let s = length_serialised (block_words key counter nonce) in
    let n = length_block_words key counter nonce in
    omega arith

sums_fit : (xs ys : Words) (i : ℕ) → get_or (zip2 add32 xs ys) i 0 < 2 ^ 32
sums_fit [] ys i = lit< tt
sums_fit (x ∷ xs) [] i = lit< tt
sums_fit (x ∷ xs) (y ∷ ys) zero = omega arith
sums_fit (x ∷ xs) (y ∷ ys) (suc i) = sums_fit xs ys i

-- each word of a block fits 32 bits
pub block_words_fit : (key : Bytes) (counter : ℕ) (nonce : Bytes) (i : ℕ) → get_or (block_words key counter nonce) i 0 < 2 ^ 32
block_words_fit key counter nonce i =
    let state = initial_state_of key counter nonce in
    sums_fit (double_rounds 10 state) state i

little_fits : (k n : ℕ) → All (λ b. b < 256) (little k n)
little_fits zero n = tt
little_fits (suc k) n = (omega arith, little_fits k (n / 256))

all_append : (xs ys : Bytes) → All (λ b. b < 256) xs → All (λ b. b < 256) ys → All (λ b. b < 256) (xs ++ ys)
all_append [] ys p q = q
all_append (x ∷ xs) ys p q = (p.0, all_append xs ys p.1 q)

serialised_fits : (words : Words) → All (λ b. b < 256) (serialised words)
serialised_fits [] = tt
serialised_fits (w ∷ words) = all_append (little 4 w) (serialised words) (little_fits 4 w) (serialised_fits words)

-- each byte of a block is below 256
pub block_fits : (key : Bytes) (counter : ℕ) (nonce : Bytes) → All (λ b. b < 256) (block key counter nonce)
block_fits key counter nonce = serialised_fits (block_words key counter nonce)

-- each word of the state fits 64 bits
abbrev Fits64 : SipState → Type 0
Fits64 s = (s.v0 < 2 ^ 64) × (s.v1 < 2 ^ 64) × (s.v2 < 2 ^ 64) × (s.v3 < 2 ^ 64)

sum_fits : (x y : ℕ) → add64 x y < 2 ^ 64
sum_fits x y = omega arith

rotation_fits : (x n : ℕ) → x < 2 ^ 64 → rotate64 x n < 2 ^ 64
rotation_fits x n h =
    let low : (x * 2 ^ n) % 2 ^ 64 < 2 ^ 64 = omega arith in
    let high : x / 2 ^ (64 - n) < 2 ^ 64 = omega (arith, shr_le x (64 - n)) in
    or_lt 64 ((x * 2 ^ n) % 2 ^ 64) (x / 2 ^ (64 - n)) low high

round_fits : (s : SipState) → Fits64 s → Fits64 (sip_round s)
unfolding sip_round
round_fits s h =
    let a0 = sum_fits s.v0 s.v1 in
    let a2 = sum_fits s.v2 s.v3 in
    let a1 = xor_lt 64 _ _ (rotation_fits s.v1 13 h.1) a0 in
    let a3 = xor_lt 64 _ _ (rotation_fits s.v3 16 h.3) a2 in
    let b2 = sum_fits _ _ in
    let b0 = sum_fits _ _ in
    (b0, xor_lt 64 _ _ (rotation_fits _ 17 a1) b2, rotation_fits _ 32 b2, xor_lt 64 _ _ (rotation_fits _ 21 a3) b0)

compressed_fits : (m : ℕ) (s : SipState) → m < 2 ^ 64 → Fits64 s → Fits64 (compressed m s)
compressed_fits m s l h =
    let mixed : Fits64 (word_in m s) = (h.0, h.1, h.2, xor_lt 64 s.v3 m h.3 l) in
    let t = round_fits _ (round_fits (word_in m s) mixed) in
    (xor_lt 64 _ m t.0 l, t.1, t.2, t.3)

-- k bytes spell a number below 256 ^ k
number_fits : (k : ℕ) (bs : Bytes) → All (λ b. b < 256) bs → number (take k bs) < 256 ^ k
number_fits zero bs p = lit< tt
number_fits (suc k) [] p =
    let w : 256 ^ suc k ≡ 256 * 256 ^ k = pow-succ' 256 k in
    let r = number_fits k [] tt in
    omega arith
number_fits (suc k) (b ∷ bs) p =
    let w : 256 ^ suc k ≡ 256 * 256 ^ k = pow-succ' 256 k in
    let low : b < 256 = p.0 in
    let r = number_fits k bs p.1 in
    omega arith

dropped_fits : (i : ℕ) (bs : Bytes) → All (λ b. b < 256) bs → All (λ b. b < 256) (drop i bs)
dropped_fits zero bs p = p
dropped_fits (suc i) [] p = tt
dropped_fits (suc i) (b ∷ bs) p = dropped_fits i bs p.1

word_fits : (bs : Bytes) (i : ℕ) → All (λ b. b < 256) bs → word_at bs i < 2 ^ 64
word_fits bs i p = number_fits 8 (drop i bs) (dropped_fits i bs p)

last_word_fits : (message : Bytes) → All (λ b. b < 256) message → last_word message < 2 ^ 64
last_word_fits message p =
    let i = length message / 8 * 8 in
    let few : length (drop i message) ≤ 7 = omega (arith, length-drop i message) in
    let all = ap number (take_all 7 (drop i message) few) in
    let rest : number (take 7 (drop i message)) < 2 ^ 56 = number_fits 7 (drop i message) (dropped_fits i message p) in
    omega arith

compressed_words_fit : (message : Bytes) (n : ℕ) (s : SipState) → All (λ b. b < 256) message → Fits64 s → Fits64 (compressed_words message n s)
compressed_words_fit message zero s p h = h
compressed_words_fit message (suc n) s p h =
    compressed_fits (word_at message (n * 8)) _ (word_fits message (n * 8) p) (compressed_words_fit message n s p h)

initialised_fits : (key : Bytes) → All (λ b. b < 256) key → Fits64 (initialised key)
initialised_fits key p =
    let k0 = word_fits key 0 p in
    let k1 = word_fits key 8 p in
    (xor_lt 64 _ _ k0 (lit< tt), xor_lt 64 _ _ k1 (lit< tt), xor_lt 64 _ _ k0 (lit< tt), xor_lt 64 _ _ k1 (lit< tt))

finalised_fits : (s : SipState) → Fits64 s → finalised s < 2 ^ 64
finalised_fits s h =
    let start : Fits64 (marked s) = (h.0, h.1, xor_lt 64 s.v2 0xff h.2 (lit< tt), h.3) in
    let t = round_fits _ (round_fits _ (round_fits _ (round_fits (marked s) start))) in
    xor_lt 64 _ _ (xor_lt 64 _ _ (xor_lt 64 _ _ t.0 t.1) t.2) t.3

-- a tag fits 64 bits, where the key and the message are bytes
pub siphash_fits : (key message : Bytes) → All (λ b. b < 256) key → All (λ b. b < 256) message → siphash key message < 2 ^ 64
siphash_fits key message p q =
    let whole = compressed_words_fit message (length message / 8) (initialised key) q (initialised_fits key p) in
    finalised_fits _ (compressed_fits (last_word message) _ (last_word_fits message q) whole)
