-- The laws of little-endian numbers, over the width.
use Rattle.std.proofs.Common.{◌≡◌, ℕ, zero, suc, ◌+◌, ◌*◌, ◌/◌, ◌%◌, ◌^◌, ◌<◌, [], ◌∷◌, length, sym, refl, ap, ◌∙◌, arith}
use native.Mathlib.Nat.{div-div-eq-div-mul, pow-succ'}
use Rattle.std.specs.List.{AllByRecursion as All}
use Rattle.layout.specs.Numbers.{Bytes, little, number}

pub length_little : (k n : ℕ) → length (little k n) ≡ k
length_little zero n = refl
length_little (suc k) n = ap suc (length_little k (n / 256))

-- bytes made of a number spell it, where it fits
pub number_little : (k n : ℕ) → n < 256 ^ k → number (little k n) ≡ n
number_little zero n h = omega arith
number_little (suc k) n h =
    let w : 256 ^ suc k ≡ 256 * 256 ^ k = pow-succ' 256 k in
    let e = number_little k (n / 256) (omega arith) in
    omega arith

-- a number made of bytes gives them back
pub little_number : (bs : Bytes) → All (λ b. b < 256) bs → little (length bs) (number bs) ≡ bs
little_number [] h = refl
little_number (b ∷ bs) h =
    let l : b < 256 = h.0 in
    let low : (b + 256 * number bs) % 256 ≡ b = omega arith in
    let high : (b + 256 * number bs) / 256 ≡ number bs = omega arith in
    ap (λ (x : ℕ). x ∷ little (length bs) ((b + 256 * number bs) / 256)) low
    ∙ (ap (λ (x : ℕ). b ∷ little (length bs) x) high ∙ ap (λ (xs : Bytes). b ∷ xs) (little_number bs h.1))

-- a byte further on, in one division
further : (n a b m : ℕ) → a * b ≡ m → n / m ≡ n / a / b
further n a b m e = sym (div-div-eq-div-mul n a b ∙ ap (λ (k : ℕ). n / k) e)

-- what the language's own conversions give, at the widths in use
pub little_four : (n : ℕ) → n % 256 ∷ n / 256 % 256 ∷ n / 65536 % 256 ∷ n / 16777216 % 256 ∷ [] ≡ little 4 n
little_four n =
    let two = further n 256 256 65536 refl in
    let three = further n 65536 256 16777216 refl ∙ ap (λ (k : ℕ). k / 256) two in
    cc

pub little_eight : (n : ℕ)
    → n % 256 ∷ n / 256 % 256 ∷ n / 65536 % 256 ∷ n / 16777216 % 256
    ∷ n / 4294967296 % 256 ∷ n / 1099511627776 % 256 ∷ n / 281474976710656 % 256 ∷ n / 72057594037927936 % 256 ∷ [] ≡ little 8 n
little_eight n =
    let two = further n 256 256 65536 refl in
    let three = further n 65536 256 16777216 refl ∙ ap (λ (k : ℕ). k / 256) two in
    let four = further n 16777216 256 4294967296 refl ∙ ap (λ (k : ℕ). k / 256) three in
    let five = further n 4294967296 256 1099511627776 refl ∙ ap (λ (k : ℕ). k / 256) four in
    let six = further n 1099511627776 256 281474976710656 refl ∙ ap (λ (k : ℕ). k / 256) five in
    let seven = further n 281474976710656 256 72057594037927936 refl ∙ ap (λ (k : ℕ). k / 256) six in
    cc
