-- Bytes combined with a keystream by exclusive or.
use Rattle.std.specs.Prelude.{◌≡◌, suc, ◌≤◌, [], ◌∷◌, length, bit_xor, refl}
use Rattle.std.proofs.Common.{ap, ◌∙◌, arith}
use Rattle.std.specs.Int.Bits.{xor_assoc, xor_self, xor_zero_r}
use Rattle.std.specs.Simd.Lanes.{zip2}
use Rattle.layout.specs.Numbers.{Bytes}

pub length_combined : (xs ks : Bytes) → length xs ≤ length ks → length (zip2 bit_xor xs ks) ≡ length xs
length_combined [] ks h = refl
length_combined (x ∷ xs) [] h = absurd (omega arith)
length_combined (x ∷ xs) (k ∷ ks) h = ap suc (length_combined xs ks (omega arith))

-- combining once more takes the keystream off again
pub combined_twice : (xs ks : Bytes) → length xs ≤ length ks → zip2 bit_xor (zip2 bit_xor xs ks) ks ≡ xs
combined_twice [] ks h = refl
combined_twice (x ∷ xs) [] h = absurd (omega arith)
combined_twice (x ∷ xs) (k ∷ ks) h =
    let here : bit_xor (bit_xor x k) k ≡ x = xor_assoc x k k ∙ (ap (bit_xor x) (xor_self k) ∙ xor_zero_r x) in
    let rest = combined_twice xs ks (omega arith) in
    cc
