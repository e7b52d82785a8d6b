-- The front of a value copied over zeros is the value filled with zeros.
use Rattle.std.proofs.Common.{◌≡◌, ℕ, zero, suc, ◌-◌, ◌≤◌, min, [], ◌∷◌, ◌++◌, length, take, drop, sym, refl, ap, ◌∙◌, ⊎_elim, arith}
use Rattle.std.proofs.lemmas.List.{take_all, take-replicate, drop-replicate, length-take}
use Rattle.std.proofs.lemmas.Bool.{cases_lt}
use Rattle.layout.specs.Numbers.{Bytes}
use Rattle.layout.specs.Layouts.{zeros, filled}

take_past : (v z : Bytes) (n : ℕ) → length v ≤ n → take n (v ++ z) ≡ v ++ take (n - length v) z
take_past [] z n h = let e : n - 0 ≡ n = omega arith in sym (ap (λ k. take k z) e)
take_past (x ∷ v) z zero h = absurd (omega arith)
take_past (x ∷ v) z (suc n) h =
    let e : n - length v ≡ suc n - suc (length v) = omega arith in
    ap (λ r. x ∷ r) (take_past v z n (omega arith)) ∙ ap (λ k. x ∷ (v ++ take k z)) e

-- what is cut off anyway may be cut off before
take_front : (n : ℕ) (v z : Bytes) → take n (take n v ++ z) ≡ take n (v ++ z)
take_front zero v z = refl
take_front (suc n) [] z = refl
take_front (suc n) (x ∷ v) z = ap (λ r. x ∷ r) (take_front n v z)

take_min : (n m : ℕ) (v : Bytes) → m ≡ min (length v) n → take m v ≡ take n v
take_min n m v e =
    ⊎_elim (λ h. let f : m ≡ n = omega arith in ap (λ k. take k v) f) (λ h. take_all m v (omega arith) ∙ sym (take_all n v h)) (cases_lt n (length v))

pub filled_is : (v copied : Bytes) (m : ℕ) → m ≡ min (length v) 48 → copied ≡ take m v → copied ++ drop (length (take m v)) zeros ≡ filled v
unfolding filled
filled_is v copied m e c =
    let kept = take m v in
    let l : length kept ≤ 48 = simp length-take (omega arith) in
    let k : 48 - length kept ≤ 48 = omega arith in
    ap (λ (z : Bytes). z ++ drop (length kept) zeros) c
    ∙ (ap (λ (r : Bytes). kept ++ r) (drop-replicate (length kept) 48 0 ∙ sym (take-replicate (48 - length kept) 48 0 k))
    ∙ (sym (take_past kept zeros 48 l)
    ∙ (ap (λ (u : Bytes). take 48 (u ++ zeros)) (take_min 48 m v e) ∙ take_front 48 v zeros)))
