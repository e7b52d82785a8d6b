-- Two lists of records woven into one: how long it is, and where each record lies.
use Rattle.std.specs.Prelude.{◌≡◌, ℕ, zero, suc, ◌*◌, ◌/◌, ◌%◌, ◌<◌, ◌≤◌, min, ◌⊎◌, List, [], ◌∷◌, length, get_or, take, set, slice_index_or, slice_set, refl}
use Rattle.std.proofs.Common.{ap, ◌∙◌, inl, inr, ⊎_elim, arith}
use Rattle.std.proofs.lemmas.List.{length-take, get_or-take}
use Rattle.std.proofs.lemmas.Bool.{cases_eq}
use Rattle.layout.specs.Numbers.{Bytes}
use Rattle.card.specs.Cards.{most}
use Rattle.card.specs.Kinds.{woven, split}
use Rattle.card.specs.Layers.{LiesAt}
use Rattle.card.specs.Through.{lies_at}
use Rattle.card.specs.Windows.{set_in_front}

parity : (p : ℕ) → (p % 2 ≡ 0) ⊎ (p % 2 ≡ 1)
parity p = ⊎_elim (λ e. inl e) (λ n. inr (omega arith)) (cases_eq (p % 2) 0)

length_woven : (es os : List Bytes) → length (woven es os) ≡ 2 * min (length es) (length os)
unfolding woven
length_woven [] os = omega arith
length_woven (e ∷ es) [] = omega arith
length_woven (e ∷ es) (o ∷ os) = omega (arith, length_woven es os)

-- the record at an even place, and at an odd one
get_or_even : (q p : ℕ) (es os : List Bytes) → p ≡ 2 * q → q < length es → q < length os → slice_index_or (woven es os) p [] ≡ slice_index_or es q []
unfolding woven
get_or_even q p [] os i h k = absurd (omega arith)
get_or_even q p (e ∷ es) [] i h k = absurd (omega arith)
get_or_even zero p (e ∷ es) (o ∷ os) i h k = ap (λ (n : ℕ). get_or (e ∷ o ∷ woven es os) n []) i
get_or_even (suc q) p (e ∷ es) (o ∷ os) i h k =
    let j : p ≡ suc (suc (2 * q)) = omega arith in
    ap (λ (n : ℕ). get_or (e ∷ o ∷ woven es os) n []) j ∙ get_or_even q (2 * q) es os refl (omega arith) (omega arith)

get_or_odd : (q p : ℕ) (es os : List Bytes) → p ≡ suc (2 * q) → q < length es → q < length os → slice_index_or (woven es os) p [] ≡ slice_index_or os q []
unfolding woven
get_or_odd q p [] os i h k = absurd (omega arith)
get_or_odd q p (e ∷ es) [] i h k = absurd (omega arith)
get_or_odd zero p (e ∷ es) (o ∷ os) i h k = ap (λ (n : ℕ). get_or (e ∷ o ∷ woven es os) n []) i
get_or_odd (suc q) p (e ∷ es) (o ∷ os) i h k =
    let j : p ≡ suc (suc (suc (2 * q))) = omega arith in
    ap (λ (n : ℕ). get_or (e ∷ o ∷ woven es os) n []) j ∙ get_or_odd q (suc (2 * q)) es os refl (omega arith) (omega arith)

-- a record replaced on one side is replaced at its place in turn
set_even : (q p : ℕ) (es os : List Bytes) (r : Bytes) → p ≡ 2 * q → slice_set (woven es os) p r ≡ woven (slice_set es q r) os
unfolding woven
set_even q p [] os r i = refl
set_even zero p (e ∷ es) [] r i = refl
set_even (suc q) p (e ∷ es) [] r i = refl
set_even zero p (e ∷ es) (o ∷ os) r i = ap (λ (n : ℕ). set (e ∷ o ∷ woven es os) n r) i
set_even (suc q) p (e ∷ es) (o ∷ os) r i =
    let j : p ≡ suc (suc (2 * q)) = omega arith in
    ap (λ (n : ℕ). set (e ∷ o ∷ woven es os) n r) j ∙ ap (λ (rs : List Bytes). e ∷ o ∷ rs) (set_even q (2 * q) es os r refl)

set_odd : (q p : ℕ) (es os : List Bytes) (r : Bytes) → p ≡ suc (2 * q) → slice_set (woven es os) p r ≡ woven es (slice_set os q r)
unfolding woven
set_odd q p [] os r i = refl
set_odd q p (e ∷ es) [] r i = refl
set_odd zero p (e ∷ es) (o ∷ os) r i = ap (λ (n : ℕ). set (e ∷ o ∷ woven es os) n r) i
set_odd (suc q) p (e ∷ es) (o ∷ os) r i =
    let j : p ≡ suc (suc (suc (2 * q))) = omega arith in
    ap (λ (n : ℕ). set (e ∷ o ∷ woven es os) n r) j ∙ ap (λ (rs : List Bytes). e ∷ o ∷ rs) (set_odd q (suc (2 * q)) es os r refl)

-- the count of a split card
pub length_split : (es os : List Bytes) → length (split es os) ≡ min (2 * min (length es) (length os)) most
unfolding split
length_split es os = length-take most (woven es os) ∙ (ap (min most) (length_woven es os) ∙ omega arith)

-- each place has its place below on either card
half_below : (p : ℕ) (es os : List Bytes) → p < length (split es os) → (p / 2 < length es) × (p / 2 < length os)
half_below p es os h = let l = length_split es os in (omega arith, omega arith)

in_front : (p : ℕ) (es os : List Bytes) → p < length (split es os) → slice_index_or (split es os) p [] ≡ slice_index_or (woven es os) p []
unfolding split
in_front p es os h = get_or-take most (woven es os) p [] (omega (arith, length_split es os))

at_even : (p : ℕ) (es os : List Bytes) → p < length (split es os) → p % 2 ≡ 0 → slice_index_or (split es os) p [] ≡ slice_index_or es (p / 2) []
at_even p es os h e =
    let half = half_below p es os h in
    in_front p es os h ∙ get_or_even (p / 2) p es os (omega arith) half.0 half.1

at_odd : (p : ℕ) (es os : List Bytes) → p < length (split es os) → p % 2 ≡ 1 → slice_index_or (split es os) p [] ≡ slice_index_or os (p / 2) []
at_odd p es os h e =
    let half = half_below p es os h in
    in_front p es os h ∙ get_or_odd (p / 2) p es os (omega arith) half.0 half.1

set_at_even : (p : ℕ) (es os : List Bytes) → p % 2 ≡ 0 → (r : Bytes) → slice_set (split es os) p r ≡ split (slice_set es (p / 2) r) os
unfolding split
set_at_even p es os e r = set_in_front most p (woven es os) r ∙ ap (take most) (set_even (p / 2) p es os r (omega arith))

set_at_odd : (p : ℕ) (es os : List Bytes) → p % 2 ≡ 1 → (r : Bytes) → slice_set (split es os) p r ≡ split es (slice_set os (p / 2) r)
unfolding split
set_at_odd p es os e r = set_in_front most p (woven es os) r ∙ ap (take most) (set_odd (p / 2) p es os r (omega arith))

-- an even place lies at half of it on the first card
pub even_lies_at : (p : ℕ) (es os : List Bytes) → p < length (split es os) → p % 2 ≡ 0 → LiesAt (λ rs. split rs os) es p (p / 2)
even_lies_at p es os h e =
    lies_at (λ rs. split rs os) es p (p / 2) h (half_below p es os h).0 (at_even p es os h e) (set_at_even p es os e)

-- and an odd one at half of it, rounded down, on the second
pub odd_lies_at : (p : ℕ) (es os : List Bytes) → p < length (split es os) → p % 2 ≡ 1 → LiesAt (λ rs. split es rs) os p (p / 2)
odd_lies_at p es os h e =
    lies_at (λ rs. split es rs) os p (p / 2) h (half_below p es os h).1 (at_odd p es os h e) (set_at_odd p es os e)

-- the laws of a card
pub split_few : (es os : List Bytes) → length (split es os) ≤ most
split_few es os = omega (arith, length_split es os)

pub split_whole : (es os : List Bytes) → ((p : ℕ) → p < length es → length (slice_index_or es p []) ≡ 64) → ((p : ℕ) → p < length os → length (slice_index_or os p []) ≡ 64)
    → (p : ℕ) → p < length (split es os) → length (slice_index_or (split es os) p []) ≡ 64
split_whole es os evens odds p h =
    let half = half_below p es os h in
    ⊎_elim
    (λ e. ap length (at_even p es os h e) ∙ evens (p / 2) half.0)
    (λ o. ap length (at_odd p es os h o) ∙ odds (p / 2) half.1)
    (parity p)
