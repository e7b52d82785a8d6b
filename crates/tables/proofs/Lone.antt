-- No two blocks have one place, from making to settling.
use Rattle.std.proofs.Common.{◌≡◌, ℕ, zero, suc, true, false, cond, not, ◌||◌, eqb, List, [], ◌∷◌, set, replicate, Some, None, Option, sym, refl, ap}
use Rattle.std.proofs.lemmas.Bool.{and_parts, and_from, or_parts, or_from, not-true, not_from_false, eqb-false, ne_eqb}
use Rattle.machine.specs.Machine.{occupant_from}
use Rattle.tables.specs.Apart.{held, apart}
use Rattle.tables.specs.Views.{placed}

pub free : (i : ℕ) (xs : List (Option ℕ)) (p : ℕ) → occupant_from i xs p ≡ None → held xs p ≡ false
free i [] p e = refl
free i (None ∷ xs) p e = free (suc i) xs p e
free i (Some q ∷ xs) p e =
    (elim (eqb q p) as (λ t. cond t (Some i) (occupant_from (suc i) xs p) ≡ None → (t || held xs p) ≡ false)
    [ true ↦ (λ h. cc) | false ↦ (λ h. free (suc i) xs p h) ]) e

other : (xs : List (Option ℕ)) (b p q : ℕ) → held xs q ≡ false → eqb p q ≡ false → held (set xs b (Some p)) q ≡ false
other [] b p q h e = refl
other (None ∷ xs) zero p q h e = or_from _ _ e h
other (Some r ∷ xs) zero p q h e = or_from _ _ e (or_parts _ _ h).1
other (None ∷ xs) (suc b) p q h e = other xs b p q h e
other (Some r ∷ xs) (suc b) p q h e = or_from _ _ (or_parts (eqb r q) (held xs q) h).0 (other xs b p q (or_parts (eqb r q) (held xs q) h).1 e)

pub still : (xs : List (Option ℕ)) (b p : ℕ) → held xs p ≡ false → apart xs ≡ true → apart (set xs b (Some p)) ≡ true
still [] b p h a = refl
still (None ∷ xs) zero p h a = and_from _ _ (not_from_false _ h) a
still (Some r ∷ xs) zero p h a = and_from _ _ (not_from_false _ (or_parts (eqb r p) (held xs p) h).1) (and_parts (not (held xs r)) (apart xs) a).1
still (None ∷ xs) (suc b) p h a = still xs b p h a
still (Some r ∷ xs) (suc b) p h a =
    let o = or_parts (eqb r p) (held xs p) h in
    let n = and_parts (not (held xs r)) (apart xs) a in
    let e : eqb p r ≡ false = ne_eqb p r (λ q. eqb-false r p o.0 (sym q)) in
    and_from _ _ (not_from_false _ (other xs b p r (not-true _ n.0) e)) (still xs b p o.1 n.1)

pub fresh : (n : ℕ) → apart (placed (replicate n None)) ≡ true
fresh zero = refl
fresh (suc n) = fresh n

pub none_placed : (n : ℕ) → placed (replicate n None) ≡ replicate n None
none_placed zero = refl
none_placed (suc n) = ap (λ (z : List (Option ℕ)). None ∷ z) (none_placed n)
