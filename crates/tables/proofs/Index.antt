-- An index by place, from making to settling.
use Rattle.std.proofs.Common.{◌≡◌, ℕ, zero, suc, ◌+◌, ◌<◌, true, false, cond, not, eqb, List, [], ◌∷◌, length, get_or, set, replicate, Some, None, Option, sym, refl, ap, ◌∙◌, subst, ⊎_elim, arith}
use Rattle.std.proofs.lemmas.List.{length-set, length-map, get_or-map, get_or-set_same, get_or-set_other, map-set}
use Rattle.std.proofs.lemmas.Bool.{and_parts, or_parts, not-true, eqb-false, eq-eqb, ne_eqb, cond-true, cond-false, cases_eq}
use Rattle.layout.specs.declared.names.Block.{Block}
use Rattle.layout.specs.declared.names.Place.{Place}
use Rattle.machine.specs.Machine.{occupant_from, occupant}
use Rattle.tables.specs.Apart.{held, apart}
use Rattle.tables.specs.Index.{Indexes}
use Rattle.tables.specs.Views.{place_of, block_of, placed, indexed, noted}

-- where nobody has the place
pub none_from : (i : ℕ) (xs : List (Option ℕ)) (q : ℕ) → held xs q ≡ false → occupant_from i xs q ≡ None
none_from i [] q h = refl
none_from i (None ∷ xs) q h = none_from (suc i) xs q h
none_from i (Some r ∷ xs) q h =
    let o = or_parts (eqb r q) (held xs q) h in cond-false (eqb r q) _ _ o.0 ∙ none_from (suc i) xs q o.1

-- the place that a block was given
pub new_from : (i : ℕ) (xs : List (Option ℕ)) (b p : ℕ) → b < length xs → held xs p ≡ false → occupant_from i (set xs b (Some p)) p ≡ Some (i + b)
new_from i [] b p l h = absurd (omega arith)
new_from i (x ∷ xs) zero p l h = cond-true (eqb p p) _ _ (eq-eqb p p refl) ∙ ap Some (let e : i ≡ i + 0 = omega arith in e)
new_from i (None ∷ xs) (suc b) p l h = new_from (suc i) xs b p (omega arith) h ∙ ap Some (let e : suc i + b ≡ i + suc b = omega arith in e)
new_from i (Some r ∷ xs) (suc b) p l h =
    let o = or_parts (eqb r p) (held xs p) h in
    cond-false (eqb r p) _ _ o.0 ∙ (new_from (suc i) xs b p (omega arith) o.1 ∙ ap Some (let e : suc i + b ≡ i + suc b = omega arith in e))

-- the place that it had, which was its alone
pub former_from : (i : ℕ) (xs : List (Option ℕ)) (b p q : ℕ) → apart xs ≡ true → get_or xs b None ≡ Some q → (p ≡ q → ⊥) → occupant_from i (set xs b (Some p)) q ≡ None
former_from i [] b p q a g ne = let z : ◌≡◌ {A = ℕ} 0 1 = cc in absurd (omega arith)
former_from i (None ∷ xs) zero p q a g ne = let z : ◌≡◌ {A = ℕ} 0 1 = cc in absurd (omega arith)
former_from i (Some r ∷ xs) zero p q a g ne =
    let n = and_parts (not (held xs r)) (apart xs) a in
    let e : r ≡ q = cc in
    cond-false (eqb p q) _ _ (ne_eqb p q ne) ∙ none_from (suc i) xs q (ap (held xs) (sym e) ∙ not-true _ n.0)
former_from i (None ∷ xs) (suc b) p q a g ne = former_from (suc i) xs b p q a g ne
former_from i (Some r ∷ xs) (suc b) p q a g ne =
    let n = and_parts (not (held xs r)) (apart xs) a in
    cond-false (eqb r q) _ _ (ne_eqb r q (λ e. holds xs b q g (ap (held xs) (sym e) ∙ not-true _ n.0))) ∙ former_from (suc i) xs b p q n.1 g ne
  where
    holds : (ys : List (Option ℕ)) (k s : ℕ) → get_or ys k None ≡ Some s → held ys s ≡ false → ⊥
    holds [] k s f h = let z : ◌≡◌ {A = ℕ} 0 1 = cc in omega arith
    holds (None ∷ ys) zero s f h = let z : ◌≡◌ {A = ℕ} 0 1 = cc in omega arith
    holds (Some r ∷ ys) zero s f h = let e : r ≡ s = cc in eqb-false r s (or_parts (eqb r s) (held ys s) h).0 e
    holds (None ∷ ys) (suc k) s f h = holds ys k s f h
    holds (Some r ∷ ys) (suc k) s f h = holds ys k s f (or_parts (eqb r s) (held ys s) h).1

-- any other place
pub other_from : (i : ℕ) (xs : List (Option ℕ)) (b p q : ℕ) → (get_or xs b None ≡ Some q → ⊥) → (p ≡ q → ⊥) → occupant_from i (set xs b (Some p)) q ≡ occupant_from i xs q
other_from i [] b p q g ne = refl
other_from i (None ∷ xs) zero p q g ne = cond-false (eqb p q) _ _ (ne_eqb p q ne)
other_from i (Some r ∷ xs) zero p q g ne =
    cond-false (eqb p q) _ _ (ne_eqb p q ne) ∙ sym (cond-false (eqb r q) _ _ (ne_eqb r q (λ e. g (ap Some e))))
other_from i (None ∷ xs) (suc b) p q g ne = other_from (suc i) xs b p q g ne
other_from i (Some r ∷ xs) (suc b) p q g ne = ap (cond (eqb r q) (Some i)) (other_from (suc i) xs b p q g ne)

-- an index of a map in which no block has landed
nobody : (i n q : ℕ) → occupant_from i (placed (replicate n None)) q ≡ None
nobody i zero q = refl
nobody i (suc n) q = nobody (suc i) n q

pub fresh_index : (os : List (Option Block)) (ps : List (Option Place)) (m n : ℕ) → os ≡ replicate m None → ps ≡ replicate n None → Indexes (indexed os) (placed ps)
fresh_index os ps m n e f p l =
    (ap (λ z. get_or (indexed z) p None) e ∙ (empty m p ∙ (sym (nobody 0 n p) ∙ ap (λ z. occupant (placed z) p) (sym f))))
  where
    empty : (k q : ℕ) → get_or (indexed (replicate k None)) q None ≡ None
    empty zero q = refl
    empty (suc k) zero = refl
    empty (suc k) (suc q) = empty k q

-- the only clone of none is none
pub none_only : {X : Type 0} (P : Option X → Type 0) → ((x : X) → P (Some x) → ⊥) → (y : Option X) → P y → y ≡ None
none_only P f None k = refl
none_only P f (Some x) k = absurd (f x k)

-- ---- a block that moves to a place that nobody has

abbrev vacated : List (Option ℕ) → Option ℕ → List (Option ℕ)
vacated es None = es
vacated es (Some q) = set es q None

module _ (es xs : List (Option ℕ)) (b p : ℕ) (all : Indexes es xs) (alone : apart xs ≡ true) (unheld : held xs p ≡ false) (below : b < length xs) where
  elsewhere : (o : Option ℕ) → get_or xs b None ≡ o → (k : ℕ) → k < length es → (k ≡ p → ⊥) → get_or (vacated es o) k None ≡ occupant (set xs b (Some p)) k
  elsewhere None e k l ne =
      all k l ∙ sym (other_from 0 xs b p k (λ f. let z : ◌≡◌ {A = ℕ} 0 1 = cc in omega arith) (λ f. ne (sym f)))
  elsewhere (Some q) e k l ne = ⊎_elim former other (cases_eq k q)
    where
      former : k ≡ q → get_or (set es q None) k None ≡ occupant (set xs b (Some p)) k
      former f =
          ap (λ (n : ℕ). get_or (set es q None) n None) f
          ∙ (get_or-set_same es q None None (let m : q < length es = omega arith in m)
          ∙ sym (former_from 0 xs b p k alone (e ∙ ap Some (sym f)) (λ g. ne (sym g))))

      other : (k ≡ q → ⊥) → get_or (set es q None) k None ≡ occupant (set xs b (Some p)) k
      other f =
          get_or-set_other es q k None None f
          ∙ (all k l ∙ sym (other_from 0 xs b p k (λ g. f (let s : k ≡ q = cc in s)) (λ g. ne (sym g))))

  size : (o : Option ℕ) → length (vacated es o) ≡ length es
  size None = refl
  size (Some q) = length-set es q None

  moves : Indexes (set (vacated es (get_or xs b None)) p (Some b)) (set xs b (Some p))
  moves k l = (⊎_elim here (λ f. get_or-set_other (vacated es (get_or xs b None)) p k (Some b) None f ∙ elsewhere (get_or xs b None) refl k k_below f) (cases_eq k p))
    where
      sized : length (vacated es (get_or xs b None)) ≡ length es
      sized = size (get_or xs b None)

      k_below : k < length es
      k_below = let n = length-set (vacated es (get_or xs b None)) p (Some b) in let m = sized in omega arith

      here : k ≡ p → get_or (set (vacated es (get_or xs b None)) p (Some b)) k None ≡ occupant (set xs b (Some p)) k
      here f =
          let p_below : p < length (vacated es (get_or xs b None)) = (let m = sized in let n = k_below in omega arith) in
          ap (λ (j : ℕ). get_or (set (vacated es (get_or xs b None)) p (Some b)) j None) f
          ∙ (get_or-set_same (vacated es (get_or xs b None)) p (Some b) None p_below
          ∙ (sym (new_from 0 xs b p below unheld ∙ ap Some (let z : 0 + b ≡ b = omega arith in z)) ∙ ap (occupant (set xs b (Some p))) (sym f)))

vacating : (os : List (Option Block)) (former : Option Place) → indexed (noted os former None) ≡ vacated (indexed os) (place_of former)
vacating os None = refl
vacating os (Some q) = map-set block_of os q.0 None

pub settled_index : (os mid : List (Option Block)) (ps : List (Option Place)) (b : Block) (p : Place) (former : Option Place)
    → Indexes (indexed os) (placed ps) → apart (placed ps) ≡ true → held (placed ps) p.0 ≡ false → b.0 < length ps → former ≡ get_or ps b.0 former
    → mid ≡ noted os former None → (after : List (Option Block)) → after ≡ noted mid (Some p) (Some b) → Indexes (indexed after) (placed (set ps b.0 (Some p)))
settled_index os mid ps b p former all alone unheld below e f after g =
    let at : place_of former ≡ get_or (placed ps) b.0 None = ap place_of e ∙ sym (get_or-map place_of ps b.0 former None below) in
    let entries : indexed after ≡ set (vacated (indexed os) (get_or (placed ps) b.0 None)) p.0 (Some b.0) =
    ap indexed g ∙ (map-set block_of mid p.0 (Some b) ∙ ap (λ z. set z p.0 (Some b.0)) (ap indexed f ∙ (vacating os former ∙ ap (vacated (indexed os)) at))) in
    let all_after = moves (indexed os) (placed ps) b.0 p.0 all alone unheld (simp length-map below) in
    subst (λ z. Indexes z (placed (set ps b.0 (Some p)))) (sym entries)
    (subst (λ z. Indexes (set (vacated (indexed os) (get_or (placed ps) b.0 None)) p.0 (Some b.0)) z) (sym (map-set place_of ps b.0 (Some p))) all_after)
