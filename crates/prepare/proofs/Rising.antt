-- The entries of a map file, settled one by one on an empty map.
use Rattle.std.proofs.Common.{◌≡◌, ℕ, zero, suc, ◌+◌, ◌<◌, ◌≤◌, Bool, true, false, cond, not, ◌&&◌, ◌||◌, eqb, ltb, leb, ◌≢◌, ◌⊎◌, List, [], ◌∷◌, length, get_or, set, replicate, is_err, Some, None, Ok, Err, Option, Result, sym, refl, ap, ◌∙◌, subst, inl, inr, ⊎_elim, add-one, arith}
use Rattle.std.specs.List.{AllByRecursion as All}
use Rattle.std.proofs.lemmas.List.{length-set, get_or-set_other, length-replicate}
use Rattle.std.proofs.lemmas.Bool.{and_left, and_right, and_from, le-leb, lt-leb, lt-ltb, le-ltb, ltb-true, ltb-false, not_from_true, not_from_false, and_parts, both_ways}
use Rattle.machine.specs.Machine.{occupant_from, occupant}
use Rattle.machine.specs.Makings.{among, entries_fit, settled}
use Rattle.tables.specs.Apart.{held}
use Rattle.tables.specs.Settled.{settle_told}
use Rattle.tables.specs.declared.positions.SettleFault.{SettleFault}
use Rattle.tables.specs.declared.positions.SettleFault.TheVariants.{NoSuchBlock, Occupied}
use Rattle.tables.specs.Views.{Unsettled, UnknownBlock, PlaceOccupied, settle_vacant, settle_of}
use Rattle.tables.proofs.Lone.{free}

-- the map after some entries: so many blocks, the places seen are those held, and from a block on nobody has landed
pub record Ready (n from : ℕ) (seen : List ℕ) (places : List (Option ℕ)) : Type 0 where
  pub size : length places ≡ n
  pub taken : (q : ℕ) → among seen q ≡ held places q
  pub vacant : (b : ℕ) → from ≤ b → get_or places b None ≡ None

none_held : (n q : ℕ) → held (replicate n None) q ≡ false
none_held zero q = refl
none_held (suc n) q = none_held n q

none_there : (n b : ℕ) → get_or (replicate n (let o : Option ℕ = None in o)) b None ≡ None
none_there zero b = refl
none_there (suc n) zero = refl
none_there (suc n) (suc b) = none_there n b

pub ready_empty : (n : ℕ) → Ready n 0 [] (replicate n None)
ready_empty n = record { size = length-replicate n None; taken = λ q. sym (none_held n q); vacant = λ b h. none_there n b }

held_set : (places : List (Option ℕ)) (b p q : ℕ) → b < length places → get_or places b None ≡ None → held (set places b (Some p)) q ≡ (eqb p q || held places q)
held_set [] b p q h e = absurd (omega arith)
held_set (None ∷ places) zero p q h e = refl
held_set (Some r ∷ places) zero p q h e = let z : ◌≡◌ {A = ℕ} 0 1 = cc in absurd (omega arith)
held_set (None ∷ places) (suc b) p q h e = held_set places b p q (omega arith) e
held_set (Some r ∷ places) (suc b) p q h e =
    ap (λ (t : Bool). eqb r q || t) (held_set places b p q (omega arith) e) ∙ swap (eqb r q) (eqb p q) (held places q)
  where
    swap : (x y z : Bool) → (x || (y || z)) ≡ (y || (x || z))
    swap true true z = refl
    swap true false z = refl
    swap false true z = refl
    swap false false z = refl

held_some : (i : ℕ) (places : List (Option ℕ)) (p k : ℕ) → occupant_from i places p ≡ Some k → held places p ≡ true
held_some i [] p k e = let z : ◌≡◌ {A = ℕ} 0 1 = cc in absurd (omega arith)
held_some i (None ∷ places) p k e = held_some (suc i) places p k e
held_some i (Some q ∷ places) p k e =
    (elim (eqb q p) as (λ t. cond t (Some i) (occupant_from (suc i) places p) ≡ Some k → (t || held places p) ≡ true)
    [ true ↦ (λ h. refl) | false ↦ (λ h. held_some (suc i) places p k h) ]) e

-- a settling that was granted
pub record SettledAt (places after : List (Option ℕ)) (b p : ℕ) : Type 0 where
  pub below : b < length places
  pub free_place : held places p ≡ false
  pub placed_there : after ≡ set places b (Some p)

pub settling : (places after : List (Option ℕ)) (b p : ℕ) → (Ok tt, after) ≡ settle_of places b p → SettledAt places after b p
settling places after b p e = go (ltb b (length places)) refl (occupant places p) refl e
  where
    go : (t : Bool) → ltb b (length places) ≡ t → (o : Option ℕ) → occupant places p ≡ o
        → ◌≡◌ {A = Result (Unit {0}) Unsettled × List (Option ℕ)} (Ok tt, after) (cond t (settle_vacant places b p o) (Err UnknownBlock, places)) → SettledAt places after b p
    go true l None f k = record { below = ltb-true _ _ l; free_place = free 0 places p f; placed_there = ap (λ (x : Result (Unit {0}) Unsettled × List (Option ℕ)). x.1) k }
    go true l (Some j) f k =
        let w : ◌≡◌ {A = Result (Unit {0}) Unsettled} (Ok tt) (Err PlaceOccupied) = ap (λ (x : Result (Unit {0}) Unsettled × List (Option ℕ)). x.0) k in
        let z : ◌≡◌ {A = ℕ} 0 1 = cc in absurd (omega arith)
    go false l o f k =
        let w : ◌≡◌ {A = Result (Unit {0}) Unsettled} (Ok tt) (Err UnknownBlock) = ap (λ (x : Result (Unit {0}) Unsettled × List (Option ℕ)). x.0) k in
        let z : ◌≡◌ {A = ℕ} 0 1 = cc in absurd (omega arith)

-- one that was denied: no such block, or a place that some block has
pub unsettling : (places after : List (Option ℕ)) (b p : ℕ) (u : Unsettled) → (Err u, after) ≡ settle_of places b p → (length places ≤ b) ⊎ (held places p ≡ true)
unsettling places after b p u e = go (ltb b (length places)) refl (occupant places p) refl e
  where
    go : (t : Bool) → ltb b (length places) ≡ t → (o : Option ℕ) → occupant places p ≡ o
        → ◌≡◌ {A = Result (Unit {0}) Unsettled × List (Option ℕ)} (Err u, after) (cond t (settle_vacant places b p o) (Err UnknownBlock, places)) → (length places ≤ b) ⊎ (held places p ≡ true)
    go true l None f k =
        let w : ◌≡◌ {A = Result (Unit {0}) Unsettled} (Err u) (Ok tt) = ap (λ (x : Result (Unit {0}) Unsettled × List (Option ℕ)). x.0) k in
        let z : ◌≡◌ {A = ℕ} 0 1 = cc in absurd (omega arith)
    go true l (Some j) f k = inr (held_some 0 places p j f)
    go false l o f k = inl (ltb-false _ _ l)

-- ---- the test of the entries, one by one

fit_head : (n count from : ℕ) (seen : List ℕ) (e : ℕ × ℕ) (es : List (ℕ × ℕ)) → from ≤ e.0 → e.0 < n → e.1 < count → among seen e.1 ≡ false
    → entries_fit n count from seen (e ∷ es) ≡ entries_fit n count (e.0 + 1) (e.1 ∷ seen) es
fit_head n count from seen e es a b c d =
    let low : (leb from e.0 && ltb e.0 n) ≡ true = and_from _ _ (le-leb _ _ a) (lt-ltb _ _ b) in
    let new : (ltb e.1 count && not (among seen e.1)) ≡ true = and_from _ _ (lt-ltb _ _ c) (not_from_false _ d) in
    pass _ _ low ∙ (pass _ _ new ∙ ap (λ (k : ℕ). entries_fit n count k (e.1 ∷ seen) es) (sym (add-one e.0)))
  where
    pass : (t r : Bool) → t ≡ true → (t && r) ≡ r
    pass true r h = refl
    pass false r h = let z : ◌≡◌ {A = ℕ} 0 1 = cc in absurd (omega arith)

-- why the first entry does not fit
abbrev pub Misfit : (n count from : ℕ) (seen : List ℕ) → ℕ × ℕ → Type 0
Misfit n count from seen e = (e.0 < from) ⊎ ((count ≤ e.1) ⊎ ((n ≤ e.0) ⊎ (among seen e.1 ≡ true)))

pub misfit_head : (n count from : ℕ) (seen : List ℕ) (e : ℕ × ℕ) (es : List (ℕ × ℕ)) → Misfit n count from seen e → entries_fit n count from seen (e ∷ es) ≡ false
misfit_head n count from seen e es (inl a) =
    and_left (leb from e.0 && ltb e.0 n) ((ltb e.1 count && not (among seen e.1)) && entries_fit n count (suc e.0) (e.1 ∷ seen) es) (and_left (leb from e.0) (ltb e.0 n) (lt-leb _ _ a))
misfit_head n count from seen e es (inr (inl b)) =
    and_right (leb from e.0 && ltb e.0 n) ((ltb e.1 count && not (among seen e.1)) && entries_fit n count (suc e.0) (e.1 ∷ seen) es)
    (and_left (ltb e.1 count && not (among seen e.1)) (entries_fit n count (suc e.0) (e.1 ∷ seen) es) (and_left (ltb e.1 count) (not (among seen e.1)) (le-ltb _ _ b)))
misfit_head n count from seen e es (inr (inr (inl c))) =
    and_left (leb from e.0 && ltb e.0 n) ((ltb e.1 count && not (among seen e.1)) && entries_fit n count (suc e.0) (e.1 ∷ seen) es) (and_right (leb from e.0) (ltb e.0 n) (le-ltb _ _ c))
misfit_head n count from seen e es (inr (inr (inr d))) =
    and_right (leb from e.0 && ltb e.0 n) ((ltb e.1 count && not (among seen e.1)) && entries_fit n count (suc e.0) (e.1 ∷ seen) es)
    (and_left (ltb e.1 count && not (among seen e.1)) (entries_fit n count (suc e.0) (e.1 ∷ seen) es) (and_right (ltb e.1 count) (not (among seen e.1)) (not_from_true _ d)))

-- ---- the loop over the entries

-- with the rest of the entries to come: the map is ready, the rest decides as the whole does, and settling goes on from here
pub record Going (n count : ℕ) (es rest : List (ℕ × ℕ)) (from : ℕ) (places : List (Option ℕ)) : Type 0 where
  pub seen : List ℕ
  pub ready : Ready n from seen places
  pub decides : entries_fit n count from seen rest ≡ entries_fit n count 0 [] es
  pub settles : settled places rest ≡ settled (replicate n None) es
  pub short : All (λ e. (e.0 < 65536) × (e.1 < 65536)) rest

pub going_start : (n count : ℕ) (es rest : List (ℕ × ℕ)) (places : List (Option ℕ)) → rest ≡ es → places ≡ replicate n None → All (λ e. (e.0 < 65536) × (e.1 < 65536)) es
    → Going n count es rest 0 places
going_start n count es rest places f e h =
    subst (λ z. Going n count es z 0 places) (sym f)
    (subst (Going n count es es 0) (sym e) (record { seen = []; ready = ready_empty n; decides = refl; settles = refl; short = h }))

pub going_on : (n count : ℕ) (es rest next : List (ℕ × ℕ)) (from b p : ℕ) (places after : List (Option ℕ)) → rest ≡ (b, p) ∷ next
    → Going n count es rest from places → from ≤ b → p < count → (Ok tt, after) ≡ settle_of places b p → Going n count es next (b + 1) after
going_on n count es rest next from b p places after d g a c e =
    let s = settling places after b p e in
    let r = g.ready in
    let size = r.size in
    let under = s.below in
    let none = r.vacant b a in
    record {
      seen = p ∷ g.seen;
      ready = subst (Ready n (b + 1) (p ∷ g.seen)) (sym s.placed_there) (record {
        size = length-set places b (Some p) ∙ size;
        taken = λ q. ap (λ (t : Bool). eqb p q || t) (r.taken q) ∙ sym (held_set places b p q under none);
        vacant = λ k h. let ne : k ≢ b = omega arith in get_or-set_other places b k (Some p) None ne ∙ r.vacant k (omega arith);
      });
      decides = sym (ap (entries_fit n count from g.seen) d ∙ fit_head n count from g.seen (b, p) next a (omega arith) c (r.taken p ∙ s.free_place)) ∙ g.decides;
      settles = ap (λ (z : List (Option ℕ)). settled z next) s.placed_there ∙ (sym (ap (settled places) d) ∙ g.settles);
      short = (subst (All (λ e. (e.0 < 65536) × (e.1 < 65536))) d g.short).1;
    }

pub going_wrong : (n count : ℕ) (es rest next : List (ℕ × ℕ)) (from b p : ℕ) (places : List (Option ℕ)) → rest ≡ (b, p) ∷ next
    → (g : Going n count es rest from places) → Misfit n count from g.seen (b, p) → entries_fit n count 0 [] es ≡ false
going_wrong n count es rest next from b p places d g m =
    sym g.decides ∙ (ap (entries_fit n count from g.seen) d ∙ misfit_head n count from g.seen (b, p) next m)

pub unsettled_misfit : (n count : ℕ) (es rest : List (ℕ × ℕ)) (from b p : ℕ) (places after : List (Option ℕ)) (u : Unsettled) (g : Going n count es rest from places)
    → (Err u, after) ≡ settle_of places b p → Misfit n count from g.seen (b, p)
unsettled_misfit n count es rest from b p places after u g e =
    let size = g.ready.size in
    ⊎_elim (λ h. inr (inr (inl (omega arith)))) (λ h. inr (inr (inr (g.ready.taken p ∙ h)))) (unsettling places after b p u e)

-- ---- the answers of the code

pub was_denied : (r : Result (Unit {0}) SettleFault) → true ≡ is_err r → (u : Unsettled) × (settle_told r ≡ Err u)
was_denied (Ok x) e = absurd (both_ways true e refl)
was_denied (Err NoSuchBlock) e = (UnknownBlock, refl)
was_denied (Err Occupied) e = (PlaceOccupied, refl)

pub was_granted : (r : Result (Unit {0}) SettleFault) → false ≡ is_err r → settle_told r ≡ Ok tt
was_granted (Ok x) e = refl
was_granted (Err f) e = absurd (both_ways false refl e)

pub with_answer : (t u : Result (Unit {0}) Unsettled) (after : List (Option ℕ)) (o : Result (Unit {0}) Unsettled × List (Option ℕ)) → t ≡ u → (t, after) ≡ o → (u, after) ≡ o
with_answer t u after o e k = ap (λ (x : Result (Unit {0}) Unsettled). (let y : Result (Unit {0}) Unsettled × List (Option ℕ) = (x, after) in y)) (sym e) ∙ k

-- the places of entries that fit are on the card
pub fit_places : (n count from : ℕ) (seen : List ℕ) (es : List (ℕ × ℕ)) → entries_fit n count from seen es ≡ true → All (λ e. e.1 < count) es
fit_places n count from seen [] e = tt
fit_places n count from seen (x ∷ es) e =
    let a = (and_parts (leb from x.0 && ltb x.0 n) ((ltb x.1 count && not (among seen x.1)) && entries_fit n count (suc x.0) (x.1 ∷ seen) es) e).1 in
    let b = and_parts (ltb x.1 count && not (among seen x.1)) (entries_fit n count (suc x.0) (x.1 ∷ seen) es) a in
    (ltb-true _ _ (and_parts (ltb x.1 count) (not (among seen x.1)) b.0).0, fit_places n count (suc x.0) (x.1 ∷ seen) es b.1)
