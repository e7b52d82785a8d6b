-- The waiting list and the position map as look-ups.
use Rattle.std.proofs.Common.{◌≡◌, ℕ, zero, suc, ◌+◌, ◌<◌, Bool, true, false, cond, eqb, List, [], ◌∷◌, ◌++◌, length, get_or, Some, None, Option, sym, refl, ap, ◌∙◌, ⊎_elim, arith}
use Rattle.std.specs.List.{AllByRecursion as All}
use Rattle.std.proofs.lemmas.List.{get_or_past}
use Rattle.std.proofs.lemmas.Bool.{cond_both, cond-true, cond-false, eqb-true, eqb-false, eq-eqb, ne_eqb, cases_lt}
use Rattle.layout.specs.Numbers.{Bytes}
use Rattle.machine.specs.Machine.{occupant_from, occupant, awaited, altered}

pub none_some : {A : Type 0} (x : A) → ◌≡◌ {A = Option A} None (Some x) → ⊥
none_some x e = let z : ◌≡◌ {A = ℕ} 0 1 = cc in omega arith

pub some_same : {A : Type 0} (x y : A) → Some x ≡ Some y → x ≡ y
some_same x y e = cc

cond_none : {A : Type 0} (t : Bool) (v : A) (o : Option A) → cond t (Some v) o ≡ None → (t ≡ false) × (o ≡ None)
cond_none true v o e = absurd (none_some v (sym e))
cond_none false v o e = (refl, e)

-- ---- the waiting list

-- no block waits twice
abbrev pub Once : List (ℕ × Bytes) → Type 0
Once [] = Unit {0}
Once (w ∷ ws) = (awaited ws w.0 ≡ None) × Once ws

-- an altered entry has the new value, and the other blocks have theirs
pub altered_same : (ws : List (ℕ × Bytes)) (k : ℕ) (v old : Bytes) → awaited ws k ≡ Some old → awaited (altered ws k v) k ≡ Some v
altered_same [] k v old e = absurd (none_some old e)
altered_same (w ∷ ws) k v old e =
    cond_both (eqb w.0 k) ((k, v) ∷ ws) (w ∷ altered ws k v) (λ x. awaited x k ≡ Some v)
    (λ h. cond-true (eqb k k) (Some v) (awaited ws k) (eq-eqb k k refl))
    (λ h. cond-false (eqb w.0 k) (Some w.1) (awaited (altered ws k v) k) h
    ∙ altered_same ws k v old (sym (cond-false (eqb w.0 k) (Some w.1) (awaited ws k) h) ∙ e))

pub altered_other : (ws : List (ℕ × Bytes)) (k : ℕ) (v : Bytes) (b : ℕ) → (k ≡ b → ⊥) → awaited (altered ws k v) b ≡ awaited ws b
altered_other [] k v b ne = refl
altered_other (w ∷ ws) k v b ne =
    cond_both (eqb w.0 k) ((k, v) ∷ ws) (w ∷ altered ws k v) (λ x. awaited x b ≡ awaited (w ∷ ws) b)
    (λ h. cond-false (eqb k b) (Some v) (awaited ws b) (ne_eqb k b ne)
    ∙ sym (cond-false (eqb w.0 b) (Some w.1) (awaited ws b) (ne_eqb w.0 b (λ g. ne (sym (eqb-true w.0 k h) ∙ g)))))
    (λ h. ap (cond (eqb w.0 b) (Some w.1)) (altered_other ws k v b ne))

-- and so has an entry put at the end
pub pushed_same : (ws : List (ℕ × Bytes)) (k : ℕ) (v : Bytes) → awaited ws k ≡ None → awaited (ws ++ (k, v) ∷ []) k ≡ Some v
pushed_same [] k v e = cond-true (eqb k k) (Some v) None (eq-eqb k k refl)
pushed_same (w ∷ ws) k v e =
    let n = cond_none (eqb w.0 k) w.1 (awaited ws k) e in
    cond-false (eqb w.0 k) (Some w.1) (awaited (ws ++ (k, v) ∷ []) k) n.0 ∙ pushed_same ws k v n.1

pub pushed_other : (ws : List (ℕ × Bytes)) (k : ℕ) (v : Bytes) (b : ℕ) → (k ≡ b → ⊥) → awaited (ws ++ (k, v) ∷ []) b ≡ awaited ws b
pushed_other [] k v b ne = cond-false (eqb k b) (Some v) None (ne_eqb k b ne)
pushed_other (w ∷ ws) k v b ne = ap (cond (eqb w.0 b) (Some w.1)) (pushed_other ws k v b ne)

pub once_altered : (ws : List (ℕ × Bytes)) (k : ℕ) (v : Bytes) → Once ws → Once (altered ws k v)
once_altered [] k v h = tt
once_altered (w ∷ ws) k v h =
    cond_both (eqb w.0 k) ((k, v) ∷ ws) (w ∷ altered ws k v) Once
    (λ e. (ap (awaited ws) (sym (eqb-true w.0 k e)) ∙ h.0, h.1))
    (λ e. (altered_other ws k v w.0 (λ g. eqb-false w.0 k e (sym g)) ∙ h.0, once_altered ws k v h.1))

pub once_pushed : (ws : List (ℕ × Bytes)) (k : ℕ) (v : Bytes) → Once ws → awaited ws k ≡ None → Once (ws ++ (k, v) ∷ [])
once_pushed [] k v h e = (refl, tt)
once_pushed (w ∷ ws) k v h e =
    let n = cond_none (eqb w.0 k) w.1 (awaited ws k) e in
    (pushed_other ws k v w.0 (λ g. eqb-false w.0 k n.0 (sym g)) ∙ h.0, once_pushed ws k v h.1 n.1)

pub all_altered : (P : ℕ × Bytes → Type 0) (ws : List (ℕ × Bytes)) (k : ℕ) (v : Bytes) → P (k, v) → All P ws → All P (altered ws k v)
all_altered P [] k v p h = tt
all_altered P (w ∷ ws) k v p h =
    cond_both (eqb w.0 k) ((k, v) ∷ ws) (w ∷ altered ws k v) (All P) (λ e. (p, h.1)) (λ e. (h.0, all_altered P ws k v p h.1))

-- ---- the occupant of a place

occupant_has : (i : ℕ) (places : List (Option ℕ)) (p b : ℕ) → occupant_from i places p ≡ Some b
    → (k : ℕ) × (b ≡ i + k) × (get_or places k None ≡ Some p)
occupant_has i [] p b e = absurd (none_some b e)
occupant_has i (None ∷ places) p b e = let r = occupant_has (suc i) places p b e in (suc r.0, omega (arith, r.1), r.2)
occupant_has i (Some q ∷ places) p b e = go (eqb q p) refl (occupant_from (suc i) places p) (occupant_has (suc i) places p b) e
  where
    go : (t : Bool) → eqb q p ≡ t → (o : Option ℕ) → (o ≡ Some b → (k : ℕ) × (b ≡ suc i + k) × (get_or places k None ≡ Some p))
        → cond t (Some i) o ≡ Some b → (k : ℕ) × (b ≡ i + k) × (get_or (Some q ∷ places) k None ≡ Some p)
    go true h o later g = (0, omega (arith, some_same i b g), ap Some (eqb-true q p h))
    go false h o later g = let r = later g in (suc r.0, omega (arith, r.1), r.2)

-- an occupant has the place
pub occupant_placed : (places : List (Option ℕ)) (p b : ℕ) → occupant places p ≡ Some b → get_or places b None ≡ Some p
occupant_placed places p b e =
    let r = occupant_has 0 places p b e in
    let same : b ≡ r.0 = omega (arith, r.1) in
    ap (λ (k : ℕ). get_or places k None) same ∙ r.2

-- and without one no block has it
pub vacant_place : (i : ℕ) (places : List (Option ℕ)) (p : ℕ) → occupant_from i places p ≡ None → (k : ℕ) → get_or places k None ≡ Some p → ⊥
vacant_place i [] p e k g = none_some p g
vacant_place i (None ∷ places) p e zero g = none_some p g
vacant_place i (None ∷ places) p e (suc k) g = vacant_place (suc i) places p e k g
vacant_place i (Some q ∷ places) p e zero g = eqb-false q p (cond_none (eqb q p) i (occupant_from (suc i) places p) e).0 (some_same q p g)
vacant_place i (Some q ∷ places) p e (suc k) g = vacant_place (suc i) places p (cond_none (eqb q p) i (occupant_from (suc i) places p) e).1 k g

-- a block with a place is a block of the store
pub placed_below : (places : List (Option ℕ)) (b p : ℕ) → get_or places b None ≡ Some p → b < length places
placed_below places b p e = ⊎_elim (λ l. l) (λ l. absurd (none_some p (sym (get_or_past places b None l) ∙ e))) (cases_lt b (length places))
