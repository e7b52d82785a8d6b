-- What a beat at a vacant place leaves.
use Rattle.std.proofs.Common.{◌≡◌, ℕ, ◌+◌, ◌<◌, List, [], ◌∷◌, length, drop, set, Some, None, Ok, Err, Option, Result, sym, refl, ap, ◌∙◌, ⊎_elim, arith}
use Rattle.std.proofs.lemmas.List.{set_past}
use Rattle.std.proofs.lemmas.Bool.{cases_lt, cond-true, cond-false, lt-ltb, le-ltb}
use Rattle.layout.specs.Numbers.{Bytes}
use Rattle.denial.specs.Denials as table
use Rattle.seal.specs.Seals.{Rules}
use Rattle.machine.specs.Machine.{Machine, Deed, Dummy, Landed, Resealed, Reason, Beaten, occupant, opened_at, beaten, deed_number, vacant_beat, beat_at, beat_place}
use Rattle.tables.specs.Views.{Unsettled, settle_vacant, settle_of, first_in}
use Rattle.engine.specs.Steps.{as_reason, choice_occupied, choice_vacant, choice_at, choice, outcome, with_sealed}

pub nothing_first : (ws : List (ℕ × Bytes)) → None ≡ first_in ws → ws ≡ []
nothing_first [] e = refl
nothing_first (w ∷ ws) e = let z : ◌≡◌ {A = ℕ} 0 1 = cc in absurd (omega arith)

-- at a vacant place a block of the map settles, and one beyond it changes nothing
pub settles : (places after : List (Option ℕ)) (r : Result (Unit {0}) Unsettled) (b p : ℕ) → occupant places p ≡ None → (r, after) ≡ settle_of places b p
    → after ≡ set places b (Some p)
settles places after r b p v e =
    let inside = λ (h : b < length places). cond-true _ _ _ (lt-ltb b (length places) h) ∙ ap (settle_vacant places b p) v in
    ap (λ (x : Result (Unit {0}) Unsettled × List (Option ℕ)). x.1) e
    ∙ ⊎_elim (λ h. ap (λ (x : Result (Unit {0}) Unsettled × List (Option ℕ)). x.1) (inside h))
    (λ h. ap (λ (x : Result (Unit {0}) Unsettled × List (Option ℕ)). x.1) (cond-false _ _ _ (le-ltb b (length places) h)) ∙ sym (set_past places b (Some p) h))
    (cases_lt b (length places))

abbrev number_in : Result (Bytes × Deed) Reason → ℕ
number_in (Ok c) = deed_number c.1
number_in (Err r) = 3

abbrev landed_in : Result (Bytes × Deed) Reason → Bytes × ℕ
landed_in (Ok (x, Landed b)) = (x, b)
landed_in (Ok (x, Dummy)) = ([], 0)
landed_in (Ok (x, Resealed b)) = ([], 0)
landed_in (Err r) = ([], 0)

-- a block lands only where no block is, and only the first that waits
abbrev Lands : Machine → ℕ → ℕ → Bytes → Type 0
Lands m p b x = (occupant m.places p ≡ None) × ◌≡◌ {A = Result (Bytes × Deed) Reason} (Ok (x, Landed b)) (as_reason (choice_vacant m.waiting))

lands : (rules : Rules) (m : Machine) (p b : ℕ) (x : Bytes) (o : Option ℕ) → occupant m.places p ≡ o
    → ◌≡◌ {A = Result (Bytes × Deed) Reason} (Ok (x, Landed b)) (as_reason (choice_at rules m p o)) → Lands m p b x
lands rules m p b x None h e = (h, e)
lands rules m p b x (Some k) h e = go (opened_at rules m.card p) e
  where
    go : (r : Result Bytes table.Denial) → ◌≡◌ {A = Result (Bytes × Deed) Reason} (Ok (x, Landed b)) (as_reason (choice_occupied k r)) → Lands m p b x
    go (Ok body) f = let z : ◌≡◌ {A = ℕ} 1 2 = ap number_in f in absurd (omega arith)
    go (Err d) f = let z : ◌≡◌ {A = ℕ} 1 3 = ap number_in f in absurd (omega arith)

-- the first that waits was sealed, its place moved, and it left the list
pub beat_landed : (rules : Rules) (m n : Machine) (p b : ℕ) (x : Bytes) (r : Result (Unit {0}) Unsettled) (map : List (Option ℕ)) (waiting : List (ℕ × Bytes))
    → p < length m.card → ◌≡◌ {A = Result (Bytes × Deed) Reason} (Ok (x, Landed b)) (as_reason (choice rules m p))
    → n ≡ with_sealed rules m p (m.last + 1) x → (r, map) ≡ settle_of n.places b p → waiting ≡ drop 1 n.waiting
    → outcome (Beaten p (m.last + 1) (Landed b)) [] (record { card = n.card; tape = n.tape; last = n.last; places = map; waiting = waiting }) ≡ beat_place rules m p
beat_landed rules m n p b x r map waiting h e is settled first =
    let at = lands rules m p b x (occupant m.places p) refl e in
    let places = ap (λ (k : Machine). k.places) is in
    let free = ap (λ ps. occupant ps p) places ∙ at.0 in
    let moved = settles n.places map r b p free settled in
    rw (moved, first, is) (go m.waiting refl at.1
    ∙ sym (cond-true _ _ _ (lt-ltb p (length m.card) h) ∙ ap (beat_at rules m p) at.0))
  where
    go : (ws : List (ℕ × Bytes)) → m.waiting ≡ ws → ◌≡◌ {A = Result (Bytes × Deed) Reason} (Ok (x, Landed b)) (as_reason (choice_vacant ws))
        → beaten rules m p x (Landed b) (set m.places b (Some p)) (drop 1 m.waiting) ≡ vacant_beat rules m p m.waiting
    go [] w f = let z : ◌≡◌ {A = ℕ} 1 0 = ap number_in f in absurd (omega arith)
    go (v ∷ ws) w f =
        ap (λ z. beaten rules m p x (Landed b) (set m.places b (Some p)) (drop 1 z)) w
        ∙ (ap (λ (c : Bytes × ℕ). beaten rules m p c.0 (Landed c.1) (set m.places c.1 (Some p)) ws) (ap landed_in f) ∙ sym (ap (vacant_beat rules m p) w))
