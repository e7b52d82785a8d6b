-- A call of a sound machine is denied by the first of its checks that holds, and then alters nothing.
use Rattle.std.proofs.Common.{◌≡◌, ℕ, ◌≤◌, Bool, true, false, cond, not, ◌&&◌, ◌||◌, eqb, ltb, leb, List, [], ◌∷◌, map, length, Some, None, Option, sym, refl, ap, ◌∙◌, subst, ⊎_elim, arith}
use Rattle.std.proofs.lemmas.Bool.{cases_lt, cases_eq, lt-ltb, le-ltb, le-leb, lt-leb, eq-eqb, ne_eqb, ltb-true, not_from_true, not_from_false, and_right, cond-true}
use Rattle.layout.specs.Numbers.{Bytes}
use Rattle.denial.specs.Denials.{Denial, block_beyond, value_long, blocks_wait, buffer_length, list_full, tape_spent, counter_spent}
use Rattle.seal.specs.Seals.{Rules, Lawful}
use Rattle.machine.specs.Files.{file_length_of}
use Rattle.layout.specs.Layouts.{filled}
use Rattle.machine.specs.Machine.{Machine, Call, Write, Read, Beat, Save, Face, Reason, DenialOf, Answer, Denied, Outcome, denied, awaited, altered, written, write_waiting, beat_tape, save_waiting, step}
use Rattle.machine.specs.Makings.{among, handed}
use Rattle.machine.specs.Checks.{first_that_holds, in_turn, call_checks, reason_in}
use Rattle.machine.specs.Law.{IsBeat, Own}
use Rattle.machine.proofs.Lookups.{none_some}
use Rattle.machine.proofs.Invariant.{Sound}
use Rattle.machine.proofs.Steps.{read_valued, granted_beat}

-- granted; or denied for a reason, the buffer as it was handed in and the machine as it was
abbrev pub Judged : Machine → Call → Outcome → Option Reason → Type 0
Judged m c o None = Own c o.answer
Judged m c o (Some r) = o ≡ record { answer = Denied r; buffer = handed c; machine = m }

-- what is a call's own answer denies nothing
own_granted : (c : Call) (a : Answer) → Own c a → reason_in a ≡ None
own_granted (Write b value) a e = ap reason_in e
own_granted (Read b buffer) a e = ap reason_in e
own_granted Beat a e = ap reason_in e.3
own_granted (Save buffer) a e = ap reason_in e.1
own_granted (Face buffer) a e = ap reason_in e

-- ---- tests and their opposites

and_true : (t : Bool) → (t && true) ≡ t
and_true true = refl
and_true false = refl

pub not_below : (a b : ℕ) → leb b a ≡ not (ltb a b)
not_below a b = ⊎_elim
    (λ l. lt-leb b a l ∙ sym (not_from_true _ (lt-ltb a b l)))
    (λ l. le-leb b a l ∙ sym (not_from_false _ (le-ltb a b l)))
    (cases_lt a b)

pub not_at_most : (a b : ℕ) → ltb b a ≡ not (leb a b)
not_at_most a b = ⊎_elim
    (λ l. lt-ltb b a l ∙ sym (not_from_false _ (lt-leb a b l)))
    (λ l. le-ltb b a l ∙ sym (not_from_true _ (le-leb a b l)))
    (cases_lt b a)

highest : (n top : ℕ) → n ≤ top → eqb n top ≡ not (ltb n top)
highest n top h = ⊎_elim
    (λ e. eq-eqb n top e ∙ sym (not_from_false _ (le-ltb n top (omega arith))))
    (λ e. ne_eqb n top e ∙ sym (not_from_true _ (lt-ltb n top (omega arith))))
    (cases_eq n top)

-- a block waits where a value of it waits
pub some_waits : (ws : List (ℕ × Bytes)) (b : ℕ) (v : Bytes) → awaited ws b ≡ Some v → among (map (λ (w : ℕ × Bytes). w.0) ws) b ≡ true
some_waits [] b v e = absurd (none_some v e)
some_waits (w ∷ ws) b v e = go (eqb w.0 b) (some_waits ws b v) e
  where
    go : (t : Bool) → (awaited ws b ≡ Some v → among (map (λ (w : ℕ × Bytes). w.0) ws) b ≡ true) → cond t (Some w.1) (awaited ws b) ≡ Some v
        → (t || among (map (λ (w : ℕ × Bytes). w.0) ws) b) ≡ true
    go true later g = refl
    go false later g = later g

pub none_waits : (ws : List (ℕ × Bytes)) (b : ℕ) → awaited ws b ≡ None → among (map (λ (w : ℕ × Bytes). w.0) ws) b ≡ false
none_waits [] b e = refl
none_waits (w ∷ ws) b e = go (eqb w.0 b) (none_waits ws b) e
  where
    go : (t : Bool) → (awaited ws b ≡ None → among (map (λ (w : ℕ × Bytes). w.0) ws) b ≡ false) → cond t (Some w.1) (awaited ws b) ≡ None
        → (t || among (map (λ (w : ℕ × Bytes). w.0) ws) b) ≡ false
    go true later g = absurd (none_some w.1 (sym g))
    go false later g = later g

-- ---- one check in front of the others

module _ (m : Machine) (c : Call) where
  by_check : (t u : Bool) → u ≡ not t → (o : Outcome) (d : Denial) (rest : Option Reason) → (t ≡ true → Judged m c o rest)
      → Judged m c (cond t o (denied m (handed c) d)) (cond u (Some (DenialOf d)) rest)
  by_check true u e o d rest j = subst (λ (b : Bool). Judged m c o (cond b (Some (DenialOf d)) rest)) (sym e) (j refl)
  by_check false u e o d rest j = subst (λ (b : Bool). Judged m c (denied m (handed c) d) (cond b (Some (DenialOf d)) rest)) (sym e) refl

  -- what is judged is denied for that reason only, else granted
  pub reason_judged : (o : Outcome) (r : Option Reason) → Judged m c o r → reason_in o.answer ≡ r
  reason_judged o None j = own_granted c o.answer j
  reason_judged o (Some r) j = ap (λ (o : Outcome). reason_in o.answer) j

  pub own_judged : (o : Outcome) (r : Option Reason) → Judged m c o r → reason_in o.answer ≡ None → Own c o.answer
  own_judged o None j e = j
  own_judged o (Some r) j e = absurd (none_some r (sym e ∙ reason_judged o (Some r) j))

  pub denied_judged : (o : Outcome) (r : Option Reason) → Judged m c o r → (why : Reason) → o.answer ≡ Denied why → (o.machine ≡ m) × (o.buffer ≡ handed c)
  denied_judged o None j why e = absurd (none_some why (sym (own_granted c o.answer j) ∙ ap reason_in e))
  denied_judged o (Some r) j why e = (ap (λ (o : Outcome). o.machine) j, ap (λ (o : Outcome). o.buffer) j)

-- ---- each call

module _ (rules : Rules) (lawful : Lawful rules) (m : Machine) (s : Sound rules m) where
  judged_waiting : (b : ℕ) (value v : Bytes) (o : Option Bytes) → awaited m.waiting b ≡ o
      → Judged m (Write b value) (write_waiting m b v o) (cond (leb 16 (length m.waiting) && not (among (in_turn m) b)) (Some (DenialOf list_full)) None)
  judged_waiting b value v (Some old) e =
      subst (λ (t : Bool). Judged m (Write b value) (written m (altered m.waiting b v)) (cond t (Some (DenialOf list_full)) None))
      (sym (and_right (leb 16 (length m.waiting)) _ (not_from_true _ (some_waits m.waiting b old e)))) refl
  judged_waiting b value v None e =
      by_check m (Write b value) (ltb (length m.waiting) 16) _
      (ap (λ (t : Bool). leb 16 (length m.waiting) && not t) (none_waits m.waiting b e) ∙ and_true _ ∙ not_below (length m.waiting) 16) _ list_full None (λ h. refl)

  judged_write : (b : ℕ) (value : Bytes) → Judged m (Write b value) (step rules m (Write b value)) (first_that_holds (call_checks m (Write b value)))
  judged_write b value =
      by_check m (Write b value) (ltb b (length m.places)) _ (not_below b (length m.places)) _ block_beyond _
      (λ h. by_check m (Write b value) (leb (length value) 48) _ (not_at_most (length value) 48) _ value_long _
      (λ k. judged_waiting b value (filled value) (awaited m.waiting b) refl))

  judged_read : (b : ℕ) (buffer : Bytes) → Judged m (Read b buffer) (step rules m (Read b buffer)) (first_that_holds (call_checks m (Read b buffer)))
  judged_read b buffer =
      by_check m (Read b buffer) (ltb b (length m.places)) _ (not_below b (length m.places)) _ block_beyond _
      (λ h. by_check m (Read b buffer) (eqb (length buffer) 48) _ refl _ buffer_length None
      (λ k. ap (λ (o : Outcome). o.answer) (read_valued rules lawful m s b buffer (awaited m.waiting b))))

  judged_beat : (ws : List ℕ) → m.tape ≡ ws → Judged m Beat (beat_tape rules m ws)
      (cond (eqb (length ws) 0) (Some (DenialOf tape_spent)) (cond (eqb m.last 4294967295) (Some (DenialOf counter_spent)) None))
  judged_beat [] e = refl
  judged_beat (w ∷ ws) e =
      rw (ne_eqb (length (w ∷ ws)) 0 (λ z. omega arith))
      (by_check m Beat (ltb m.last 4294967295) _ (highest m.last 4294967295 (omega (arith, s.fits))) _ counter_spent None
      (λ h. subst (λ (o : Outcome). IsBeat o.answer) (cond-true (ltb m.last 4294967295) _ _ h) (granted_beat rules lawful m s (w ∷ ws) (omega arith) (ltb-true _ _ h))))

  judged_save : (buffer : Bytes) (ws : List (ℕ × Bytes)) → Judged m (Save buffer) (save_waiting m buffer ws)
      (cond (ltb 0 (length ws)) (Some (DenialOf blocks_wait)) (cond (ltb (length buffer) (file_length_of m.places)) (Some (DenialOf buffer_length)) None))
  judged_save buffer [] =
      by_check m (Save buffer) (leb (file_length_of m.places) (length buffer)) _ (not_at_most (file_length_of m.places) (length buffer)) _ buffer_length None (λ h. (file_length_of m.places, refl))
  judged_save buffer (w ∷ ws) = rw (lt-ltb 0 (length (w ∷ ws)) (omega arith)) refl

  -- any call
  pub judged : (c : Call) → Judged m c (step rules m c) (first_that_holds (call_checks m c))
  judged (Write b value) = judged_write b value
  judged (Read b buffer) = judged_read b buffer
  judged Beat = judged_beat m.tape refl
  judged (Save buffer) = judged_save buffer m.waiting
  judged (Face buffer) = by_check m (Face buffer) (eqb (length buffer) (length m.card)) _ refl _ buffer_length None (λ h. refl)
