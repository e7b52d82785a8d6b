-- What a write does to the waiting list, and what a read, a save and a face leave.
use Rattle.std.proofs.Common.{◌≡◌, ℕ, ◌+◌, ◌-◌, ◌≤◌, Bool, cond, eqb, ltb, leb, List, [], ◌∷◌, ◌++◌, map, length, take, replicate, Some, None, Option, sym, refl, ap, ◌∙◌, arith}
use Rattle.std.proofs.lemmas.List.{length-append, length-replicate, replicate-append-replicate, append_assoc, take_at}
use Rattle.std.proofs.lemmas.Bool.{cond_both, eqb-true, leb-true}
use Rattle.layout.specs.Numbers.{Bytes}
use Rattle.layout.specs.Layouts.{zeros, filled}
use Rattle.seal.specs.Seals.{Rules, Lawful}
use Rattle.machine.specs.Files.{file_length_of}
use Rattle.machine.specs.Machine.{Machine, Call, Write, Read, Beat, Save, Face, Denied, Outcome, Reason, Written, awaited, altered, write_waiting, write_step, save_waiting, step}
use Rattle.machine.specs.Checks.{in_turn}
use Rattle.machine.specs.Law.{TurnKept, Looks}
use Rattle.machine.proofs.Lookups.{altered_same, altered_other, pushed_same, pushed_other}
use Rattle.machine.proofs.Invariant.{Sound}
use Rattle.machine.proofs.Steps.{read_valued}
use Rattle.machine.proofs.CallChecks.{some_waits, none_waits}

abbrev blocks_of : List (ℕ × Bytes) → List ℕ
blocks_of ws = map (λ (w : ℕ × Bytes). w.0) ws

-- ---- write

-- a short value filled with zeros is the value and then zeros
filled_is : (value : Bytes) → length value ≤ 48 → filled value ≡ value ++ replicate (48 - length value) 0
unfolding filled
filled_is value h =
    let all : 48 - length value + length value ≡ 48 = omega arith in
    let more : replicate (48 - length value) 0 ++ replicate (length value) 0 ≡ zeros =
    replicate-append-replicate (48 - length value) (length value) 0 ∙ ap (λ (n : ℕ). replicate n 0) all in
    ap (λ (z : Bytes). take 48 (value ++ z)) (sym more)
    ∙ ap (take 48) (sym (append_assoc value (replicate (48 - length value) 0) (replicate (length value) 0)))
    ∙ take_at (value ++ replicate (48 - length value) 0) (replicate (length value) 0) 48
    (simp length-append (omega (arith, length-replicate {A = ℕ} (48 - length value) 0)))

altered_turns : (ws : List (ℕ × Bytes)) (b : ℕ) (v : Bytes) → blocks_of (altered ws b v) ≡ blocks_of ws
altered_turns [] b v = refl
altered_turns (w ∷ ws) b v =
    cond_both (eqb w.0 b) ((b, v) ∷ ws) (w ∷ altered ws b v) (λ x. blocks_of x ≡ blocks_of (w ∷ ws))
    (λ e. ap (λ (k : ℕ). k ∷ blocks_of ws) (sym (eqb-true _ _ e)))
    (λ e. ap (λ (bs : List ℕ). w.0 ∷ bs) (altered_turns ws b v))

pushed_turns : (ws : List (ℕ × Bytes)) (b : ℕ) (v : Bytes) → blocks_of (ws ++ (b, v) ∷ []) ≡ blocks_of ws ++ b ∷ []
pushed_turns [] b v = refl
pushed_turns (w ∷ ws) b v = ap (λ (bs : List ℕ). w.0 ∷ bs) (pushed_turns ws b v)

denied_written : (r : Reason) → Denied r ≡ Written → ⊥
denied_written r e = let z : ◌≡◌ {A = ℕ} 0 1 = cc in omega arith

abbrev Turned : Machine → ℕ → Bytes → Outcome → Type 0
Turned m b value o = o.answer ≡ Written → TurnKept m o.machine b value

module _ (m : Machine) (b : ℕ) (value : Bytes) (short : length value ≤ 48) where
  turned_waiting : (o : Option Bytes) → awaited m.waiting b ≡ o → Turned m b value (write_waiting m b (filled value) o)
  turned_waiting (Some old) e = λ h. record {
    turns = altered_turns m.waiting b (filled value) ∙ sym (ap (λ (t : Bool). cond t (in_turn m) (in_turn m ++ b ∷ [])) (some_waits m.waiting b old e));
    value_waits = altered_same m.waiting b (filled value) old e ∙ ap Some (filled_is value short);
    others_wait = altered_other m.waiting b (filled value);
  }
  turned_waiting None e =
      cond_both (ltb (length m.waiting) 16) _ _ (Turned m b value)
      (λ t h. record {
        turns = pushed_turns m.waiting b (filled value) ∙ sym (ap (λ (t : Bool). cond t (in_turn m) (in_turn m ++ b ∷ [])) (none_waits m.waiting b e));
        value_waits = pushed_same m.waiting b (filled value) e ∙ ap Some (filled_is value short);
        others_wait = pushed_other m.waiting b (filled value);
      })
      (λ t h. absurd (denied_written _ h))

pub turned : (m : Machine) (b : ℕ) (value : Bytes) → Turned m b value (write_step m b value)
turned m b value =
    cond_both (ltb b (length m.places)) _ _ (Turned m b value)
    (λ t. cond_both (leb (length value) 48) _ _ (Turned m b value)
    (λ l. turned_waiting m b value (leb-true _ _ l) (awaited m.waiting b) refl)
    (λ l h. absurd (denied_written _ h)))
    (λ t h. absurd (denied_written _ h))

-- ---- read, save and face

module _ (rules : Rules) (lawful : Lawful rules) (m : Machine) (s : Sound rules m) where
  left_save : (buffer : Bytes) (ws : List (ℕ × Bytes)) → (save_waiting m buffer ws).machine ≡ m
  left_save buffer [] = cond_both (leb (file_length_of m.places) (length buffer)) _ _ (λ (o : Outcome). o.machine ≡ m) (λ h. refl) (λ h. refl)
  left_save buffer (w ∷ ws) = refl

  pub left : (c : Call) → Looks c → (step rules m c).machine ≡ m
  left (Write b value) l = absurd l
  left (Read b buffer) l =
      cond_both (ltb b (length m.places)) _ _ (λ (o : Outcome). o.machine ≡ m)
      (λ h. cond_both (eqb (length buffer) 48) _ _ (λ (o : Outcome). o.machine ≡ m)
      (λ k. ap (λ (o : Outcome). o.machine) (read_valued rules lawful m s b buffer (awaited m.waiting b)))
      (λ k. refl))
      (λ h. refl)
  left Beat l = absurd l
  left (Save buffer) l = left_save buffer m.waiting
  left (Face buffer) l = cond_both (eqb (length buffer) (length m.card)) _ _ (λ (o : Outcome). o.machine ≡ m) (λ h. refl) (λ h. refl)
