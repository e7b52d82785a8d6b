-- A run that was carried out, as a run of the law, and what shows its transcript.
use Rattle.std.proofs.Common.{◌≡◌, ℕ, List, [], ◌∷◌, map, IfOk, None, Ok, Err, Result, sym, refl, ap, ◌∙◌, subst, inl, inr, arith}
use Rattle.std.specs.declared.alloc.AllocError.{AllocError}
use Rattle.layout.specs.Numbers.{Bytes}
use Rattle.layout.specs.Layouts.{face}
use Rattle.seal.specs.Seals.{Rules, Lawful}
use Rattle.machine.specs.Machine as machine
use Rattle.machine.specs.Machine.{Machine, Reason, OutOfMemory, Denied, step}
use Rattle.machine.specs.Makings.{Making, Store, Open, Shut, make, handed}
use Rattle.machine.specs.Runs.{Run, Seen, OfBytes, ending, seen_calls, seen_on, faces_in, places_in, sealings_in}
use Rattle.store.specs.Made.{MadeBy}
use Rattle.runs.specs.Told.{call_told}
use Rattle.runs.specs.Shown.{notes_told, answered, Start, shown_by, first_shown, left_on, Followed}
use Rattle.runs.specs.Witness.{shown_shut, ShownByAStore}
use Rattle.runs.specs.Carried.{transcript_told, notes_in, RunOfTheLaw}
use Rattle.runs.specs.declared.calls.Call.{Call}
use Rattle.runs.specs.declared.transcript.Notes.{Notes}
use Rattle.runs.specs.declared.transcript.Transcript.{Transcript}
use Rattle.runs.proofs.Growing.{same_told}

-- an open store is not shut for want of memory
granted : (rules : Rules) (card : List Bytes) (tape : List ℕ) (k : Making) (made : Store) (m : Machine)
    → MadeBy made card tape (make rules card tape k) → made ≡ Open m → make rules card tape k ≡ Open m
granted rules card tape k made m (inl e) h = sym e ∙ h
granted rules card tape k made m (inr e) h = let z : ◌≡◌ {A = ℕ} 0 1 = cc in absurd (omega arith)

-- the calls leave the last machine of the run
left_open : (rules : Rules) (cs : List machine.Call) (m : Machine) → left_on rules (Open m) cs ≡ Open (ending rules m cs)
left_open rules [] m = refl
left_open rules (c ∷ cs) m = left_open rules cs (step rules m c).machine

-- calls on a shut store show that each is denied, and nothing else
abbrev refused : Reason → List Bytes → machine.Call → Seen
refused r card c = record { answer = Denied r; buffer = handed c; face_after = face card }

all_denied : (r : Reason) (card : List Bytes) (cs : List machine.Call)
    → (map answered (map (refused r card) cs) ≡ map (λ c. (Denied r, handed c)) cs) × (faces_in (map (refused r card) cs) ≡ [])
    × (places_in (map (refused r card) cs) ≡ []) × (sealings_in (map (refused r card) cs) ≡ [])
all_denied r card [] = (refl, refl, refl, refl)
all_denied r card (c ∷ cs) =
    let rest = all_denied r card cs in
    (ap (λ xs. (Denied r, handed c) ∷ xs) rest.0, rest.1, rest.2, rest.3)

shut_shows : (r : Reason) (card : List Bytes) (tape : List ℕ) (rules : Rules) (cs : List machine.Call)
    → shown_by (record { begun = None; sealings = [] }) (seen_on rules (Shut r card tape) cs) ≡ shown_shut r cs
shut_shows r card tape rules cs = let d = all_denied r card cs in same_told refl d.0 d.1 d.2 d.3

module _ (rules : Rules) (lawful : Lawful rules) (card : List Bytes) (tape : List ℕ) (k : Making) (bytes : OfBytes k) (calls : List Call) where
  abbrev as_run : (made : Store) (m : Machine) → MadeBy made card tape (make rules card tape k) → made ≡ Open m → Run
  as_run made m by e = record {
    rules = rules;
    lawful = lawful;
    card = card;
    tape = tape;
    making = k;
    of_bytes = bytes;
    made = m;
    granted = granted rules card tape k made m by e;
    calls = map call_told calls;
  }

  pub exhibit : (made left : Store) (shown : Result Transcript AllocError) (m : Machine)
      → MadeBy made card tape (make rules card tape k) → Followed transcript_told rules made (first_shown made k card) calls left shown
      → made ≡ Open m → RunOfTheLaw rules card tape k m calls left shown
  exhibit made left shown m by followed e =
      let both = told shown (subst (λ (s : Store). Followed transcript_told rules s (first_shown s k card) calls left shown) e followed) in
      record {
        as_a_run = as_run made m by e;
        rules_are = refl;
        card_is = refl;
        tape_is = refl;
        making_is = refl;
        made_is = refl;
        calls_are = refl;
        transcript_is = both.0;
        store_is = both.1;
      }
    where
      told : (r : Result Transcript AllocError) → Followed transcript_told rules (Open m) (first_shown (Open m) k card) calls left r
          → IfOk r (λ t. transcript_told calls t ≡ shown_by (first_shown (Open m) k card) (seen_calls rules m (map call_told calls)))
          × IfOk r (λ t. left ≡ Open (ending rules m (map call_told calls)))
      told (Ok t) f = (f.0, f.1 ∙ left_open rules (map call_told calls) m)
      told (Err d) f = (tt, tt)

  -- notes of a run are what a run of the law shows, or what a shut store does
  pub shown_by_a_store : (made left : Store) (notes : Result Notes AllocError) → MadeBy made card tape (make rules card tape k)
      → Followed notes_told rules made (first_shown made k card) calls left notes → IfOk notes (λ n. ∥ ShownByAStore n ∥₁)
  shown_by_a_store (Open m) left (Ok n) by f = ∣ inl (record { as_a_run = as_run (Open m) m by refl; calls = calls; calls_are = refl; told_is = f.0 }) ∣₁
  shown_by_a_store (Shut r records words) left (Ok n) by f = ∣ inr (record { reason = r; calls = calls; told_is = f.0 ∙ shut_shows r records words rules (map call_told calls) }) ∣₁
  shown_by_a_store made left (Err e) by f = tt

-- what was noted is what the transcript tells
pub finished : (rules : Rules) (made left : Store) (first : Start) (calls : List Call) (notes : Result Notes AllocError) (shown : Result Transcript AllocError)
    → notes_in shown ≡ notes → Followed notes_told rules made first calls left notes → Followed transcript_told rules made first calls left shown
finished rules made left first calls notes (Ok t) e f = subst (Followed notes_told rules made first calls left) (sym e) f
finished rules made left first calls notes (Err d) e f = subst (Followed notes_told rules made first calls left) (sym e) f
