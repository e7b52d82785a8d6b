-- The law of runs.
use Rattle.std.proofs.Common.{◌≡◌, ℕ, ◌+◌, ◌%◌, ◌<◌, ◌≤◌, Bool, true, false, cond, eqb, ltb, leb, ◌⊎◌, ◌↔◌, List, [], ◌∷◌, ◌++◌, map, length, get_or, take, drop, None, sym, refl, ap, ◌∙◌, subst, inl, inr, arith}
use Rattle.std.specs.List.{AllByRecursion as All}
use Rattle.std.proofs.lemmas.List.{length-map, length-replicate, take_at, drop_at}
use Rattle.std.proofs.lemmas.Bool.{cond_both, cond-true, lt-ltb, ltb-true, le-leb, eq-eqb}
use Rattle.layout.specs.Numbers.{Bytes}
use Rattle.layout.specs.Layouts.{counter_in, zeros, dummy_body, face}
use Rattle.denial.specs.Denials.{buffer_length}
use Rattle.seal.specs.Seals.{Rules, Lawful}
use Rattle.machine.specs.Files.{file_length_of, file_of}
use Rattle.machine.specs.Machine.{Machine, Call, Read, Save, Face, Deed, Reason, Valued, Beaten, Saved, Shown, Denied, Outcome, denied, awaited, read_step, saved, save_waiting}
use Rattle.machine.specs.Makings.{Making, Format, Resume, Open, make, resume}
use Rattle.machine.specs.Checks.{first_that_holds, call_checks}
use Rattle.machine.specs.Runs.{Run, Sealing, making_sealings, sealings_in, OfBytes, held_at, latest_in, transcript, after, next, blocks, first_face, first_counter, faces, beat_places, sealings, latest}
use Rattle.machine.specs.Law.{Law, Alike, Begun, NoBeat, OnePut, RestKept, LaidOut, no_sealing}
use Rattle.machine.proofs.Invariant.{Sound, holds}
use Rattle.machine.proofs.Steps.{Above, Quiet, Struck, Stepped, stepped, read_valued, granted_beat, granted_write}
use Rattle.machine.proofs.Transcripts.{Numbered, numbered_get_or, numbered_append, scan, scan_tells, Shows, ran, Kept, kept}
use Rattle.machine.proofs.Granted.{format_passed, resume_passed}
use Rattle.machine.proofs.Formats.{nowhere, vacant, length_dummies, face_dummies, dummies_sealed, numbered_format, length_format, sound_formatted, held_formatted}
use Rattle.machine.proofs.Resumes.{size_resumed, placed, sound_resumed, held_resumed}
use Rattle.machine.proofs.SavedFiles.{length_file, resumes}
use Rattle.machine.proofs.FileBytes.{laid_out}
use Rattle.machine.proofs.CallChecks.{Judged, reason_judged, own_judged, denied_judged, judged}
use Rattle.machine.proofs.MakingChecks.{judged_making, reason_judged as reason_making, denied_judged as denied_making, fits}
use Rattle.machine.proofs.Turns.{turned, left}

-- ---- the made machine

record Made (rules : Rules) (card : List Bytes) (tape : List ℕ) (k : Making) (m : Machine) : Type 0 where
  pub sound : Sound rules m
  pub held : (b : ℕ) → holds rules m b ≡ held_at rules card k b
  pub count : length m.card ≡ length card
  pub tape_is : m.tape ≡ tape

well_made : (rules : Rules) → Lawful rules → (card : List Bytes) (tape : List ℕ) (k : Making) → OfBytes k → (m : Machine) → make rules card tape k ≡ Open m → Made rules card tape k m
well_made rules lawful card tape (Format n) h m e =
    let f = format_passed rules card tape n m e in
    subst (Made rules card tape (Format n)) f.is (record {
      sound = sound_formatted rules lawful card tape n f.sizes;
      held = held_formatted rules card tape n;
      count = length_dummies rules 0 card;
      tape_is = refl;
    })
well_made rules lawful card tape (Resume file) h m e =
    let f = resume_passed rules card tape file m e in
    subst (Made rules card tape (Resume file)) f.is (record { sound = sound_resumed rules card tape file m f h; held = held_resumed rules card tape file m f; count = refl; tape_is = refl })

run_made : (x : Run) → Made x.rules x.card x.tape x.making x.made
run_made x = well_made x.rules x.lawful x.card x.tape x.making x.of_bytes x.made x.granted

run_begun : (x : Run) → Begun x.making x
run_begun x = go x.making x.granted
  where
    go : (k : Making) → make x.rules x.card x.tape k ≡ Open x.made → Begun k x
    go (Format n) e =
        let f = format_passed x.rules x.card x.tape n x.made e in
        let is = sym f.is in (
          ap (λ (m : Machine). face m.card) is ∙ face_dummies x.rules x.lawful 0 x.card (omega (arith, f.sizes.small)),
          ap (λ (m : Machine). m.last) is,
          ap (λ (m : Machine). m.waiting) is,
          ap (λ (m : Machine). length m.places) is ∙ length-replicate n nowhere,
          (λ b. ap (λ (m : Machine). get_or m.places b None) is ∙ vacant n b),
        )
    go (Resume file) e =
        let f = resume_passed x.rules x.card x.tape file x.made e in
        let is = sym f.is in (
          ap (λ (m : Machine). m.card) is,
          ap (λ (m : Machine). m.last) is,
          ap (λ (m : Machine). m.waiting) is,
          ap (λ (m : Machine). length m.places) is ∙ size_resumed x.card x.tape file,
          (λ b. ap (λ (m : Machine). get_or m.places b None) is ∙ placed x.rules x.card x.tape file x.made f b),
        )

format_left : (rules : Rules) (card : List Bytes) (tape : List ℕ) (k : Making) (m : Machine) → make rules card tape k ≡ Open m → (n : ℕ) → k ≡ Format n
    → m.card ≡ map (λ (s : Sealing). rules.sealed s.place s.counter dummy_body) (making_sealings k card)
format_left rules card tape (Format j) m e n h = rw (← (format_passed rules card tape j m e).is) (dummies_sealed rules 0 card)
format_left rules card tape (Resume file) m e n h = let z : ◌≡◌ {A = ℕ} 0 1 = cc in absurd (omega arith)

-- ---- the run

run_kept : (x : Run) → Kept x.rules x.made x.calls (after x)
run_kept x = kept x.rules x.lawful x.calls x.made (run_made x).sound

run_next : (x : Run) (c : Call) → Stepped x.rules (after x) c (next x c)
run_next x c = stepped x.rules x.lawful (after x) (run_kept x).sound c

run_shows : (x : Run) → Shows (first_face x) (first_counter x) x.made.tape (after x).tape (faces x) (beat_places x) (sealings_in (transcript x))
run_shows x = ran x.rules x.lawful x.calls x.made (run_made x).sound

-- ---- faces and places

faces_tell : (x y : Run) → first_face x ≡ first_face y → first_counter x ≡ first_counter y → (faces x ≡ faces y) ↔ (beat_places x ≡ beat_places y)
faces_tell x y f l =
    let back : faces y ≡ scan (first_face x) (first_counter x) (beat_places y) = rw (f, l) (run_shows y).scanned in (
      (λ e. scan_tells (beat_places x) (beat_places y) (first_face x) (first_counter x) (run_made x).sound.low (run_shows x).within
          (subst (λ (k : List ℕ). All (λ p. p < length k) (beat_places y)) (sym f) (run_shows y).within) (sym (run_shows x).scanned ∙ e ∙ back)),
      (λ e. (run_shows x).scanned ∙ ap (scan (first_face x) (first_counter x)) e ∙ sym back),
    )

from_tape : (x : Run) → (beat_places x ≡ map (λ (w : ℕ). w % length x.card) (take (length (beat_places x)) x.tape)) × ((after x).tape ≡ drop (length (beat_places x)) x.tape)
from_tape x =
    let count : length (first_face x) ≡ length x.card = length-map x.made.card counter_in ∙ (run_made x).count in
    let tape = (run_made x).tape_is in (
      subst (λ (n : ℕ). beat_places x ≡ map (λ (w : ℕ). w % n) (take (length (beat_places x)) x.tape)) count
          (subst (λ (ws : List ℕ). beat_places x ≡ map (λ (w : ℕ). w % length (first_face x)) (take (length (beat_places x)) ws)) tape (run_shows x).drawn),
      (run_shows x).remain ∙ ap (drop (length (beat_places x))) tape,
    )

-- ---- counters

numbered_making : (rules : Rules) (card : List Bytes) (tape : List ℕ) (k : Making) (m : Machine) → make rules card tape k ≡ Open m
    → (ss : List Sealing) → Numbered (m.last + 1) ss → (n : ℕ) × Numbered n (making_sealings k card ++ ss)
numbered_making rules card tape (Format j) m e ss h =
    let last : length card ≡ m.last = ap (λ (k : Machine). k.last) (format_passed rules card tape j m e).is in (
      0 + 1,
      numbered_append (0 + 1) (making_sealings (Format j) card) ss (numbered_format 0 card)
          (subst (λ (n : ℕ). Numbered n ss) (omega (arith, length_format 0 card)) h),
    )
numbered_making rules card tape (Resume file) m e ss h = (m.last + 1, h)

once : (n : ℕ) (ss : List Sealing) → Numbered n ss → (i j : ℕ) → i < length ss → j < length ss
    → ((get_or ss i no_sealing).counter ≡ (get_or ss j no_sealing).counter) ↔ (i ≡ j)
once n ss h i j hi hj = (
  (λ e. omega (arith, numbered_get_or n ss i h hi, numbered_get_or n ss j h hj)),
  (λ e. ap (λ (k : ℕ). (get_or ss k no_sealing).counter) e),
)

counted_once : (x : Run) (i j : ℕ) → i < length (sealings x) → j < length (sealings x)
    → ((get_or (sealings x) i no_sealing).counter ≡ (get_or (sealings x) j no_sealing).counter) ↔ (i ≡ j)
counted_once x =
    let n = numbered_making x.rules x.card x.tape x.making x.made x.granted (sealings_in (transcript x)) (run_shows x).numbered in
    once n.0 (sealings x) n.1

-- ---- reads

latest_held : (x : Run) (b : ℕ) → holds x.rules (after x) b ≡ latest x b
latest_held x b = (run_kept x).values b ∙ ap (λ (v : Bytes). latest_in b v x.calls (transcript x)) ((run_made x).held b)

denied_valued : (r : Reason) → Denied r ≡ Valued → ⊥
denied_valued r e = let z : ◌≡◌ {A = ℕ} 0 1 = cc in omega arith

-- a granted read is of a block of the store, and answers what it holds
abbrev Told : Rules → Machine → ℕ → Outcome → Type 0
Told rules m b o = o.answer ≡ Valued → (b < length m.places) × (o.buffer ≡ holds rules m b)

read_told : (rules : Rules) → Lawful rules → (m : Machine) → Sound rules m → (b : ℕ) (s : Bytes) → Told rules m b (read_step rules m b s)
read_told rules lawful m sound b s =
    cond_both (ltb b (length m.places)) _ _ (Told rules m b)
    (λ h. cond_both (eqb (length s) 48) _ _ (Told rules m b)
    (λ k e. (ltb-true _ _ h, ap (λ (o : Outcome). o.buffer) (read_valued rules lawful m sound b s (awaited m.waiting b))))
    (λ k e. absurd (denied_valued _ e)))
    (λ h e. absurd (denied_valued _ e))

granted_read : (x : Run) (b : ℕ) (s : Bytes) → (next x (Read b s)).answer ≡ Valued → (b < blocks x) × ((next x (Read b s)).buffer ≡ latest x b)
granted_read x b s e =
    let g = read_told x.rules x.lawful (after x) (run_kept x).sound b s e in
    (subst (λ (n : ℕ). b < n) (run_kept x).size g.0, g.1 ∙ latest_held x b)

grants_read : (x : Run) (b : ℕ) (s : Bytes) → b < blocks x → length s ≡ 48 → (next x (Read b s)).answer ≡ Valued
grants_read x b s h l =
    ap (λ (o : Outcome). o.answer)
    (cond-true (ltb b (length (after x).places)) _ _ (lt-ltb _ _ (subst (λ (n : ℕ). b < n) (sym (run_kept x).size) h))
    ∙ cond-true (eqb (length s) 48) _ _ (eq-eqb _ _ l)
    ∙ read_valued x.rules x.lawful (after x) (run_kept x).sound b s (awaited (after x).waiting b))

alike : (x y : Run) → blocks x ≡ blocks y → Alike x y ↔ ((b : ℕ) → b < blocks x → latest x b ≡ latest y b)
alike x y n = (
  (λ h b l.
      let gx = grants_read x b zeros l refl in
      let gy = grants_read y b zeros (subst (λ (k : ℕ). b < k) n l) refl in
      sym (granted_read x b zeros gx).1 ∙ h b zeros zeros gx gy ∙ (granted_read y b zeros gy).1),
  (λ h b s t gx gy. let g = granted_read x b s gx in g.1 ∙ h b g.0 ∙ sym (granted_read y b t gy).1),
)

-- ---- what one call more does

put_one : (rules : Rules) (m : Machine) (o : Outcome) (p counter : ℕ) (deed : Deed) → o.answer ≡ Beaten p counter deed → Quiet m o ⊎ Struck rules m o
    → OnePut rules m o.machine p counter deed
put_one rules m o p counter deed e (inl q) = absurd (subst NoBeat e q.silent)
put_one rules m o p counter deed e (inr t) =
    let both = sym t.answer_is ∙ e in
    let place : t.place ≡ p = cc in
    let count : m.last + 1 ≡ counter = cc in
    let did : t.deed ≡ deed = cc in
    subst (OnePut rules m o.machine p counter) did (subst (λ (c : ℕ). OnePut rules m o.machine p c t.deed) count
    (subst (λ (q : ℕ). OnePut rules m o.machine q (m.last + 1) t.deed) place t.put))

kept_rest : (rules : Rules) (m : Machine) (o : Outcome) → NoBeat o.answer → Quiet m o ⊎ Struck rules m o → RestKept m o.machine
kept_rest rules m o h (inl q) = q.rest
kept_rest rules m o h (inr t) = absurd (subst NoBeat t.answer_is h)

shown : (x : Run) (s : List ℕ) → length s ≡ length x.card → ((next x (Face s)).answer ≡ Shown) × ((next x (Face s)).buffer ≡ face (after x).card)
shown x s l = rw (eq-eqb (length s) (length (after x).card) (l ∙ sym ((run_kept x).count ∙ (run_made x).count))) (refl, refl)

-- ---- save and resume

granted_save : (m : Machine) (s : Bytes) (ws : List (ℕ × Bytes)) → ws ≡ [] → file_length_of m.places ≤ length s → (save_waiting m s ws).answer ≡ Saved (file_length_of m.places)
granted_save m s [] e l = rw (le-leb (file_length_of m.places) (length s) l)
granted_save m s (w ∷ ws) e l = let z : ◌≡◌ {A = ℕ} 0 1 = cc in absurd (omega arith)

-- a granted save: nobody waits, the file is written and the bytes after it stay
record Filed (m : Machine) (s : Bytes) (ws : List (ℕ × Bytes)) (n : ℕ) (buffer : Bytes) : Type 0 where
  pub nobody : ws ≡ []
  pub file : take n buffer ≡ file_of (length m.card) m.last m.places
  pub rest : drop n buffer ≡ drop n s

save_granted : (m : Machine) (s : Bytes) (ws : List (ℕ × Bytes)) (n : ℕ) → (save_waiting m s ws).answer ≡ Saved n → Filed m s ws n (save_waiting m s ws).buffer
save_granted m s (w ∷ ws) n e = let z : ◌≡◌ {A = ℕ} 0 1 = cc in absurd (omega arith)
save_granted m s [] n e = go (leb (file_length_of m.places) (length s)) e
  where
    go : (t : Bool) → (cond t (saved m s) (denied m s buffer_length)).answer ≡ Saved n → Filed m s [] n (cond t (saved m s) (denied m s buffer_length)).buffer
    go true k =
        let f = file_of (length m.card) m.last m.places in
        let size : file_length_of m.places ≡ n = cc in
        let long : length f ≡ n = length_file (length m.card) m.last m.places ∙ size in
        record {
          nobody = refl;
          file = take_at f (drop (file_length_of m.places) s) n long;
          rest = drop_at f (drop (file_length_of m.places) s) n long ∙ ap (λ (k : ℕ). drop k s) size;
        }
    go false k = let z : ◌≡◌ {A = ℕ} 0 1 = cc in absurd (omega arith)

run_filed : (x : Run) (s : Bytes) (n : ℕ) → (next x (Save s)).answer ≡ Saved n → Filed (after x) s (after x).waiting n (next x (Save s)).buffer
run_filed x s n e = save_granted (after x) s (after x).waiting n e

run_saved : (x : Run) (s : Bytes) (n : ℕ) → (next x (Save s)).answer ≡ Saved n
    → make x.rules (after x).card (after x).tape (Resume (take n (next x (Save s)).buffer)) ≡ Open (after x)
run_saved x s n e =
    let g = run_filed x s n e in
    ap (resume x.rules (after x).card (after x).tape) g.file ∙ resumes x.rules x.lawful (after x) (run_kept x).sound g.nobody

run_file : (x : Run) (s : Bytes) (n : ℕ) → (next x (Save s)).answer ≡ Saved n
    → (take n (next x (Save s)).buffer ≡ file_of (length x.card) (after x).last (after x).places) × (drop n (next x (Save s)).buffer ≡ drop n s)
run_file x s n e =
    let g = run_filed x s n e in
    (g.file ∙ ap (λ (count : ℕ). file_of count (after x).last (after x).places) ((run_kept x).count ∙ (run_made x).count), g.rest)

-- ---- checks

run_judged : (x : Run) (c : Call) → Judged (after x) c (next x c) (first_that_holds (call_checks (after x) c))
run_judged x c = judged x.rules x.lawful (after x) (run_kept x).sound c

pub law_of_runs : Law
law_of_runs = record {
  equal_faces_when_equal_places = faces_tell;
  places_come_from_the_tape = from_tape;
  no_counter_twice = counted_once;
  reads_give_the_latest = λ x b s e. (granted_read x b s e).1;
  alike_when_latest_equal = alike;
  denied_by_the_first_check = λ x c. reason_judged (after x) c (next x c) _ (run_judged x c);
  granted_calls_answer_in_kind = λ x c. own_judged (after x) c (next x c) _ (run_judged x c);
  never_from_below = λ x c r e. subst Above e (run_next x c).above;
  reads_are_granted = grants_read;
  beats_are_granted = λ x h k. granted_beat x.rules x.lawful (after x) (run_kept x).sound (after x).tape h k;
  writes_are_granted = λ x b v h l k. granted_write x.rules x.lawful (after x) (run_kept x).sound b v (subst (λ (n : ℕ). b < n) (sym (run_kept x).size) h) l k;
  saves_are_granted = λ x s e l. granted_save (after x) s (after x).waiting e l;
  beats_put_one_record = λ x c p counter deed e. put_one x.rules (after x) (next x c) p counter deed e (run_next x c).way;
  writes_keep_the_turn = λ x b value. turned (after x) b value;
  saves_leave_the_bytes_after = run_file;
  saved_files_are_laid_out = λ x s n e. subst (LaidOut (after x)) (sym (run_filed x s n e).file) (laid_out x.rules x.lawful (after x) (run_kept x).sound);
  faces_are_shown = shown;
  others_keep_the_rest = λ x c h. kept_rest x.rules (after x) (next x c) h (run_next x c).way;
  looking_alters_nothing = λ x c. left x.rules x.lawful (after x) (run_kept x).sound c;
  denied_calls_alter_nothing = λ x c. denied_judged (after x) c (next x c) _ (run_judged x c);
  makings_denied_by_the_first_check = λ rules card tape k. reason_making card tape (make rules card tape k) _ (judged_making card tape rules k);
  resumed_files_fit = fits;
  begins_as_made = run_begun;
  format_leaves_its_sealings = λ x n e. format_left x.rules x.card x.tape x.making x.made x.granted n e;
  resumed_is_saved = run_saved;
  denied_makings_alter_nothing = λ rules card tape k. denied_making card tape (make rules card tape k) _ (judged_making card tape rules k);
  open_stores_go_on = λ x c. refl;
  shut_stores_stay = λ rules r card tape c. refl;
}
