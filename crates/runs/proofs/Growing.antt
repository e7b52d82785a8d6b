-- A transcript that grows by one call, and format's sealings by one place.
use Rattle.std.proofs.Common.{◌≡◌, ℕ, zero, suc, ◌+◌, ◌<◌, ◌≤◌, ◌⊎◌, List, [], ◌∷◌, ◌++◌, map, length, take, vec_items, Option, sym, refl, ap, ◌∙◌, subst, inl, inr, add-zero, add-one, arith}
use Rattle.std.proofs.lemmas.List.{append_assoc, map_push, length_push, length-take-le}
use Rattle.layout.specs.Numbers.{Bytes}
use Rattle.layout.specs.Layouts.{face}
use Rattle.denial.specs.Denials.{place_number}
use Rattle.seal.specs.Seals.{Rules}
use Rattle.machine.specs.Machine as machine
use Rattle.machine.specs.Machine.{Face}
use Rattle.machine.specs.Makings.{Store, Open, Shut, Called, call, handed}
use Rattle.machine.specs.Runs as law
use Rattle.machine.specs.Runs.{Seen, seen_on, at_beat, faces_in, places_in, sealings_in, format_sealings}
use Rattle.store.specs.Made.{card_of}
use Rattle.runs.specs.Told.{Answer, call_told, told_seen, answer_told}
use Rattle.runs.specs.Performed.{called_told}
use Rattle.runs.specs.Shown.{Beginning, Told, begun_told, answers_told, sealing_told, notes_told, answered, Start, shown_by, left_on, seen_of, face_on, BeatNoted, OneMore}
use Rattle.runs.specs.declared.calls.Call.{Call}
use Rattle.runs.specs.declared.transcript.Notes.{Notes}

-- ---- format's sealings

one_place_more : (k i : ℕ) (card : List Bytes) → i < length card
    → format_sealings k (take (suc i) card) ≡ format_sealings k (take i card) ++ record { place = k + i; counter = k + i + 1 } ∷ []
one_place_more k i [] h = absurd (omega arith)
one_place_more k zero (r ∷ rs) h = rw add-zero
one_place_more k (suc i) (r ∷ rs) h =
    let e : suc k + i ≡ k + suc i = omega arith in
    ap (λ (xs : List law.Sealing). record { place = k; counter = k + 1 } ∷ xs)
    (one_place_more (suc k) i rs (omega arith)
    ∙ ap (λ (n : ℕ). format_sealings (suc k) (take i rs) ++ record { place = n; counter = n + 1 } ∷ []) e)

pub format_sealings_more : (i : ℕ) (card : List Bytes) → i + 1 ≤ length card
    → format_sealings 0 (take (i + 1) card) ≡ format_sealings 0 (take i card) ++ record { place = i; counter = i + 1 } ∷ []
format_sealings_more i card h =
    let e : 0 + i ≡ i = omega arith in
    ap (λ (n : ℕ). format_sealings 0 (take n card)) (add-one i) ∙ (one_place_more 0 i card (omega arith)
    ∙ ap (λ (n : ℕ). format_sealings 0 (take i card) ++ record { place = n; counter = n + 1 } ∷ []) e)

-- ---- the face

-- after a granted beat the face call shows the card's face
face_after_beat : (rules : Rules) (s : Store) (c : machine.Call) → let d : Called = call rules s c in
    at_beat d.answer (λ p k. face_on d.store) [] ≡ at_beat d.answer (λ p k. face (card_of d.store)) []
face_after_beat rules (Open m) c = refl
face_after_beat rules (Shut r card tape) c = refl

-- ---- one call more

-- what a push adds, as it is told
pub pushed : {X Y : Type 0} (f : X → Y) (xs ys : List X) (x : X) (y : Y) → ys ≡ xs ++ x ∷ [] → f x ≡ y → map f ys ≡ map f xs ++ y ∷ []
pushed f xs ys x y e h = ap (map f) e ∙ (map_push f xs x ∙ ap (λ z. map f xs ++ z ∷ []) h)

answers_more : (cs : List Call) (given : List Answer) (c : Call) (a : Answer) → length cs ≡ length given
    → answers_told (cs ++ c ∷ []) (given ++ a ∷ []) ≡ answers_told cs given ++ told_seen c a ∷ []
answers_more [] [] c a l = refl
answers_more [] (x ∷ given) c a l = absurd (omega arith)
answers_more (k ∷ cs) [] c a l = absurd (omega arith)
answers_more (k ∷ cs) (x ∷ given) c a l = ap (λ xs. told_seen k x ∷ xs) (answers_more cs given c a (omega arith))

at_beat_append : {X : Type 0} (a : machine.Answer) (f : ℕ → ℕ → X) (xs ys : List X) → at_beat a f (xs ++ ys) ≡ at_beat a f xs ++ ys
at_beat_append machine.Written f xs ys = refl
at_beat_append machine.Valued f xs ys = refl
at_beat_append (machine.Beaten p c d) f xs ys = refl
at_beat_append (machine.Saved n) f xs ys = refl
at_beat_append machine.Shown f xs ys = refl
at_beat_append (machine.Denied r) f xs ys = refl

faces_more : (ss : List Seen) (s : Seen) → faces_in (ss ++ s ∷ []) ≡ faces_in ss ++ at_beat s.answer (λ p c. s.face_after) []
faces_more [] s = refl
faces_more (x ∷ ss) s = ap (at_beat x.answer (λ p c. x.face_after)) (faces_more ss s) ∙ at_beat_append x.answer (λ p c. x.face_after) (faces_in ss) (at_beat s.answer (λ p c. s.face_after) [])

places_more : (ss : List Seen) (s : Seen) → places_in (ss ++ s ∷ []) ≡ places_in ss ++ at_beat s.answer (λ p c. p) []
places_more [] s = refl
places_more (x ∷ ss) s = ap (at_beat x.answer (λ p c. p)) (places_more ss s) ∙ at_beat_append x.answer (λ p c. p) (places_in ss) (at_beat s.answer (λ p c. p) [])

abbrev sealed : ℕ → ℕ → law.Sealing
sealed p c = record { place = p; counter = c }

sealings_more : (ss : List Seen) (s : Seen) → sealings_in (ss ++ s ∷ []) ≡ sealings_in ss ++ at_beat s.answer sealed []
sealings_more [] s = refl
sealings_more (x ∷ ss) s = ap (at_beat x.answer sealed) (sealings_more ss s) ∙ at_beat_append x.answer sealed (sealings_in ss) (at_beat s.answer sealed [])

abbrev told : Option Beginning → List (machine.Answer × List ℕ) → List (List ℕ) → List ℕ → List law.Sealing → Told
told o a f p k = record { begun = o; answers = a; faces = f; places = p; sealings = k }

pub same_told : {o n : Option Beginning} {a b : List (machine.Answer × List ℕ)} {f g : List (List ℕ)} {p q : List ℕ} {k l : List law.Sealing}
    → o ≡ n → a ≡ b → f ≡ g → p ≡ q → k ≡ l → told o a f p k ≡ told n b g q l
same_told {o} {n} {a} {b} {f} {g} {p} {q} {k} {l} eo ea ef ep ek =
    ap (λ (x : Option Beginning). told x a f p k) eo
    ∙ (ap (λ (x : List (machine.Answer × List ℕ)). told n x f p k) ea
    ∙ (ap (λ (x : List (List ℕ)). told n b x p k) ef ∙ (ap (λ (x : List ℕ). told n b g x k) ep ∙ ap (λ (x : List law.Sealing). told n b g q x) ek)))

one_more : (c : Call) (a : Answer) (s : Store) (t u w : Notes)
    → at_beat (answer_told a) (λ p k. face_on s) [] ≡ at_beat (answer_told a) (λ p k. face (card_of s)) []
    → BeatNoted (answer_told a) s t u
    → w.begun ≡ u.begun → vec_items w.answers ≡ vec_items u.answers ++ a ∷ [] → w.faces ≡ u.faces → w.places ≡ u.places → w.sealings ≡ u.sealings
    → OneMore c (called_told (handed (call_told c)) a s) t w
one_more c a s t u w shows b eo ea ef ep ek =
    let given : List Answer = vec_items t.answers in
    let d : Called = called_told (handed (call_told c)) a s in
    let grown : vec_items w.answers ≡ given ++ a ∷ [] = ea ∙ ap (λ (xs : List Answer). xs ++ a ∷ []) b.answers_stay in
    record {
      answer_more = ap length grown ∙ length_push given a;
      shows_more = λ cs first ss l e. same_told
          (ap begun_told (eo ∙ b.begun_stays) ∙ ap (λ (x : Told). x.begun) e)
          (ap (answers_told (cs ++ c ∷ [])) grown ∙ (answers_more cs given c a l
          ∙ (ap (λ (x : Told). x.answers ++ told_seen c a ∷ []) e ∙ sym (map_push answered ss (seen_of d)))))
          (ap (λ v. map vec_items (vec_items v)) ef ∙ (b.faces_more
          ∙ (ap (λ (x : Told). x.faces ++ at_beat (answer_told a) (λ p k. face_on s) []) e
          ∙ (ap (λ (xs : List (List ℕ)). faces_in ss ++ xs) shows ∙ sym (faces_more ss (seen_of d))))))
          (ap (λ v. map place_number (vec_items v)) ep ∙ (b.places_more
          ∙ (ap (λ (x : Told). x.places ++ at_beat (answer_told a) (λ p k. p) []) e ∙ sym (places_more ss (seen_of d)))))
          (ap (λ v. map sealing_told (vec_items v)) ek ∙ (b.sealings_more
          ∙ (ap (λ (x : Told). x.sealings ++ at_beat (answer_told a) sealed []) e
          ∙ (append_assoc first.sealings (sealings_in ss) (at_beat (answer_told a) sealed [])
          ∙ ap (λ (xs : List law.Sealing). first.sealings ++ xs) (sym (sealings_more ss (seen_of d)))))));
    }

pub call_noted : (rules : Rules) (before s : Store) (c : Call) (a : Answer) (t u w : Notes)
    → called_told (handed (call_told c)) a s ≡ call rules before (call_told c)
    → BeatNoted (answer_told a) s t u
    → w.begun ≡ u.begun → vec_items w.answers ≡ vec_items u.answers ++ a ∷ [] → w.faces ≡ u.faces → w.places ≡ u.places → w.sealings ≡ u.sealings
    → OneMore c (call rules before (call_told c)) t w
call_noted rules before s c a t u w e b eo ea ef ep ek =
    let P : Called → Type 0 = λ d. at_beat d.answer (λ p k. face_on d.store) [] ≡ at_beat d.answer (λ p k. face (card_of d.store)) [] in
    subst (λ (d : Called). OneMore c d t w) e (one_more c a s t u w (subst P (sym e) (face_after_beat rules before (call_told c))) b eo ea ef ep ek)

-- ---- stores and what they show, by one call more

pub left_more : (rules : Rules) (cs : List machine.Call) (s : Store) (c : machine.Call) → left_on rules s (cs ++ c ∷ []) ≡ (call rules (left_on rules s cs) c).store
left_more rules [] s c = refl
left_more rules (x ∷ cs) s c = left_more rules cs (call rules s x).store c

seen_first : (rules : Rules) (s : Store) (c : machine.Call) (cs : List machine.Call) → seen_on rules s (c ∷ cs) ≡ seen_of (call rules s c) ∷ seen_on rules (call rules s c).store cs
seen_first rules (Open m) c cs = refl
seen_first rules (Shut r card tape) c cs = refl

seen_none : (rules : Rules) (s : Store) → seen_on rules s [] ≡ []
seen_none rules (Open m) = refl
seen_none rules (Shut r card tape) = refl

pub seen_more : (rules : Rules) (cs : List machine.Call) (s : Store) (c : machine.Call)
    → seen_on rules s (cs ++ c ∷ []) ≡ seen_on rules s cs ++ seen_of (call rules (left_on rules s cs) c) ∷ []
seen_more rules [] s c =
    seen_first rules s c [] ∙ (ap (λ (xs : List Seen). seen_of (call rules s c) ∷ xs) (seen_none rules (call rules s c).store)
    ∙ ap (λ (xs : List Seen). xs ++ seen_of (call rules s c) ∷ []) (sym (seen_none rules s)))
seen_more rules (x ∷ cs) s c =
    seen_first rules s x (cs ++ c ∷ []) ∙ (ap (λ (xs : List Seen). seen_of (call rules s x) ∷ xs) (seen_more rules cs (call rules s x).store c)
    ∙ ap (λ (xs : List Seen). xs ++ seen_of (call rules (left_on rules s (x ∷ cs)) c) ∷ []) (sym (seen_first rules s x cs)))

-- ---- what was followed so far, by one call more

pub left_one_more : (rules : Rules) (s before after : Store) (cs : List Call) (c : Call) → before ≡ left_on rules s (map call_told cs)
    → after ≡ (call rules before (call_told c)).store → after ≡ left_on rules s (map call_told (cs ++ c ∷ []))
left_one_more rules s before after cs c e h =
    h ∙ (ap (λ (x : Store). (call rules x (call_told c)).store) e
    ∙ (sym (left_more rules (map call_told cs) s (call_told c)) ∙ ap (left_on rules s) (sym (map_push call_told cs c))))

pub shown_one_more : (rules : Rules) (s before : Store) (cs : List Call) (c : Call) (t u : Notes) (first : Start)
    → before ≡ left_on rules s (map call_told cs) → length cs ≡ length (vec_items t.answers) → OneMore c (call rules before (call_told c)) t u
    → notes_told cs t ≡ shown_by first (seen_on rules s (map call_told cs))
    → notes_told (cs ++ c ∷ []) u ≡ shown_by first (seen_on rules s (map call_told (cs ++ c ∷ [])))
shown_one_more rules s before cs c t u first e l m h =
    m.shows_more cs first (seen_on rules s (map call_told cs)) l h
    ∙ ap (shown_by first) (ap (λ (x : Store). seen_on rules s (map call_told cs) ++ seen_of (call rules x (call_told c)) ∷ []) e
    ∙ (sym (seen_more rules (map call_told cs) s (call_told c)) ∙ ap (seen_on rules s) (sym (map_push call_told cs c))))

-- a turn of the loop that follows the calls
pub record Turned (rules : Rules) (s after : Store) (calls : List Call) (i : ℕ) (t u : Notes) : Type 0 where
  pub left : after ≡ left_on rules s (map call_told (take (i + 1) calls))
  pub count : length (vec_items u.answers) ≡ i + 1
  pub shows : (first : Start) → notes_told (take i calls) t ≡ shown_by first (seen_on rules s (map call_told (take i calls)))
      → notes_told (take (i + 1) calls) u ≡ shown_by first (seen_on rules s (map call_told (take (i + 1) calls)))

abbrev Noted : Rules → Store → Store → Call → Notes → Notes → Type 0
Noted rules before after k t u = (after ≡ (call rules before (call_told k)).store) × OneMore k (call rules before (call_told k)) t u

pub turned : {S : Type 0} (rules_of : S → Rules) (z y : S) (s before after : Store) (calls : List Call) (i : ℕ) (k : Call) (t u : Notes)
    → z ≡ y → before ≡ left_on (rules_of y) s (map call_told (take i calls)) → length (vec_items t.answers) ≡ i → i < length calls
    → Noted (rules_of z) before after k t u → take (i + 1) calls ≡ take i calls ++ k ∷ [] → Turned (rules_of y) s after calls i t u
turned {S} rules_of z y s before after calls i k t u same e l h noted more =
    let m = subst (λ (x : S). Noted (rules_of x) before after k t u) same noted in
    let rules = rules_of y in
    record {
      left = left_one_more rules s before after (take i calls) k e m.0 ∙ ap (λ (cs : List Call). left_on rules s (map call_told cs)) (sym more);
      count = m.1.answer_more ∙ ap (λ (n : ℕ). n + 1) l;
      shows = λ first h2. subst (λ (cs : List Call). notes_told cs u ≡ shown_by first (seen_on rules s (map call_told cs))) (sym more)
          (shown_one_more rules s before (take i calls) k t u first e (length-take-le i calls (omega arith) ∙ sym l) m.1 h2);
    }

-- and one that stops for want of memory
pub stopped : {S : Type 0} (rules_of : S → Rules) (z y : S) (s before after : Store) (calls : List Call) (i : ℕ) (k : Call)
    → z ≡ y → before ≡ left_on (rules_of y) s (map call_told (take i calls))
    → (after ≡ before) ⊎ (after ≡ (call (rules_of z) before (call_told k)).store) → take (i + 1) calls ≡ take i calls ++ k ∷ []
    → (n : ℕ) × (after ≡ left_on (rules_of y) s (map call_told (take n calls)))
stopped rules_of z y s before after calls i k same e (inl h) more = (i, h ∙ e)
stopped {S} rules_of z y s before after calls i k same e (inr h) more = (
  i + 1,
  left_one_more (rules_of y) s before after (take i calls) k e (subst (λ (x : S). after ≡ (call (rules_of x) before (call_told k)).store) same h)
      ∙ ap (λ (cs : List Call). left_on (rules_of y) s (map call_told cs)) (sym more),
)
