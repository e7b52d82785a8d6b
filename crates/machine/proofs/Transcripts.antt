-- What a list of calls on a sound machine shows and leaves.
use Rattle.std.proofs.Common.{◌≡◌, ℕ, zero, suc, ◌+◌, ◌%◌, ◌<◌, ◌≤◌, ◌⊎◌, List, [], ◌∷◌, ◌++◌, map, length, get_or, take, drop, set, sym, refl, ap, ◌∙◌, subst, inl, inr, ⊎_elim, arith}
use Rattle.std.specs.List.{AllByRecursion as All}
use Rattle.std.proofs.lemmas.List.{length-set, length-map, get_or-set_same, get_or-set_other}
use Rattle.std.proofs.ByRecursion.{All-set, All-weaker, All-get_or}
use Rattle.std.proofs.lemmas.Bool.{cases_eq}
use Rattle.layout.specs.Numbers.{Bytes}
use Rattle.layout.specs.Layouts.{counter_in, face}
use Rattle.seal.specs.Seals.{Rules, Lawful}
use Rattle.machine.specs.Machine.{Machine, Call, Answer, Written, Valued, Beaten, Saved, Shown, Denied, Outcome, step}
use Rattle.machine.specs.Runs.{Seen, seen, seen_calls, ending, faces_in, places_in, Sealing, sealings_in, latest_in}
use Rattle.machine.specs.Law.{NoBeat, RestKept, no_sealing}
use Rattle.machine.proofs.Invariant.{Sound, holds, face_sealed}
use Rattle.machine.proofs.Steps.{Quiet, Struck, stepped}

-- ---- counters one by one

abbrev pub Numbered : ℕ → List Sealing → Type 0
Numbered n [] = Unit {0}
Numbered n (s ∷ ss) = (s.counter ≡ n) × Numbered (n + 1) ss

pub numbered_get_or : (n : ℕ) (ss : List Sealing) (i : ℕ) → Numbered n ss → i < length ss → (get_or ss i no_sealing).counter ≡ n + i
numbered_get_or n [] i h l = absurd (omega arith)
numbered_get_or n (s ∷ ss) zero h l = omega (arith, h.0)
numbered_get_or n (s ∷ ss) (suc i) h l = omega (arith, numbered_get_or (n + 1) ss i h.1 (omega arith))

pub numbered_append : (n : ℕ) (ss ts : List Sealing) → Numbered n ss → Numbered (n + length ss) ts → Numbered n (ss ++ ts)
numbered_append n [] ts h k = subst (λ (j : ℕ). Numbered j ts) (omega arith) k
numbered_append n (s ∷ ss) ts h k = (h.0, numbered_append (n + 1) ss ts h.1 (subst (λ (j : ℕ). Numbered j ts) (omega arith) k))

-- ---- faces by places

-- the faces that a list of places makes, from a face and a last counter on
abbrev pub scan : List ℕ → ℕ → List ℕ → List (List ℕ)
scan f last [] = []
scan f last (p ∷ ps) = set f p (last + 1) ∷ scan (set f p (last + 1)) (last + 1) ps

-- a new highest number tells its place
one_place : (f : List ℕ) (last p q : ℕ) → All (λ c. c ≤ last) f → p < length f → q < length f → set f p (last + 1) ≡ set f q (last + 1) → p ≡ q
one_place f last p q low hp hq e = ⊎_elim (λ same. same) differ (cases_eq p q)
  where
    differ : (p ≡ q → ⊥) → p ≡ q
    differ ne =
        let a = get_or-set_same f p (last + 1) 0 hp in
        let b = get_or-set_other f q p (last + 1) 0 ne in
        let c = ap (λ (k : List ℕ). get_or k p 0) e in
        let d = All-get_or (λ c. c ≤ last) f p 0 hp low in
        absurd (omega (arith, a, b, c, d))

-- so equal faces come from equal places
pub scan_tells : (ps qs : List ℕ) (f : List ℕ) (last : ℕ) → All (λ c. c ≤ last) f → All (λ p. p < length f) ps → All (λ p. p < length f) qs
    → scan f last ps ≡ scan f last qs → ps ≡ qs
scan_tells [] [] f last low hp hq e = refl
scan_tells [] (q ∷ qs) f last low hp hq e = let z : ◌≡◌ {A = ℕ} 0 1 = cc in absurd (omega arith)
scan_tells (p ∷ ps) [] f last low hp hq e = let z : ◌≡◌ {A = ℕ} 0 1 = cc in absurd (omega arith)
scan_tells (p ∷ ps) (q ∷ qs) f last low hp hq e =
    let same : p ≡ q = one_place f last p q low hp.0 hq.0 (cc) in
    let n = length-set f p (last + 1) in
    let rest : ps ≡ qs =
    scan_tells ps qs (set f p (last + 1)) (last + 1)
    (All-set (λ c. c ≤ last + 1) f p (last + 1) (omega arith) (All-weaker (λ c. c ≤ last) (λ c. c ≤ last + 1) (λ c h. omega arith) f low))
    (subst (λ (k : ℕ). All (λ j. j < k) ps) (sym n) hp.1)
    (subst (λ (k : ℕ). All (λ j. j < k) qs) (sym n) hq.1) (cc) in
    cc

-- ---- one call after the other

-- from a face, a last counter and a tape: the tape left, the faces, the places and the sealings
pub record Shows (f : List ℕ) (last : ℕ) (tape left : List ℕ) (fs : List (List ℕ)) (ps : List ℕ) (ss : List Sealing) : Type 0 where
  pub scanned : fs ≡ scan f last ps
  pub within : All (λ p. p < length f) ps
  pub numbered : Numbered (last + 1) ss
  pub drawn : ps ≡ map (λ (w : ℕ). w % length f) (take (length ps) tape)
  pub remain : left ≡ drop (length ps) tape

-- a granted beat in front
shows_beat : (f : List ℕ) (last w p : ℕ) (tape left : List ℕ) (fs : List (List ℕ)) (ps : List ℕ) (ss : List Sealing) → p < length f → p ≡ w % length f
    → Shows (set f p (last + 1)) (last + 1) tape left fs ps ss
    → Shows f last (w ∷ tape) left (set f p (last + 1) ∷ fs) (p ∷ ps) (record { place = p; counter = last + 1 } ∷ ss)
shows_beat f last w p tape left fs ps ss l e h =
    let n = length-set f p (last + 1) in
    let d = subst (λ (n : ℕ). ps ≡ map (λ (w : ℕ). w % n) (take (length ps) tape)) n h.drawn in
    record {
      scanned = ap (λ (k : List (List ℕ)). set f p (last + 1) ∷ k) h.scanned;
      within = (l, subst (λ (n : ℕ). All (λ p. p < n) ps) n h.within);
      numbered = (refl, h.numbered);
      drawn = cc;
      remain = h.remain;
    }

abbrev Ran : Machine → Machine → List Seen → Type 0
Ran m e ss = Shows (face m.card) m.last m.tape e.tape (faces_in ss) (places_in ss) (sealings_in ss)

-- a call that is no granted beat in front
ran_quiet : (m e n : Machine) (a : Answer) (buffer : List ℕ) (ss : List Seen) → NoBeat a → RestKept m n → Ran n e ss
    → Ran m e (seen (record { answer = a; buffer = buffer; machine = n }) ∷ ss)
ran_quiet m e n a buffer ss quiet r h = go a quiet
  where
    same : Ran m e ss
    same = rw (← r.card_kept, ← r.last_kept, ← r.tape_kept) h

    go : (a : Answer) → NoBeat a → Ran m e (seen (record { answer = a; buffer = buffer; machine = n }) ∷ ss)
    go Written q = same
    go Valued q = same
    go (Beaten p c d) q = absurd q
    go (Saved k) q = same
    go Shown q = same
    go (Denied r) q = same

module _ (rules : Rules) (lawful : Lawful rules) where
  ran_one : (m e : Machine) (o : Outcome) (ss : List Seen) → Ran o.machine e ss → Quiet m o ⊎ Struck rules m o → Ran m e (seen o ∷ ss)
  ran_one m e o ss h (inl q) = ran_quiet m e o.machine o.answer o.buffer ss q.silent q.rest h
  ran_one m e o ss h (inr t) =
      let put = t.put in
      let g : face o.machine.card ≡ set (face m.card) t.place (m.last + 1) =
      ap face put.card_after ∙ face_sealed rules lawful m.card t.place (m.last + 1) put.body put.on_card put.body_long t.fits in
      let n = length-map m.card counter_in in
      rw (t.answer_is, t.tape_is, g)
      (shows_beat (face m.card) m.last t.word t.place o.machine.tape e.tape (faces_in ss) (places_in ss) (sealings_in ss)
      (rw n put.on_card) (rw n t.drawn) (rw (g, put.last_after) at h))

  pub ran : (cs : List Call) (m : Machine) → Sound rules m → Ran m (ending rules m cs) (seen_calls rules m cs)
  ran [] m s = record { scanned = refl; within = tt; numbered = tt; drawn = refl; remain = refl }
  ran (c ∷ cs) m s =
      let d = stepped rules lawful m s c in
      ran_one m (ending rules (step rules m c).machine cs) (step rules m c) (seen_calls rules (step rules m c).machine cs) (ran cs (step rules m c).machine d.sound) d.way

-- the machine that a list of calls leaves: sound, with as many blocks, each holding its latest value
pub record Kept (rules : Rules) (m : Machine) (cs : List Call) (e : Machine) : Type 0 where
  pub sound : Sound rules e
  pub size : length e.places ≡ length m.places
  pub count : length e.card ≡ length m.card
  pub values : (b : ℕ) → holds rules e b ≡ latest_in b (holds rules m b) cs (seen_calls rules m cs)

pub kept : (rules : Rules) → Lawful rules → (cs : List Call) (m : Machine) → Sound rules m → Kept rules m cs (ending rules m cs)
kept rules lawful [] m s = record { sound = s; size = refl; count = refl; values = λ b. refl }
kept rules lawful (c ∷ cs) m s =
    let d = stepped rules lawful m s c in
    let k = kept rules lawful cs (step rules m c).machine d.sound in
    record {
      sound = k.sound;
      size = k.size ∙ d.size;
      count = k.count ∙ d.count;
      values = λ b. k.values b ∙ ap (λ (v : Bytes). latest_in b v cs (seen_calls rules (step rules m c).machine cs)) (d.values b);
    }
