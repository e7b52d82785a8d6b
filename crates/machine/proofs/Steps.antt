-- What one call does to a sound machine: the invariant stays, the blocks hold what the call says, and a record is put or nothing moves.
use Rattle.std.proofs.Common.{◌≡◌, ℕ, ◌+◌, ◌%◌, ◌^◌, ◌<◌, ◌≤◌, eqb, ltb, leb, ◌⊎◌, List, [], ◌∷◌, ◌++◌, length, get_or, drop, set, Some, None, Ok, Err, Option, Result, sym, refl, ap, ◌∙◌, subst, inl, inr, ⊎_elim, arith}
use Rattle.std.specs.List.{AllByRecursion as All}
use Rattle.std.proofs.lemmas.Nat.{mod_below}
use Rattle.std.proofs.lemmas.List.{length-set, get_or-set_same, get_or-set_other}
use Rattle.std.proofs.ByRecursion.{All-push, All-set, All-weaker}
use Rattle.std.proofs.lemmas.Bool.{cond_both, lt-ltb, le-leb, ltb-true, leb-true, eqb-true, eqb-false, eq-eqb, ne_eqb, cases_eq}
use Rattle.layout.specs.Numbers.{Bytes}
use Rattle.layout.specs.Layouts.{body_of, block_in, value_in, zeros, filled, no_block, dummy_body, face, BodyApart}
use Rattle.layout.proofs.Apart.{body_apart}
use Rattle.denial.specs.Denials.{Denial}
use Rattle.seal.specs.Seals.{Rules, Lawful}
use Rattle.machine.specs.Machine.{Machine, Call, Write, Read, Beat, Save, Face, Deed, Dummy, Landed, Resealed, Reason, DenialOf, Answer, Written, Valued, Beaten, Saved, Shown, Denied, Outcome, denied, occupant, awaited, altered, opened_at, with_waiting, written, write_waiting, write_step, valued, read_landed, read_waiting, read_step, with_tape, beaten, occupied_beat, vacant_beat, beat_at, beat_tape, save_waiting, face_step, step}
use Rattle.machine.specs.Runs.{later, value_opened, value_at}
use Rattle.machine.specs.Law.{NoBeat, IsBeat, Done, OnePut, RestKept, FromAbove}
use Rattle.machine.proofs.Lookups.{Once, some_same, altered_same, altered_other, pushed_same, pushed_other, once_altered, once_pushed, all_altered, occupant_placed, vacant_place, placed_below}
use Rattle.machine.proofs.Invariant.{Opens, Fitting, Sound, chosen, holds, length_filled, length_value, opened_parts, opened_here, opened_elsewhere, face_sealed}

-- a refusal has a reason from above
abbrev pub Above : Answer → Type 0
Above Written = Unit {0}
Above Valued = Unit {0}
Above (Beaten p c d) = Unit {0}
Above (Saved n) = Unit {0}
Above Shown = Unit {0}
Above (Denied r) = FromAbove r

-- no granted beat
pub record Quiet (m : Machine) (o : Outcome) : Type 0 where
  pub silent : NoBeat o.answer
  pub rest : RestKept m o.machine

-- a granted beat, and the word that it drew
pub record Struck (rules : Rules) (m : Machine) (o : Outcome) : Type 0 where
  pub place : ℕ
  pub deed : Deed
  pub answer_is : o.answer ≡ Beaten place (m.last + 1) deed
  pub put : OnePut rules m o.machine place (m.last + 1) deed
  pub fits : m.last + 1 < 2 ^ 32
  pub word : ℕ
  pub tape_is : m.tape ≡ word ∷ o.machine.tape
  pub drawn : place ≡ word % length m.card

pub record Stepped (rules : Rules) (m : Machine) (c : Call) (o : Outcome) : Type 0 where
  pub sound : Sound rules o.machine
  pub size : length o.machine.places ≡ length m.places
  pub count : length o.machine.card ≡ length m.card
  pub values : (b : ℕ) → holds rules o.machine b ≡ later b c o.answer (holds rules m b)
  pub above : Above o.answer
  pub way : Quiet m o ⊎ Struck rules m o

later_denied : (b : ℕ) (c : Call) (r : Reason) (v : Bytes) → later b c (Denied r) v ≡ v
later_denied b (Write k value) r v = cond_both (eqb k b) v v (λ x. x ≡ v) (λ e. refl) (λ e. refl)
later_denied b (Read k buffer) r v = refl
later_denied b Beat r v = refl
later_denied b (Save buffer) r v = refl
later_denied b (Face buffer) r v = refl

-- a new position map has a block at place p, with its body there, and the others where they were
abbrev Moves : Machine → ℕ → Bytes → List (Option ℕ) → Type 0
Moves m p body places = (b q : ℕ) → get_or places b None ≡ Some q
    → ((q ≡ p) × (block_in body ≡ b)) ⊎ ((q ≡ p → ⊥) × (get_or m.places b None ≡ Some q))

module _ (rules : Rules) (lawful : Lawful rules) (m : Machine) (s : Sound rules m) where
  -- a call that leaves the machine
  still : (c : Call) (a : Answer) (buffer : List ℕ) → NoBeat a → Above a → ((b : ℕ) (v : Bytes) → later b c a v ≡ v)
      → Stepped rules m c (record { answer = a; buffer = buffer; machine = m })
  still c a buffer silent above same = record {
    sound = s;
    size = refl;
    count = refl;
    values = λ b. sym (same b (holds rules m b));
    above = above;
    way = inl (record { silent = silent; rest = record { card_kept = refl; places_kept = refl; tape_kept = refl; last_kept = refl } });
  }

  refused : (c : Call) (buffer : List ℕ) (d : Denial) → d.number < 15 → Stepped rules m c (denied m buffer d)
  refused c buffer d h = still c (Denied (DenialOf d)) buffer tt (d, refl, h) (λ b v. later_denied b c (DenialOf d) v)

  -- ---- write

  module _ (k : ℕ) (value : Bytes) (below : k < length m.places) (short : length value ≤ 48) where
    -- a waiting list with the new value
    waited : (ws : List (ℕ × Bytes)) → All (Fitting (length m.places)) ws → Once ws → awaited ws k ≡ Some (filled value)
        → ((b : ℕ) → (k ≡ b → ⊥) → awaited ws b ≡ awaited m.waiting b) → Stepped rules m (Write k value) (written m ws)
    waited ws fitting once here others = record {
      sound = record { small = s.small; fits = s.fits; low = s.low; some = s.some; few = s.few; room = s.room; apart = s.apart; opens = s.opens; fitting = fitting; once = once };
      size = refl;
      count = refl;
      values = λ b. cond_both (eqb k b) (filled value) (holds rules m b) (λ v. holds rules (with_waiting m ws) b ≡ v)
          (λ e. ap (λ (o : Option Bytes). chosen o (value_at rules m.card (get_or m.places b None))) (ap (awaited ws) (sym (eqb-true k b e)) ∙ here))
          (λ e. ap (λ (o : Option Bytes). chosen o (value_at rules m.card (get_or m.places b None))) (others b (eqb-false k b e)));
      above = tt;
      way = inl (record { silent = tt; rest = record { card_kept = refl; places_kept = refl; tape_kept = refl; last_kept = refl } });
    }

    stepped_waiting : (o : Option Bytes) → awaited m.waiting k ≡ o → Stepped rules m (Write k value) (write_waiting m k (filled value) o)
    stepped_waiting (Some old) e =
        waited (altered m.waiting k (filled value))
        (all_altered (Fitting (length m.places)) m.waiting k (filled value) (below, length_filled value short) s.fitting)
        (once_altered m.waiting k (filled value) s.once)
        (altered_same m.waiting k (filled value) old e)
        (altered_other m.waiting k (filled value))
    stepped_waiting None e =
        cond_both (ltb (length m.waiting) 16) _ _ (Stepped rules m (Write k value))
        (λ h. waited (m.waiting ++ (k, filled value) ∷ [])
        (All-push (Fitting (length m.places)) m.waiting (k, filled value) s.fitting (below, length_filled value short))
        (once_pushed m.waiting k (filled value) s.once e)
        (pushed_same m.waiting k (filled value) e)
        (pushed_other m.waiting k (filled value)))
        (λ h. refused _ [] _ (omega arith))

  stepped_write : (k : ℕ) (value : Bytes) → Stepped rules m (Write k value) (write_step m k value)
  stepped_write k value =
      cond_both (ltb k (length m.places)) _ _ (Stepped rules m (Write k value))
      (λ e. cond_both (leb (length value) 48) _ _ (Stepped rules m (Write k value))
      (λ h. stepped_waiting k value (ltb-true _ _ e) (leb-true _ _ h) (awaited m.waiting k) refl)
      (λ h. refused _ [] _ (omega arith)))
      (λ e. refused _ [] _ (omega arith))

  -- ---- read

  -- a block that is read answers what it holds
  landed_valued : (b : ℕ) (buffer : Bytes) (o : Option ℕ) → get_or m.places b None ≡ o
      → read_landed rules m buffer o ≡ valued m (value_at rules m.card o)
  landed_valued b buffer None e = refl
  landed_valued b buffer (Some p) e = let g = s.opens b p e in rw g.1

  pub read_valued : (b : ℕ) (buffer : Bytes) (o : Option Bytes)
      → read_waiting rules m buffer (get_or m.places b None) o ≡ valued m (chosen o (value_at rules m.card (get_or m.places b None)))
  read_valued b buffer (Some v) = refl
  read_valued b buffer None = landed_valued b buffer (get_or m.places b None) refl

  stepped_read : (b : ℕ) (buffer : Bytes) → Stepped rules m (Read b buffer) (read_step rules m b buffer)
  stepped_read b buffer =
      cond_both (ltb b (length m.places)) _ _ (Stepped rules m (Read b buffer))
      (λ e. cond_both (eqb (length buffer) 48) _ _ (Stepped rules m (Read b buffer))
      (λ h. subst (Stepped rules m (Read b buffer)) (sym (read_valued b buffer (awaited m.waiting b))) (still _ Valued _ tt tt (λ b v. refl)))
      (λ h. refused _ buffer _ (omega arith)))
      (λ e. refused _ buffer _ (omega arith))

  -- ---- beat

  module _ (w : ℕ) (ws : List ℕ) (p : ℕ) (tape_is : m.tape ≡ w ∷ ws) (drawn : p ≡ w % length m.card) (on_card : p < length m.card) (fits : m.last + 1 < 2 ^ 32) where
    struck : (body : Bytes) (deed : Deed) (places : List (Option ℕ)) (waiting : List (ℕ × Bytes)) → length body ≡ 52
        → length places ≡ length m.places → Moves m p body places → All (Fitting (length m.places)) waiting → Once waiting
        → Done rules m (beaten rules (with_tape m ws) p body deed places waiting).machine p deed body
        → ((b : ℕ) → holds rules (beaten rules (with_tape m ws) p body deed places waiting).machine b ≡ holds rules m b)
        → Stepped rules m Beat (beaten rules (with_tape m ws) p body deed places waiting)
    struck body deed places waiting long size moves fitting once done values =
        let card = set m.card p (rules.sealed p (m.last + 1) body) in
        let count : length card ≡ length m.card = length-set m.card p (rules.sealed p (m.last + 1) body) in
        record {
          sound = record {
            small = omega (arith, s.small);
            fits = fits;
            low = rw (face_sealed rules lawful m.card p (m.last + 1) body on_card long fits)
                (All-set (λ c. c ≤ m.last + 1) (face m.card) p (m.last + 1) (omega arith)
                (All-weaker (λ c. c ≤ m.last) (λ c. c ≤ m.last + 1) (λ c h. omega arith) (face m.card) s.low));
            some = omega (arith, s.some);
            few = omega (arith, s.few);
            room = omega (arith, s.room);
            apart = λ b k q hb hk. ⊎_elim
                (λ l. ⊎_elim (λ r. sym l.1 ∙ r.1) (λ r. absurd (r.0 l.0)) (moves k q hk))
                (λ l. ⊎_elim (λ r. absurd (l.0 r.0)) (λ r. s.apart b k q l.1 r.1) (moves k q hk))
                (moves b q hb);
            opens = λ b q hb. ⊎_elim
                (λ l. subst (Opens rules card b) (sym l.0) (body, opened_here rules lawful m.card p (m.last + 1) body on_card long s.small fits, l.1))
                (λ r. let g = s.opens b q r.1 in (g.0, opened_elsewhere rules lawful m.card p (m.last + 1) body on_card long q r.0 ∙ g.1, g.2))
                (moves b q hb);
            fitting = subst (λ (n : ℕ). All (Fitting n) waiting) (sym size) fitting;
            once = once;
          };
          size = size;
          count = count;
          values = values;
          above = tt;
          way = inr (record {
            place = p;
            deed = deed;
            answer_is = refl;
            put = record {
              body = body;
              body_long = long;
              on_card = on_card;
              counts_on = refl;
              last_after = refl;
              tape_after = sym (ap (drop 1) tape_is);
              card_after = refl;
              deed_done = done;
            };
            fits = fits;
            word = w;
            tape_is = tape_is;
            drawn = drawn;
          });
        }

    -- at another place than p a block has the value that it had
    value_elsewhere : (body : Bytes) → length body ≡ 52 → (o : Option ℕ) → (o ≡ Some p → ⊥)
        → value_at rules (set m.card p (rules.sealed p (m.last + 1) body)) o ≡ value_at rules m.card o
    value_elsewhere body long None ne = refl
    value_elsewhere body long (Some q) ne = ap value_opened (opened_elsewhere rules lawful m.card p (m.last + 1) body on_card long q (λ e. ne (ap Some e)))

    -- the occupant of p is sealed again
    module _ (b : ℕ) (at : occupant m.places p ≡ Some b) where
      again_value : (old : Bytes) → opened_at rules m.card p ≡ Ok old → BodyApart b (value_in old) (body_of b (value_in old)) → (o : Option ℕ)
          → value_at rules (set m.card p (rules.sealed p (m.last + 1) (body_of b (value_in old)))) o ≡ value_at rules m.card o
      again_value old e apart None = refl
      again_value old e apart (Some q) =
          ⊎_elim
          (λ z. subst (λ (j : ℕ). value_at rules (set m.card p (rules.sealed p (m.last + 1) (body_of b (value_in old)))) (Some j) ≡ value_at rules m.card (Some j)) (sym z)
          (ap value_opened (opened_here rules lawful m.card p (m.last + 1) (body_of b (value_in old)) on_card apart.body_long s.small fits)
          ∙ apart.value_back ∙ sym (ap value_opened e)))
          (λ z. value_elsewhere (body_of b (value_in old)) apart.body_long (Some q) (λ g. z (some_same q p g)))
          (cases_eq q p)

      stepped_occupied : (r : Result Bytes Denial) → opened_at rules m.card p ≡ r → Stepped rules m Beat (occupied_beat rules (with_tape m ws) p b r)
      stepped_occupied (Ok old) e =
          let placed = occupant_placed m.places p b at in
          let apart = body_apart b (value_in old) (omega (arith, placed_below m.places b p placed, s.few)) (length_value old (opened_parts rules lawful m.card p old e).1) in
          struck (body_of b (value_in old)) (Resealed b) m.places m.waiting apart.body_long refl
          (λ k q hk. ⊎_elim (λ z. inl (z, apart.block_back ∙ s.apart b k p placed (hk ∙ ap Some z))) (λ z. inr (z, hk)) (cases_eq q p))
          s.fitting s.once (at, (old, e, refl, refl, refl))
          (λ k. ap (chosen (awaited m.waiting k)) (again_value old e apart (get_or m.places k None)))
      stepped_occupied (Err d) e =
          let g = s.opens b p (occupant_placed m.places p b at) in
          let o = g.1 in
          let z : ◌≡◌ {A = ℕ} 0 1 = cc in
          absurd (omega arith)

    -- p is vacant
    module _ (none : occupant m.places p ≡ None) where
      free : (k : ℕ) → get_or m.places k None ≡ Some p → ⊥
      free = vacant_place 0 m.places p none

      stepped_dummy : m.waiting ≡ [] → Stepped rules m Beat (beaten rules (with_tape m ws) p dummy_body Dummy m.places [])
      stepped_dummy e =
          let apart = body_apart no_block zeros (omega arith) refl in
          struck dummy_body Dummy m.places [] apart.body_long refl (λ k q hk. inr ((λ z. free k (hk ∙ ap Some z)), hk)) tt tt (none, e, refl, refl, sym e)
          (λ k. value_elsewhere dummy_body apart.body_long (get_or m.places k None) (free k)
          ∙ sym (ap (λ (ws : List (ℕ × Bytes)). chosen (awaited ws k) (value_at rules m.card (get_or m.places k None))) e))

      -- the first that waits lands
      module _ (q : ℕ × Bytes) (qs : List (ℕ × Bytes)) (e : m.waiting ≡ q ∷ qs) where
        in_fitting : All (Fitting (length m.places)) (q ∷ qs)
        in_fitting = subst (All (Fitting (length m.places))) e s.fitting

        in_once : Once (q ∷ qs)
        in_once = subst Once e s.once

        apart : BodyApart q.0 q.1 (body_of q.0 q.1)
        apart = body_apart q.0 q.1 (omega (arith, in_fitting.0.0, s.few)) in_fitting.0.1

        landed_moves : Moves m p (body_of q.0 q.1) (set m.places q.0 (Some p))
        landed_moves k j hk =
            ⊎_elim
            (λ z. let here : get_or (set m.places q.0 (Some p)) k None ≡ Some p =
            ap (λ (i : ℕ). get_or (set m.places q.0 (Some p)) i None) z ∙ get_or-set_same m.places q.0 (Some p) None in_fitting.0.0 in
            inl (some_same j p (sym hk ∙ here), apart.block_back ∙ sym z))
            (λ z. let there : get_or m.places k None ≡ Some j = sym (get_or-set_other m.places q.0 k (Some p) None z) ∙ hk in
            inr ((λ g. free k (there ∙ ap Some g)), there))
            (cases_eq k q.0)

        Same : ℕ → Type 0
        Same k =
            chosen (awaited qs k) (value_at rules (set m.card p (rules.sealed p (m.last + 1) (body_of q.0 q.1))) (get_or (set m.places q.0 (Some p)) k None))
            ≡ chosen (awaited (q ∷ qs) k) (value_at rules m.card (get_or m.places k None))

        landed_here : Same q.0
        unfolding Same
        landed_here =
            rw (in_once.0, get_or-set_same m.places q.0 (Some p) None in_fitting.0.0, eq-eqb q.0 q.0 refl)
            (ap value_opened (opened_here rules lawful m.card p (m.last + 1) (body_of q.0 q.1) on_card apart.body_long s.small fits) ∙ apart.value_back)

        landed_elsewhere : (k : ℕ) → (q.0 ≡ k → ⊥) → Same k
        unfolding Same
        landed_elsewhere k ne =
            rw (get_or-set_other m.places q.0 k (Some p) None (λ g. ne (sym g)), ne_eqb q.0 k ne)
            (ap (chosen (awaited qs k)) (value_elsewhere (body_of q.0 q.1) apart.body_long (get_or m.places k None) (free k)))

        landed_value : (k : ℕ) → Same k
        landed_value k = ⊎_elim (λ z. subst Same z landed_here) (landed_elsewhere k) (cases_eq q.0 k)

        stepped_landed : Stepped rules m Beat (beaten rules (with_tape m ws) p (body_of q.0 q.1) (Landed q.0) (set m.places q.0 (Some p)) qs)
        unfolding Same
        stepped_landed =
            struck (body_of q.0 q.1) (Landed q.0) (set m.places q.0 (Some p)) qs apart.body_long (length-set m.places q.0 (Some p))
            landed_moves in_fitting.1 in_once.1 (none, (q.1, e, refl, refl))
            (λ k. landed_value k ∙ sym (ap (λ (ws : List (ℕ × Bytes)). chosen (awaited ws k) (value_at rules m.card (get_or m.places k None))) e))

      stepped_vacant : (qs : List (ℕ × Bytes)) → m.waiting ≡ qs → Stepped rules m Beat (vacant_beat rules (with_tape m ws) p qs)
      stepped_vacant [] e = stepped_dummy e
      stepped_vacant (q ∷ qs) e = stepped_landed q qs e

    stepped_at : (o : Option ℕ) → occupant m.places p ≡ o → Stepped rules m Beat (beat_at rules (with_tape m ws) p o)
    stepped_at (Some b) e = stepped_occupied b e (opened_at rules m.card p) refl
    stepped_at None e = stepped_vacant e m.waiting refl

  stepped_beat : (ws : List ℕ) → m.tape ≡ ws → Stepped rules m Beat (beat_tape rules m ws)
  stepped_beat [] e = refused Beat [] _ (omega arith)
  stepped_beat (w ∷ ws) e =
      let p = w % length m.card in
      let on_card : w % length m.card < length m.card = mod_below w (length m.card) (omega (arith, s.some, s.room)) in
      cond_both (ltb m.last 4294967295) _ _ (Stepped rules m Beat)
      (λ h. rw (lt-ltb p (length m.card) on_card) (stepped_at w ws p e refl on_card (omega (arith, ltb-true m.last 4294967295 h)) (occupant m.places p) refl))
      (λ h. refused Beat [] _ (omega arith))

  -- a sound machine grants a beat while a word is left and the last counter is not the highest
  granted_at : (ws : List ℕ) (p : ℕ) (o : Option ℕ) → occupant m.places p ≡ o → IsBeat (beat_at rules (with_tape m ws) p o).answer
  granted_at ws p (Some b) e = let g = s.opens b p (occupant_placed m.places p b e) in rw g.1 (p, m.last + 1, Resealed b, refl)
  granted_at ws p None e = go m.waiting
    where
      go : (qs : List (ℕ × Bytes)) → IsBeat (vacant_beat rules (with_tape m ws) p qs).answer
      go [] = (p, m.last + 1, Dummy, refl)
      go (q ∷ qs) = (p, m.last + 1, Landed q.0, refl)

  pub granted_beat : (ws : List ℕ) → 0 < length ws → m.last < 4294967295 → IsBeat (beat_tape rules m ws).answer
  granted_beat [] l h = absurd (omega arith)
  granted_beat (w ∷ ws) l h =
      let p = w % length m.card in
      rw (lt-ltb m.last 4294967295 h, lt-ltb p (length m.card) (mod_below w (length m.card) (omega (arith, s.some, s.room)))) (granted_at ws p (occupant m.places p) refl)

  -- and a write while fewer than sixteen wait
  pub granted_write : (k : ℕ) (value : Bytes) → k < length m.places → length value ≤ 48 → length m.waiting < 16 → (write_step m k value).answer ≡ Written
  granted_write k value below short room = rw (lt-ltb k (length m.places) below, le-leb (length value) 48 short) (go (awaited m.waiting k))
    where
      go : (o : Option Bytes) → (write_waiting m k (filled value) o).answer ≡ Written
      go (Some old) = refl
      go None = rw (lt-ltb (length m.waiting) 16 room)

  -- ---- save and face

  stepped_save : (buffer : Bytes) (ws : List (ℕ × Bytes)) → Stepped rules m (Save buffer) (save_waiting m buffer ws)
  stepped_save buffer [] =
      cond_both (leb _ (length buffer)) _ _ (Stepped rules m (Save buffer)) (λ e. still _ (Saved _) _ tt tt (λ b v. refl)) (λ e. refused _ buffer _ (omega arith))
  stepped_save buffer (w ∷ ws) = refused _ buffer _ (omega arith)

  stepped_face : (buffer : List ℕ) → Stepped rules m (Face buffer) (face_step m buffer)
  stepped_face buffer =
      cond_both (eqb (length buffer) (length m.card)) _ _ (Stepped rules m (Face buffer))
      (λ e. still _ Shown _ tt tt (λ b v. refl)) (λ e. refused _ buffer _ (omega arith))

  -- any call
  pub stepped : (c : Call) → Stepped rules m c (step rules m c)
  stepped (Write b value) = stepped_write b value
  stepped (Read b buffer) = stepped_read b buffer
  stepped Beat = stepped_beat m.tape refl
  stepped (Save buffer) = stepped_save buffer m.waiting
  stepped (Face buffer) = stepped_face buffer
