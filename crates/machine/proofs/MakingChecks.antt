-- A making is denied by the first of its checks that holds, and then alters nothing; a granted resume was of a file that fits.
use Rattle.std.proofs.Common.{◌≡◌, ℕ, zero, suc, ◌+◌, ◌*◌, ◌<◌, ◌≤◌, Bool, true, false, cond, not, ◌&&◌, ◌||◌, eqb, ltb, leb, List, [], ◌∷◌, ◌++◌, map, length, Some, None, Ok, Err, Option, Result, sym, refl, ap, ◌∙◌, subst, arith}
use Rattle.std.specs.List.{AllByRecursion as All}
use Rattle.std.proofs.ByRecursion.{All-weaker}
use Rattle.std.proofs.lemmas.Bool.{leb-true, ltb-true, eqb-false, lt-ltb, ne_eqb, not-true, not_from_true, and_parts, or_parts}
use Rattle.layout.specs.Numbers.{Bytes}
use Rattle.layout.specs.Layouts.{block_in, counter_in}
use Rattle.denial.specs.Denials.{Denial, file_length, block_count, place_count, file_entry, counter_above, entry_other}
use Rattle.seal.specs.Seals.{Rules}
use Rattle.machine.specs.Files.{file_blocks, file_count, file_landed, file_last, entries}
use Rattle.machine.specs.Machine.{Machine, Reason, DenialOf, opened_at}
use Rattle.machine.specs.Makings.{Making, Format, Resume, Store, Open, Shut, blocks_fit, places_fit, shut, among, entries_fit, above, entry_opened, first_of, entries_open, resumed, resume_opened, resume_counted, file_long, make}
use Rattle.machine.specs.Checks.{Check, first_that_holds, blocks_wrong, places_wrong, entry_checks, counter_checks, opening_check, opening_checks, making_checks, reason_of}
use Rattle.machine.specs.Law.{Rising, Apart, OpensTo, Fits}
use Rattle.machine.proofs.Lookups.{none_some}
use Rattle.machine.proofs.Granted.{resume_passed}
use Rattle.machine.proofs.Resumes.{first_none, entry_opens, low_above}
use Rattle.machine.proofs.CallChecks.{not_below, not_at_most}

-- granted; or shut for a reason, with the card and the tape as they were
abbrev pub JudgedMaking : List Bytes → List ℕ → Store → Option Reason → Type 0
JudgedMaking card tape x None = reason_of x ≡ None
JudgedMaking card tape x (Some r) = x ≡ Shut r card tape

-- ---- tests and their opposites

both_or_not : (a b : Bool) → (not a || not b) ≡ not (a && b)
both_or_not true b = refl
both_or_not false b = refl

or_not : (a b x y : Bool) → x ≡ not a → y ≡ not b → (x || y) ≡ not (a && b)
or_not a b x y e f = ap (λ (t : Bool). t || y) e ∙ ap (λ (t : Bool). not a || t) f ∙ both_or_not a b

not_some : (n : ℕ) → eqb n 0 ≡ not (ltb 0 n)
not_some zero = refl
not_some (suc n) = ne_eqb (suc n) 0 (λ z. omega arith) ∙ sym (not_from_true _ (lt-ltb 0 (suc n) (omega arith)))

blocks_tested : (n : ℕ) → blocks_wrong n ≡ not (blocks_fit n)
blocks_tested n = or_not (ltb 0 n) (leb n 512) _ _ (not_some n) (not_at_most n 512)

places_tested : (n count : ℕ) → places_wrong n count ≡ not (places_fit n count)
places_tested n count = or_not (leb (2 * n) count) (leb count 1024) _ _ (not_at_most (2 * n) count) (not_at_most count 1024)

-- ---- the checks of a resume, as its tests make them

entry_tested : (a b c d r : Bool) (why rest : Option Reason)
    → cond ((not a || not b) || (not c || d)) why (cond r rest why) ≡ cond ((a && b) && ((c && not d) && r)) rest why
entry_tested false b c d r why rest = refl
entry_tested true false c d r why rest = refl
entry_tested true true false d r why rest = refl
entry_tested true true true true r why rest = refl
entry_tested true true true false r why rest = refl

entries_tested : (n count from : ℕ) (seen : List ℕ) (es : List (ℕ × ℕ)) (rest : List Check)
    → first_that_holds (entry_checks n count from seen es ++ rest) ≡ cond (entries_fit n count from seen es) (first_that_holds rest) (Some (DenialOf file_entry))
entries_tested n count from seen [] rest = refl
entries_tested n count from seen (e ∷ es) rest =
    rw (not_at_most from e.0, not_below e.0 n, not_below e.1 count, entries_tested n count (suc e.0) (e.1 ∷ seen) es rest)
    (entry_tested (leb from e.0) (ltb e.0 n) (ltb e.1 count) (among seen e.1) (entries_fit n count (suc e.0) (e.1 ∷ seen) es) _ _)

abbrev counted : Option ℕ → Option Reason → Option Reason
counted (Some p) rest = Some (DenialOf (counter_above p))
counted None rest = rest

counters_tested : (last i : ℕ) (rs : List Bytes) (rest : List Check)
    → first_that_holds (counter_checks last i rs ++ rest) ≡ counted (above last i rs) (first_that_holds rest)
counters_tested last i [] rest = refl
counters_tested last i (r ∷ rs) rest =
    rw (not_at_most (counter_in r) last, counters_tested last (suc i) rs rest) (go (leb (counter_in r) last) (above last (suc i) rs) (first_that_holds rest))
  where
    go : (t : Bool) (o : Option ℕ) (rest : Option Reason) → cond (not t) (Some (DenialOf (counter_above i))) (counted o rest) ≡ counted (cond t o (Some i)) rest
    go true o rest = refl
    go false o rest = refl

opening_tested : (b p : ℕ) (r : Result Bytes Denial) (rest : Option Reason)
    → cond (opening_check b p r).0 (Some (opening_check b p r).1) rest ≡ first_of (entry_opened b p r) rest
opening_tested b p (Err d) rest = refl
opening_tested b p (Ok body) rest = go (eqb (block_in body) b)
  where
    go : (t : Bool) → cond (not t) (Some (DenialOf (entry_other p))) rest ≡ first_of (cond t None (Some (DenialOf (entry_other p)))) rest
    go true = refl
    go false = refl

openings_tested : (rules : Rules) (card : List Bytes) (es : List (ℕ × ℕ)) → first_that_holds (opening_checks rules card es) ≡ entries_open rules card es
openings_tested rules card [] = refl
openings_tested rules card (e ∷ es) =
    opening_tested e.0 e.1 (opened_at rules card e.1) (first_that_holds (opening_checks rules card es))
    ∙ ap (first_of (entry_opened e.0 e.1 (opened_at rules card e.1))) (openings_tested rules card es)

-- ---- makings

module _ (card : List Bytes) (tape : List ℕ) where
  by_check : (t u : Bool) → u ≡ not t → (x : Store) (d : Denial) (rest : Option Reason) → JudgedMaking card tape x rest
      → JudgedMaking card tape (cond t x (shut d card tape)) (cond u (Some (DenialOf d)) rest)
  by_check true u e x d rest j = subst (λ (b : Bool). JudgedMaking card tape x (cond b (Some (DenialOf d)) rest)) (sym e) j
  by_check false u e x d rest j = subst (λ (b : Bool). JudgedMaking card tape (shut d card tape) (cond b (Some (DenialOf d)) rest)) (sym e) refl

  by_test : (t : Bool) (x : Store) (d : Denial) (rest : Option Reason) → JudgedMaking card tape x rest
      → JudgedMaking card tape (cond t x (shut d card tape)) (cond t rest (Some (DenialOf d)))
  by_test true x d rest j = j
  by_test false x d rest j = refl

  judged_opened : (rules : Rules) (file : Bytes) (o : Option Reason) → JudgedMaking card tape (resume_opened (resumed card tape file) o) o
  judged_opened rules file None = refl
  judged_opened rules file (Some r) = refl

  judged_counted : (rules : Rules) (file : Bytes) (o : Option ℕ)
      → JudgedMaking card tape (resume_counted rules card tape file o) (counted o (first_that_holds (opening_checks rules card (entries file))))
  judged_counted rules file (Some p) = refl
  judged_counted rules file None = rw (openings_tested rules card (entries file)) (judged_opened rules file (entries_open rules card (entries file)))

  module _ (rules : Rules) (file : Bytes) where
    judged_counters : JudgedMaking card tape (resume_counted rules card tape file (above (file_last file) 0 card))
        (first_that_holds (counter_checks (file_last file) 0 card ++ opening_checks rules card (entries file)))
    judged_counters = rw (counters_tested (file_last file) 0 card (opening_checks rules card (entries file))) (judged_counted rules file (above (file_last file) 0 card))

    judged_entries : JudgedMaking card tape
        (cond (entries_fit (file_blocks file) (length card) 0 [] (entries file)) (resume_counted rules card tape file (above (file_last file) 0 card)) (shut file_entry card tape))
        (first_that_holds (entry_checks (file_blocks file) (length card) 0 [] (entries file) ++ (counter_checks (file_last file) 0 card ++ opening_checks rules card (entries file))))
    judged_entries =
        rw (entries_tested (file_blocks file) (length card) 0 [] (entries file) (counter_checks (file_last file) 0 card ++ opening_checks rules card (entries file)))
        (by_test (entries_fit (file_blocks file) (length card) 0 [] (entries file)) _ file_entry _ judged_counters)

    judged_resume : JudgedMaking card tape (make rules card tape (Resume file)) (first_that_holds (making_checks rules card (Resume file)))
    judged_resume =
        by_check (file_long file) _ (or_not (leb 10 (length file)) (eqb (length file) (10 + 4 * file_landed file)) _ _ (not_at_most 10 (length file)) refl) _ file_length _
        (by_check (blocks_fit (file_blocks file)) _ (blocks_tested (file_blocks file)) _ block_count _
        (by_check (places_fit (file_blocks file) (length card) && eqb (length card) (file_count file)) _
        (or_not (places_fit (file_blocks file) (length card)) (eqb (length card) (file_count file)) _ _ (places_tested (file_blocks file) (length card)) refl) _ place_count _
        judged_entries))

  pub judged_making : (rules : Rules) (k : Making) → JudgedMaking card tape (make rules card tape k) (first_that_holds (making_checks rules card k))
  judged_making rules (Format n) =
      by_check (blocks_fit n) _ (blocks_tested n) _ block_count _
      (by_check (places_fit n (length card)) _ (places_tested n (length card)) _ place_count None refl)
  judged_making rules (Resume file) = judged_resume rules file

  pub reason_judged : (x : Store) (r : Option Reason) → JudgedMaking card tape x r → reason_of x ≡ r
  reason_judged x None j = j
  reason_judged x (Some r) j = ap reason_of j

  pub denied_judged : (x : Store) (r : Option Reason) → JudgedMaking card tape x r → (why : Reason) (card_after : List Bytes) (tape_after : List ℕ)
      → x ≡ Shut why card_after tape_after → (card_after ≡ card) × (tape_after ≡ tape)
  denied_judged x None j why card_after tape_after e = absurd (none_some why (sym j ∙ ap reason_of e))
  denied_judged x (Some r) j why card_after tape_after e = let both = sym e ∙ j in (cc, cc)

-- ---- a granted resume

-- entries that fit: from a block on, and with places apart from those seen
record Listed (n count from : ℕ) (seen : List ℕ) (es : List (ℕ × ℕ)) : Type 0 where
  pub from_on : All (λ b. from ≤ b) (map (λ (e : ℕ × ℕ). e.0) es)
  pub rise : Rising (map (λ (e : ℕ × ℕ). e.0) es)
  pub below : All (λ b. b < n) (map (λ (e : ℕ × ℕ). e.0) es)
  pub new : All (λ p. among seen p ≡ false) (map (λ (e : ℕ × ℕ). e.1) es)
  pub apart : Apart (map (λ (e : ℕ × ℕ). e.1) es)
  pub on_card : All (λ p. p < count) (map (λ (e : ℕ × ℕ). e.1) es)

listed_fit : (n count from : ℕ) (seen : List ℕ) (es : List (ℕ × ℕ)) → entries_fit n count from seen es ≡ true → Listed n count from seen es
listed_fit n count from seen [] h = record { from_on = tt; rise = tt; below = tt; new = tt; apart = tt; on_card = tt }
listed_fit n count from seen (e ∷ es) h =
    let a = and_parts (leb from e.0 && ltb e.0 n) ((ltb e.1 count && not (among seen e.1)) && entries_fit n count (suc e.0) (e.1 ∷ seen) es) h in
    let b = and_parts (leb from e.0) (ltb e.0 n) a.0 in
    let c = and_parts (ltb e.1 count && not (among seen e.1)) (entries_fit n count (suc e.0) (e.1 ∷ seen) es) a.1 in
    let d = and_parts (ltb e.1 count) (not (among seen e.1)) c.0 in
    let r = listed_fit n count (suc e.0) (e.1 ∷ seen) es c.1 in
    let low : from ≤ e.0 = leb-true _ _ b.0 in
    record {
      from_on = (low, All-weaker (λ k. suc e.0 ≤ k) (λ k. from ≤ k) (λ k g. omega arith) _ r.from_on);
      rise = (All-weaker (λ k. suc e.0 ≤ k) (λ k. e.0 < k) (λ k g. omega arith) _ r.from_on, r.rise);
      below = (ltb-true _ _ b.1, r.below);
      new = (not-true _ d.1, All-weaker (λ q. among (e.1 ∷ seen) q ≡ false) (λ q. among seen q ≡ false) (λ q g. (or_parts (eqb e.1 q) (among seen q) g).1) _ r.new);
      apart = (All-weaker (λ q. among (e.1 ∷ seen) q ≡ false) (λ q. e.1 ≡ q → ⊥) (λ q g. eqb-false e.1 q (or_parts (eqb e.1 q) (among seen q) g).0) _ r.new, r.apart);
      on_card = (ltb-true _ _ d.0, r.on_card);
    }

all_open : (rules : Rules) (card : List Bytes) (es : List (ℕ × ℕ)) → entries_open rules card es ≡ None → All (OpensTo rules card) es
all_open rules card [] h = tt
all_open rules card (e ∷ es) h =
    let y = first_none (entry_opened e.0 e.1 (opened_at rules card e.1)) (entries_open rules card es) h in
    (entry_opens e.0 e.1 (opened_at rules card e.1) y.0, all_open rules card es y.1)

pub fits : (rules : Rules) (card : List Bytes) (tape : List ℕ) (file : Bytes) (m : Machine) → make rules card tape (Resume file) ≡ Open m → Fits rules card file
fits rules card tape file m e =
    let t = resume_passed rules card tape file m e in
    let l = listed_fit (file_blocks file) (length card) 0 [] (entries file) t.fit in
    record {
      file_whole = t.whole;
      blocks_counted = (t.sizes.some, t.sizes.few);
      places_counted = (t.sizes.room, t.sizes.small, t.told);
      blocks_rise = l.rise;
      blocks_below = l.below;
      places_apart = l.apart;
      places_on_card = l.on_card;
      counters_low = low_above (file_last file) 0 card t.low;
      places_open = all_open rules card (entries file) t.open_all;
    }
