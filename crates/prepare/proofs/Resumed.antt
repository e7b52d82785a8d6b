-- What resume is where one of its checks fails, and where the sizes fit.
use Rattle.std.proofs.Common.{◌≡◌, ℕ, Bool, true, false, cond, eqb, List, [], ◌∷◌, length, Some, None, Ok, Err, Option, Result, sym, refl, ap, ◌∙◌, subst, arith}
use Rattle.std.proofs.lemmas.Bool.{and_from, cond-true, cond-false, eq-eqb}
use Rattle.layout.specs.Numbers.{Bytes}
use Rattle.layout.specs.Layouts.{block_in}
use Rattle.denial.specs.Denials.{Denial, block_count, place_count, file_entry, counter_above, entry_other}
use Rattle.seal.specs.Seals.{Rules}
use Rattle.machine.specs.Files.{file_blocks, file_count, file_last, entries}
use Rattle.machine.specs.Machine.{Machine, Reason, DenialOf, opened_at}
use Rattle.machine.specs.Makings.{Shut, shut, above, blocks_fit, places_fit, entries_fit, entry_opened, first_of, entries_open, file_long, resumed, resume_opened, resume_counted, resume}
use Rattle.answers.specs.declared.fault.StoreFault.{StoreFault}
use Rattle.answers.specs.declared.fault.StoreFault.TheVariants.{FileEntry}
use Rattle.prepare.specs.Checks.{size_check, entry_check, counter_check}
use Rattle.prepare.specs.Sizes.{SizesFit}

-- what the check of the entries tells
pub misfit_told : (t : Bool) (f : StoreFault) → ◌≡◌ {A = Result (Unit {0}) StoreFault} (Err f) (entry_check t) → (t ≡ false) × (f ≡ FileEntry)
misfit_told true f e = let z : ◌≡◌ {A = ℕ} 0 1 = cc in absurd (omega arith)
misfit_told false f e = (refl, cc)

pub fit_told : (t : Bool) → ◌≡◌ {A = Result (Unit {0}) StoreFault} (Ok tt) (entry_check t) → true ≡ t
fit_told true e = refl
fit_told false e = let z : ◌≡◌ {A = ℕ} 0 1 = cc in absurd (omega arith)

-- 6 and 7 are later than 3
entry_later : (m : Machine) (b p : ℕ) (o : Result Bytes Denial) → SizesFit (resume_opened m (entry_opened b p o))
entry_later m b p (Ok body) =
    elim (eqb (block_in body) b) as (λ t. SizesFit (resume_opened m (cond t None (Some (DenialOf (entry_other p)))))) [ true ↦ tt | false ↦ omega arith ]
entry_later m b p (Err d) = omega arith

first_later : (m : Machine) (o later : Option Reason) → SizesFit (resume_opened m o) → SizesFit (resume_opened m later) → SizesFit (resume_opened m (first_of o later))
first_later m (Some r) later h k = h
first_later m None later h k = k

entries_later : (rules : Rules) (card : List Bytes) (m : Machine) (es : List (ℕ × ℕ)) → SizesFit (resume_opened m (entries_open rules card es))
entries_later rules card m [] = tt
entries_later rules card m (e ∷ es) =
    first_later m (entry_opened e.0 e.1 (opened_at rules card e.1)) (entries_open rules card es)
    (entry_later m e.0 e.1 (opened_at rules card e.1)) (entries_later rules card m es)

module _ (rules : Rules) (card : List Bytes) (tape : List ℕ) (file : Bytes) (long : file_long file ≡ true) where
  fits : (s t : Bool) → ◌≡◌ {A = Result (Unit {0}) Denial} (Ok tt) (cond s (cond t (Ok tt) (Err place_count)) (Err block_count)) → (s ≡ true) × (t ≡ true)
  fits true true e = (refl, refl)
  fits true false e = let z : ◌≡◌ {A = ℕ} 0 1 = cc in absurd (omega arith)
  fits false t e = let z : ◌≡◌ {A = ℕ} 0 1 = cc in absurd (omega arith)

  -- past 1 to 3
  sized : ◌≡◌ {A = Result (Unit {0}) Denial} (Ok tt) (size_check (file_blocks file) (length card)) → length card ≡ file_count file
      → resume rules card tape file
      ≡ cond (entries_fit (file_blocks file) (length card) 0 [] (entries file)) (resume_counted rules card tape file (above (file_last file) 0 card)) (shut file_entry card tape)
  sized e q =
      let s = fits (blocks_fit (file_blocks file)) (places_fit (file_blocks file) (length card)) e in
      cond-true _ _ _ long ∙ (cond-true _ _ _ s.0 ∙ cond-true _ _ _ (and_from _ _ s.1 (eq-eqb _ _ q)))

  -- past 1 to 4
  counted : ◌≡◌ {A = Result (Unit {0}) Denial} (Ok tt) (size_check (file_blocks file) (length card)) → length card ≡ file_count file
      → true ≡ entries_fit (file_blocks file) (length card) 0 [] (entries file) → resume rules card tape file ≡ resume_counted rules card tape file (above (file_last file) 0 card)
  counted e q f = sized e q ∙ cond-true _ _ _ (sym f)

  -- 4
  pub entries_shut : ◌≡◌ {A = Result (Unit {0}) Denial} (Ok tt) (size_check (file_blocks file) (length card)) → length card ≡ file_count file
      → entries_fit (file_blocks file) (length card) 0 [] (entries file) ≡ false → shut file_entry card tape ≡ resume rules card tape file
  entries_shut e q h = sym (sized e q ∙ cond-false _ _ _ h)

  counter_shut : (o : Option ℕ) (r : Reason) → ◌≡◌ {A = Result (Unit {0}) Reason} (Err r) (counter_check o) → Shut r card tape ≡ resume_counted rules card tape file o
  counter_shut (Some p) r e = let k : r ≡ DenialOf (counter_above p) = cc in ap (λ (x : Reason). Shut x card tape) k
  counter_shut None r e = let z : ◌≡◌ {A = ℕ} 0 1 = cc in absurd (omega arith)

  -- 5
  pub counters_shut : (r : Reason) → ◌≡◌ {A = Result (Unit {0}) Denial} (Ok tt) (size_check (file_blocks file) (length card)) → length card ≡ file_count file
      → true ≡ entries_fit (file_blocks file) (length card) 0 [] (entries file)
      → ◌≡◌ {A = Result (Unit {0}) Reason} (Err r) (counter_check (above (file_last file) 0 card)) → Shut r card tape ≡ resume rules card tape file
  counters_shut r e q f k = counter_shut (above (file_last file) 0 card) r k ∙ sym (counted e q f)

  counted_later : (o : Option ℕ) → SizesFit (resume_counted rules card tape file o)
  counted_later (Some p) = omega arith
  counted_later None = entries_later rules card (resumed card tape file) (entries file)

  -- past 1 to 3 only 4 to 7 are left
  pub sizes_fit : ◌≡◌ {A = Result (Unit {0}) Denial} (Ok tt) (size_check (file_blocks file) (length card)) → length card ≡ file_count file → SizesFit (resume rules card tape file)
  sizes_fit e q =
      subst SizesFit (sym (sized e q))
      (elim (entries_fit (file_blocks file) (length card) 0 [] (entries file))
      as (λ t. SizesFit (cond t (resume_counted rules card tape file (above (file_last file) 0 card)) (shut file_entry card tape)))
      [ true ↦ counted_later (above (file_last file) 0 card) | false ↦ omega arith ])
