-- Two transcripts that begin alike, compared by the law.
use Rattle.std.proofs.Common.{◌≡◌, ℕ, Bool, eqb, ◌↔◌, List, [], ◌∷◌, map, length, get_or, drop, Some, None, Decides, Option, sym, refl, ap, ◌∙◌, subst, ap₂, inl, inr, arith}
use mathlib.Core.List.{is_set}
use mathlib.Core.Logic.{∥∥₁_elim}
use native.Mathlib.Nat.{ℕ_set}
use Rattle.std.proofs.lemmas.Slice.Eq.{slice_eq-Decides}
use lib.Pointwise.{pointwise}
use Rattle.std.proofs.lemmas.Bool.{eqb-true, eq-eqb}
use Rattle.layout.specs.declared.names.Place.{Place}
use Rattle.denial.specs.Denials.{place_number}
use Rattle.machine.specs.Runs.{faces, beat_places}
use Rattle.machine.proofs.LawOfRuns.{law_of_runs}
use Rattle.runs.specs.Shown.{Beginning, Told, begun_told}
use Rattle.runs.specs.Witness.{ShownByAStore}
use Rattle.runs.specs.Compared.{OneBeginning, BegunAlike, faces_of, places_of, Compared}
use Rattle.runs.specs.declared.compare.Verdict.{Verdict}
use Rattle.runs.specs.declared.compare.Verdict.TheVariants.{BegunApart, SameFaces, OtherFaces}
use Rattle.runs.specs.declared.transcript.Transcript.{Transcript}

-- ---- what the law says of two transcripts

at_both : (o n o' n' : Option Beginning) → o ≡ o' → n ≡ n' → OneBeginning o n → OneBeginning o' n'
at_both o n o' n' e f h = subst (λ x. OneBeginning o' x) f (subst (λ x. OneBeginning x n) e h)

no_beginning : (o : Option Beginning) → OneBeginning o None → ⊥
no_beginning (Some b) h = h
no_beginning None h = h

shown_alike : (t u : Transcript) → ShownByAStore t.notes → ShownByAStore u.notes → BegunAlike t u
    → (faces_of t ≡ faces_of u) ↔ (places_of t ≡ places_of u)
shown_alike t u (inl x) (inl y) alike =
    let begun = at_both _ _ _ _ (ap (λ (d : Told). d.begun) x.told_is) (ap (λ (d : Told). d.begun) y.told_is) alike in
    let law = law_of_runs.equal_faces_when_equal_places x.as_a_run y.as_a_run begun.0 begun.1 in
    let ft : faces_of t ≡ faces x.as_a_run = ap (λ (d : Told). d.faces) x.told_is in
    let fu : faces_of u ≡ faces y.as_a_run = ap (λ (d : Told). d.faces) y.told_is in
    let pt : places_of t ≡ beat_places x.as_a_run = ap (λ (d : Told). d.places) x.told_is in
    let pu : places_of u ≡ beat_places y.as_a_run = ap (λ (d : Told). d.places) y.told_is in
    (λ e. pt ∙ (law.0 (sym ft ∙ (e ∙ fu)) ∙ sym pu), λ e. ft ∙ (law.1 (sym pt ∙ (e ∙ pu)) ∙ sym fu))
shown_alike t u (inl x) (inr z) alike =
    absurd (no_beginning (begun_told t.notes.begun) (at_both _ _ _ _ refl (ap (λ (d : Told). d.begun) z.told_is) alike))
shown_alike t u (inr z) y alike =
    absurd (at_both (begun_told t.notes.begun) (begun_told u.notes.begun) None (begun_told u.notes.begun) (ap (λ (d : Told). d.begun) z.told_is) refl alike)

-- whichever runs show them
by_the_law : (t u : Transcript) → ∥ ShownByAStore t.notes ∥₁ → ∥ ShownByAStore u.notes ∥₁ → BegunAlike t u
    → (faces_of t ≡ faces_of u) ↔ (places_of t ≡ places_of u)
by_the_law t u shown_t shown_u alike = (
  λ e. ∥∥₁_elim shown_t (is_set ℕ_set (places_of t) (places_of u)) (λ x. ∥∥₁_elim shown_u (is_set ℕ_set (places_of t) (places_of u)) (λ y. (shown_alike t u x y alike).0 e)),
  λ e. ∥∥₁_elim shown_t (is_set (is_set ℕ_set) (faces_of t) (faces_of u)) (λ x. ∥∥₁_elim shown_u (is_set (is_set ℕ_set) (faces_of t) (faces_of u)) (λ y. (shown_alike t u x y alike).1 e)),
)

-- ---- the verdicts

abbrev index : Verdict → ℕ
index BegunApart = 0
index SameFaces = 1
index OtherFaces = 2

pub same_faces : (t u : Transcript) → ∥ ShownByAStore t.notes ∥₁ → ∥ ShownByAStore u.notes ∥₁ → BegunAlike t u
    → places_of t ≡ places_of u → Compared t u SameFaces
same_faces t u shown_t shown_u alike same =
    let law = by_the_law t u shown_t shown_u alike in
    record {
      begun_alike = (λ e. absurd (let h = ap index e in omega arith), λ h. absurd (h alike));
      faces = λ _. ((λ _. law.1 same, λ _. refl), (λ e. absurd (let h = ap index e in omega arith), λ h. absurd (h (law.1 same))));
      places = λ _. ((λ _. same, λ _. refl), (λ e. absurd (let h = ap index e in omega arith), λ h. absurd (h same)));
      equal_faces_when_equal_places = λ _. law;
    }

pub other_faces : (t u : Transcript) → ∥ ShownByAStore t.notes ∥₁ → ∥ ShownByAStore u.notes ∥₁ → BegunAlike t u
    → (places_of t ≡ places_of u → ⊥) → Compared t u OtherFaces
other_faces t u shown_t shown_u alike differ =
    let law = by_the_law t u shown_t shown_u alike in
    record {
      begun_alike = (λ e. absurd (let h = ap index e in omega arith), λ h. absurd (h alike));
      faces = λ _. ((λ e. absurd (let h = ap index e in omega arith), λ e. absurd (differ (law.0 e))), (λ _ e. differ (law.0 e), λ _. refl));
      places = λ _. ((λ e. absurd (let h = ap index e in omega arith), λ e. absurd (differ e)), (λ _. differ, λ _. refl));
      equal_faces_when_equal_places = λ _. law;
    }

-- ---- what the code compares

same_place : (p q : Place) → Decides (eqb p.0 q.0) (p ≡ q)
same_place p q = (λ e. ap (λ n. record { 0 = n }) (eqb-true p.0 q.0 e), λ e. eq-eqb p.0 q.0 (ap place_number e))

numbers_tell : (ps qs : List Place) → map place_number ps ≡ map place_number qs → ps ≡ qs
numbers_tell [] [] e = refl
numbers_tell [] (q ∷ qs) e = let h = ap length e in absurd (omega arith)
numbers_tell (p ∷ ps) [] e = let h = ap length e in absurd (omega arith)
numbers_tell (p ∷ ps) (q ∷ qs) e =
    ap₂ (λ (x : Place) (xs : List Place). x ∷ xs) (ap (λ n. record { 0 = n }) (ap (λ (ns : List ℕ). get_or ns 0 0) e)) (numbers_tell ps qs (ap (drop 1) e))

-- the test of two lists of places tells whether their numbers are the same
pub places_tell : (ps qs : List Place) (r : Bool) → r ≡ pointwise (λ p q. eqb p.0 q.0) ps qs → Decides r (map place_number ps ≡ map place_number qs)
places_tell ps qs r e =
    let d = slice_eq-Decides same_place ps qs r e in
    (λ t. ap (map place_number) (d.0 t), λ h. d.1 (numbers_tell ps qs h))
