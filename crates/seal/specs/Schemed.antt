-- The laws of a seal, once for every cover and tag.
use Rattle.std.specs.Prelude.{◌≡◌, ℕ, ◌^◌, ◌<◌, Bool, true, false, cond, ◌&&◌, ◌++◌, length, take, Some, None, ◌==◌, refl}
use Rattle.std.proofs.Common.{sym, ◌∙◌, arith}
use Rattle.std.proofs.Math.Path.{ap}
use Rattle.std.specs.Str.{bytes_eq}
use Rattle.std.proofs.lemmas.Slice.Eq.{bytes_eq-Decides}
use Rattle.std.proofs.lemmas.List.{take_at, length-append, length-take, length-drop}
use Rattle.std.proofs.lemmas.Bool.{and_from, and_parts, eq-eqb, eqb-true, cond-true}
use Rattle.layout.specs.Numbers.{Bytes, little}
use Rattle.layout.specs.Layouts.{record_of, counter_in, sealed_in, tag_in}
use Rattle.layout.proofs.Littles.{length_little}
use Rattle.layout.proofs.Apart.{record_apart}
use Rattle.seal.specs.Seals.{Lawful}
use Rattle.seal.specs.Schemes.{Cover, Tagging, sealed_by, opened_by, rules_by}

-- what the laws ask of a cover and a tag
pub record Fit (cover : Cover) (tag : Tagging) : Type 0 where
  pub uncovers : (p c : ℕ) (body : Bytes) → length body ≡ 52 → cover p c (cover p c body) ≡ body
  pub covers_all : (p c : ℕ) (body : Bytes) → length body ≡ 52 → length (cover p c body) ≡ 52
  pub tags_eight : (p c : ℕ) (covered : Bytes) → length (tag p c covered) ≡ 8

kept_some : {X : Type 0} (t : Bool) (x y : X) → cond t (Some x) None ≡ Some y → (t ≡ true) × (x ≡ y)
kept_some true x y e = (refl, cc)
kept_some false x y e = let z : ◌≡◌ {A = ℕ} 0 1 = cc in absurd (omega arith)

module _ (cover : Cover) (tag : Tagging) (fit : Fit cover tag) where
  opens_again : (p c : ℕ) (body : Bytes) → p < 2 ^ 32 → c < 2 ^ 32 → length body ≡ 52
      → opened_by cover tag p (sealed_by cover tag p c body) ≡ Some (c, body)
  opens_again p c body hp hc h =
      let covered = cover p c body in
      let row = sealed_by cover tag p c body in
      let apart = record_apart c covered (tag p c covered) hc (fit.covers_all p c body h) (fit.tags_eight p c covered) in
      let same : tag p (counter_in row) (sealed_in row) ≡ tag_in row
      = ap (λ (n : ℕ). tag p n (sealed_in row)) apart.counter_back ∙ (ap (tag p c) apart.sealed_back ∙ sym apart.tag_back) in
      let test : (length row == 64 && bytes_eq (tag p (counter_in row) (sealed_in row)) (tag_in row)) ≡ true
      = and_from _ _ (eq-eqb _ _ apart.record_long) ((bytes_eq-Decides _ _).1 same) in
      cond-true _ _ _ test
      ∙ (ap (λ (n : ℕ). Some (n, cover p n (sealed_in row))) apart.counter_back
      ∙ (ap (λ (u : Bytes). Some (c, cover p c u)) apart.sealed_back ∙ ap (λ (u : Bytes). Some (c, u)) (fit.uncovers p c body h)))

  counter_first : (p c : ℕ) (body : Bytes) → take 4 (sealed_by cover tag p c body) ≡ little 4 c
  unfolding record_of
  counter_first p c body = take_at (little 4 c) (cover p c body ++ tag p c (cover p c body)) 4 (length_little 4 c)

  sealed_whole : (p c : ℕ) (body : Bytes) → length body ≡ 52 → length (sealed_by cover tag p c body) ≡ 64
  unfolding record_of
  sealed_whole p c body h =
      let a = fit.covers_all p c body h in
      let b = fit.tags_eight p c (cover p c body) in
      simp length-append (omega arith)

  opened_whole : (p c : ℕ) (bytes body : Bytes) → opened_by cover tag p bytes ≡ Some (c, body) → length body ≡ 52
  unfolding sealed_in
  opened_whole p c bytes body e =
      let g = kept_some _ _ (c, body) e in
      let l : length bytes ≡ 64 = eqb-true _ _ (and_parts _ _ g.0).0 in
      let s : length (sealed_in bytes) ≡ 52 = simp (length-take, length-drop) (omega arith) in
      let k : cover p (counter_in bytes) (sealed_in bytes) ≡ body = ap (λ (x : ℕ × Bytes). x.1) g.1 in
      ap length (sym k) ∙ fit.covers_all p (counter_in bytes) (sealed_in bytes) s

  pub lawful : Lawful (rules_by cover tag)
  lawful = record { opens = opens_again; counted = λ p c body hc h. counter_first p c body; sealed_long = sealed_whole; opened_long = opened_whole }
