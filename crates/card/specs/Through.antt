-- A place of a layer lies at a place below, if both have it and the record there is seen and replaced with it.
use Rattle.std.specs.Prelude.{◌≡◌, ℕ, ◌<◌, cond, List, [], length, Ok, Err, Result, ◌==◌, slice_index_or, slice_set, refl}
use Rattle.std.proofs.Common.{sym, ap, ◌∙◌}
use Rattle.std.proofs.lemmas.Bool.{lt-ltb}
use Rattle.layout.specs.Numbers.{Bytes}
use Rattle.denial.specs.Denials.{Denial, wrong_size}
use Rattle.denial.specs.declared.Layer.TheVariants.{Card}
use Rattle.card.specs.Cards.{allowed, if_granted}
use Rattle.card.specs.Layers.{LiesAt}

-- at a place that a card has, the size alone is tested
size_alone : (rs : List Bytes) (p n : ℕ) → p < length rs → allowed rs p n ≡ cond (n == 64) (Ok tt) (Err (wrong_size Card))
size_alone rs p n h = rw (lt-ltb p (length rs) h)

same_allowed : (above below : List Bytes) (p q n : ℕ) → p < length above → q < length below → allowed above p n ≡ allowed below q n
same_allowed above below p q n h k = size_alone above p n h ∙ sym (size_alone below q n k)

shown_by : (view : List Bytes → List Bytes) (a : Result (Unit {0}) Denial) (new old : List Bytes)
    → if_granted a (view new) (view old) ≡ view (if_granted a new old)
shown_by view (Ok u) new old = refl
shown_by view (Err d) new old = refl

pub lies_at : (view : List Bytes → List Bytes) (below : List Bytes) (p q : ℕ) → p < length (view below) → q < length below
    → slice_index_or (view below) p [] ≡ slice_index_or below q [] → ((r : Bytes) → slice_set (view below) p r ≡ view (slice_set below q r)) → LiesAt view below p q
lies_at view below p q h k same replaced = record {
  gets = λ buffer.
      let a = allowed below q (length buffer) in
      ap (λ (o : Result (Unit {0}) Denial). (o, if_granted o (slice_index_or (view below) p []) buffer)) (same_allowed (view below) below p q (length buffer) h k)
      ∙ ap (λ (r : Bytes). (a, if_granted a r buffer)) same;
  puts = λ bytes.
      let a = allowed below q (length bytes) in
      ap (λ (o : Result (Unit {0}) Denial). (o, if_granted o (slice_set (view below) p bytes) (view below))) (same_allowed (view below) below p q (length bytes) h k)
      ∙ (ap (λ (rs : List Bytes). (a, if_granted a rs (view below))) (replaced bytes)
      ∙ ap (λ (rs : List Bytes). (a, rs)) (shown_by view a (slice_set below q bytes) below));
}
