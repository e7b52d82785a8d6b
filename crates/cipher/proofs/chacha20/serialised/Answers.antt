use Rattle.std.proofs.Common.{◌≡◌, ℕ, ◌<◌, List, [], length, get_or, map, sym, ap, ◌∙◌, arith}
use Rattle.std.specs.List.{flat_map}
use Rattle.std.proofs.lemmas.List.{ext_get_or, get_or-map, length-map}
use Rattle.std.proofs.lemmas.List.Folds.{flat_map-map}
use Rattle.layout.specs.Numbers.{Bytes, little}
use Rattle.layout.proofs.Littles.{little_four}
use Rattle.cipher.proofs.chacha20.serialised.Goals as goal

pub returns : goal.returns
returns c =
    let words = c.args.words.now in
    let bytes : List Bytes = c.map-bytes.result in
    let each : (i : ℕ) → i < length bytes → get_or bytes i [] ≡ get_or (map (little 4) words) i [] = λ i h.
    (c.map-bytes.ensures.items.at i 0 [] (omega arith)).2.met ∙ little_four (get_or words i 0) ∙ sym (get_or-map (little 4) words i 0 [] (omega arith)) in
    let e : bytes ≡ map (little 4) words = ext_get_or [] _ _ (omega (arith, length-map words (little 4))) each in
    c.copy_from_slice.ensures.after ∙ c.as_flattened.ensures.value ∙ ap (flat_map (λ x. x)) e ∙ flat_map-map (λ x. x) (little 4) words
