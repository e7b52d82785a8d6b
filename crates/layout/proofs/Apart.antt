-- What is put together is what is taken apart: bodies and records.
use Rattle.std.proofs.Common.{◌≡◌, ℕ, ◌^◌, ◌<◌, ◌++◌, length, take, drop, sym, ap, ◌∙◌, arith}
use Rattle.std.proofs.lemmas.List.{length-append, take_at, drop_at, drop-drop}
use Rattle.layout.specs.Numbers.{Bytes, little, number}
use Rattle.layout.specs.Layouts.{body_of, block_in, value_in, record_of, counter_in, sealed_in, tag_in, BodyApart, RecordApart}
use Rattle.layout.proofs.Littles.{length_little, number_little}

-- the number in front of the rest
front : (n : ℕ) (rest : Bytes) → n < 2 ^ 32 → number (take 4 (little 4 n ++ rest)) ≡ n
front n rest h = ap number (take_at (little 4 n) rest 4 (length_little 4 n)) ∙ number_little 4 n h

pub body_apart : (block : ℕ) (value : Bytes) → block < 2 ^ 32 → length value ≡ 48 → BodyApart block value (body_of block value)
unfolding body_of block_in value_in
body_apart block value h l = record {
  block_back = front block value h;
  value_back = drop_at (little 4 block) value 4 (length_little 4 block);
  body_long = simp length-append (omega arith);
}

pub record_apart : (counter : ℕ) (sealed tag : Bytes) → counter < 2 ^ 32 → length sealed ≡ 52 → length tag ≡ 8
    → RecordApart counter sealed tag (record_of counter sealed tag)
unfolding record_of counter_in sealed_in tag_in
record_apart counter sealed tag h l k = record {
  counter_back = front counter (sealed ++ tag) h;
  sealed_back = ap (take 52) (drop_at (little 4 counter) (sealed ++ tag) 4 (length_little 4 counter)) ∙ take_at sealed tag 52 l;
  tag_back = sym (drop-drop 52 4 (little 4 counter ++ (sealed ++ tag)))
      ∙ (ap (drop 52) (drop_at (little 4 counter) (sealed ++ tag) 4 (length_little 4 counter)) ∙ drop_at sealed tag 52 l);
  record_long = simp length-append (omega arith);
}
