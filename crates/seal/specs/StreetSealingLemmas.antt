use Rattle.std.specs.Prelude.{◌≡◌, ℕ, ◌≤◌, length}
use Rattle.std.proofs.Common.{arith}
use Rattle.layout.specs.Numbers.{Bytes}
use Rattle.layout.proofs.Littles.{length_little}
use Rattle.cipher.specs.Siphash.{siphash}
use Rattle.cipher.proofs.Sizes.{length_block}
use Rattle.seal.specs.Schemes.{nonce_of, keystream, street_cover, street_tag, tagged_bytes}
use Rattle.seal.specs.Combined.{length_combined, combined_twice}
use Rattle.seal.specs.Schemed.{Fit}

pub long_enough : (key : Bytes) (p n : ℕ) (body : Bytes) → length body ≡ 52 → length body ≤ length (keystream key p n)
unfolding keystream
long_enough key p n body h = let l = length_block key 0 (nonce_of p n) in omega arith

pub eight : (key : Bytes) (p n : ℕ) (covered : Bytes) → length (street_tag key p n covered) ≡ 8
unfolding street_tag
eight key p n covered = length_little 8 (siphash key (tagged_bytes p n covered))

pub fit : (body_key tag_key : Bytes) → Fit (street_cover body_key) (street_tag tag_key)
fit body_key tag_key = record {
  uncovers = λ p n body h. combined_twice body (keystream body_key p n) (long_enough body_key p n body h);
  covers_all = λ p n body h. let e = length_combined body (keystream body_key p n) (long_enough body_key p n body h) in omega arith;
  tags_eight = λ p n covered. eight tag_key p n covered;
}
