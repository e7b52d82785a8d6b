-- Seals made of a cover and a tag, and the two that there are.
use Rattle.std.specs.Prelude.{ℕ, cond, ◌&&◌, ◌++◌, length, Some, None, Option, ◌==◌, bit_xor}
use Rattle.std.specs.Simd.Lanes.{zip2}
use Rattle.std.specs.Str.{bytes_eq}
use Rattle.layout.specs.Numbers.{Bytes, little}
use Rattle.layout.specs.Layouts.{record_of, counter_in, sealed_in, tag_in}
use Rattle.cipher.specs.Chacha20.{block}
use Rattle.cipher.specs.Siphash.{siphash}
use Rattle.seal.specs.Seals.{Rules}

-- what a body is covered to, and the tag of what is covered, for a place and a counter
abbrev pub Cover : Type 0
Cover = ℕ → ℕ → Bytes → Bytes

abbrev pub Tagging : Type 0
Tagging = ℕ → ℕ → Bytes → Bytes

-- the clear counter, the covered body, and its tag
abbrev pub sealed_by : Cover → Tagging → ℕ → ℕ → Bytes → Bytes
sealed_by cover tag p counter body = record_of counter (cover p counter body) (tag p counter (cover p counter body))

-- a record opens where its tag is the one that the rule gives; covering once more uncovers
abbrev pub opened_by : Cover → Tagging → ℕ → Bytes → Option (ℕ × Bytes)
opened_by cover tag p bytes =
    cond (length bytes == 64 && bytes_eq (tag p (counter_in bytes) (sealed_in bytes)) (tag_in bytes))
    (Some (counter_in bytes, cover p (counter_in bytes) (sealed_in bytes)))
    None

abbrev pub rules_by : Cover → Tagging → Rules
rules_by cover tag = record { sealed = sealed_by cover tag; opened = opened_by cover tag }

-- The bench seal: the body stands plain, and the tag is the place and then the counter.
abbrev pub bench_cover : Cover
bench_cover p counter body = body

abbrev pub bench_tag : Tagging
bench_tag p counter covered = little 4 p ++ little 4 counter

-- The street seal: ChaCha20 covers, SipHash-2-4 tags.
-- the nonce of a place and a counter: both, then four zero bytes
abbrev pub nonce_of : ℕ → ℕ → Bytes
nonce_of p counter = little 4 p ++ (little 4 counter ++ little 4 0)

-- the block of ChaCha20 that covers a body, with block counter 0
unfoldable pub keystream : Bytes → ℕ → ℕ → Bytes
keystream key p counter = block key 0 (nonce_of p counter)

-- each byte of the body combined with the keystream's by exclusive or
abbrev pub street_cover : Bytes → Cover
street_cover key p counter body = zip2 bit_xor body (keystream key p counter)

-- what is tagged, 60 bytes: the place, then the record's first 56, which are the counter and the covered body
abbrev pub tagged_bytes : ℕ → ℕ → Bytes → Bytes
tagged_bytes p counter covered = little 4 p ++ (little 4 counter ++ covered)

unfoldable pub street_tag : Bytes → Tagging
street_tag key p counter covered = little 8 (siphash key (tagged_bytes p counter covered))
