-- The byte layout of a body and of a record.
use Rattle.std.specs.Prelude.{◌≡◌, ℕ, cond, List, ◌++◌, map, length, take, drop, replicate, Some, None, Option, nat_le}
use Rattle.layout.specs.Numbers.{Bytes, little, number}

-- A body: a block number in 4 bytes, then a value of 48.
unfoldable pub body_of : ℕ → Bytes → Bytes
body_of block value = little 4 block ++ value

unfoldable pub block_in : Bytes → ℕ
block_in body = number (take 4 body)

unfoldable pub value_in : Bytes → Bytes
value_in body = drop 4 body

-- the value that nobody wrote
abbrev pub zeros : Bytes
zeros = replicate 48 0

-- a value of at most 48 bytes, filled with zeros
unfoldable pub filled : Bytes → Bytes
filled value = take 48 (value ++ zeros)

-- and that, or none for a value that is longer
abbrev pub filled_of : Bytes → Option Bytes
filled_of value = cond (nat_le (length value) 48) (Some (filled value)) None

-- no block: the number that a dummy body has
abbrev pub no_block : ℕ
no_block = 4294967295

abbrev pub dummy_body : Bytes
dummy_body = body_of no_block zeros

-- A record: a clear counter in 4 bytes, a sealed body of 52, a tag of 8.
unfoldable pub record_of : ℕ → Bytes → Bytes → Bytes
record_of counter sealed tag = little 4 counter ++ (sealed ++ tag)

unfoldable pub counter_in : Bytes → ℕ
counter_in bytes = number (take 4 bytes)

unfoldable pub sealed_in : Bytes → Bytes
sealed_in bytes = take 52 (drop 4 bytes)

unfoldable pub tag_in : Bytes → Bytes
tag_in bytes = drop 56 bytes

-- the face of a card: its clear counters in place order
abbrev pub face : List Bytes → List ℕ
face records = map counter_in records

-- What is put together is what is taken apart, and the other way round.
pub record BodyApart (block : ℕ) (value body : Bytes) : Type 0 where
  pub block_back : block_in body ≡ block
  pub value_back : value_in body ≡ value
  pub body_long : length body ≡ 52

pub record RecordApart (counter : ℕ) (sealed tag bytes : Bytes) : Type 0 where
  pub counter_back : counter_in bytes ≡ counter
  pub sealed_back : sealed_in bytes ≡ sealed
  pub tag_back : tag_in bytes ≡ tag
  pub record_long : length bytes ≡ 64
