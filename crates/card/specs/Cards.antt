-- What a get and a put of a card answer, and what they leave.
use Rattle.std.specs.Prelude.{ℕ, cond, List, [], length, Ok, Err, Result, ◌==◌, nat_lt, slice_index_or, slice_set}
use Rattle.layout.specs.Numbers.{Bytes}
use Rattle.denial.specs.Denials.{Denial, place_beyond, wrong_size}
use Rattle.denial.specs.declared.Layer.TheVariants.{Card}

-- a card has at most this many records
abbrev pub most : ℕ
most = 65536

-- may a buffer of n bytes be got from, or put at, place p: 15 is tested before 16
abbrev pub allowed : List Bytes → ℕ → ℕ → Result (Unit {0}) Denial
allowed records p n = cond (nat_lt p (length records)) (cond (n == 64) (Ok tt) (Err (wrong_size Card))) (Err (place_beyond p))

-- what a granted call leaves, and what a denied one leaves
abbrev pub if_granted : {X : Type 0} → Result (Unit {0}) Denial → X → X → X
if_granted (Ok _) new old = new
if_granted (Err _) new old = old

-- a get: its answer, and the buffer after
abbrev pub get_of : List Bytes → ℕ → Bytes → Result (Unit {0}) Denial × Bytes
get_of records p buffer = let a = allowed records p (length buffer) in (a, if_granted a (slice_index_or records p []) buffer)

-- a put: its answer, and the records after
abbrev pub put_of : List Bytes → ℕ → Bytes → Result (Unit {0}) Denial × List Bytes
put_of records p bytes = let a = allowed records p (length bytes) in (a, if_granted a (slice_set records p bytes) records)
