-- The one table of denials: the number, the layer and the place of each.
use Rattle.std.specs.Prelude.{ℕ, List, [], ◌++◌, Some, None, Ok, Err, Option, Result, codes, decimal}
use Rattle.std.specs.Option.{option_map}
use Rattle.layout.specs.declared.names.Place.{Place}
use Rattle.denial.specs.declared.Layer.{Layer}
use Rattle.denial.specs.declared.Row.{Row}
use Rattle.denial.specs.declared.Layer.TheVariants.{Store, Card, Seal, Tape}

pub record Denial : Type 0 where
  pub number : ℕ
  pub layer : Layer
  pub place : Option ℕ

-- a denial of the store's own, which names no place
abbrev pub by_store : ℕ → Denial
by_store n = record { number = n; layer = Store; place = None }

-- and one that names a place
abbrev pub by_store_at : ℕ → ℕ → Denial
by_store_at n p = record { number = n; layer = Store; place = Some p }

-- 1: a map file under 10 bytes, or of another length than its own count of landed blocks gives
abbrev pub file_length : Denial
file_length = by_store 1

-- 2: the count of blocks is 0 or above 512
abbrev pub block_count : Denial
block_count = by_store 2

-- 3: the card counts fewer than twice as many places as there are blocks, or more than 1,024, or not as many as the file says
abbrev pub place_count : Denial
place_count = by_store 3

-- 4: an entry's block is not below the count or not above the one before, or its place is not on the card or was listed before
abbrev pub file_entry : Denial
file_entry = by_store 4

-- 5: a clear counter on the card is above the file's last counter; the lowest such place
abbrev pub counter_above : ℕ → Denial
counter_above p = by_store_at 5 p

-- 6: a listed place does not open; it holds the seal's own denial
abbrev pub entry_unopened : ℕ → Denial
entry_unopened p = by_store_at 6 p

-- 7: a listed place opens to another block
abbrev pub entry_other : ℕ → Denial
entry_other p = by_store_at 7 p

-- 8: the block is not below the count of blocks
abbrev pub block_beyond : Denial
block_beyond = by_store 8

-- 9: the value is longer than 48 bytes
abbrev pub value_long : Denial
value_long = by_store 9

-- 10: a block waits, so there is nothing to save yet
abbrev pub blocks_wait : Denial
blocks_wait = by_store 10

-- 11: the buffer has not the length that the call asks for
abbrev pub buffer_length : Denial
buffer_length = by_store 11

-- 12: sixteen blocks wait, and this one is not among them
abbrev pub list_full : Denial
list_full = by_store 12

-- 13: no word is left on the tape
abbrev pub tape_spent : Denial
tape_spent = record { number = 13; layer = Tape; place = None }

-- 14: the last counter is the highest that there is
abbrev pub counter_spent : Denial
counter_spent = by_store 14

-- 15: the place is not below the card's count; it names the place that was given
abbrev pub place_beyond : ℕ → Denial
place_beyond p = record { number = 15; layer = Card; place = Some p }

-- 16: a record is not 64 bytes or a body not 52
abbrev pub wrong_size : Layer → Denial
wrong_size layer = record { number = 16; layer = layer; place = None }

-- 17: the tag is not the one that the seal's rule gives at the place
abbrev pub wrong_tag : ℕ → Denial
wrong_tag p = record { number = 17; layer = Seal; place = Some p }

-- how a layer prints, and a row: `15 card place 3` or `16 card`
abbrev pub layer_name : Layer → List ℕ
layer_name Store = codes "store"
layer_name Card = codes "card"
layer_name Seal = codes "seal"
layer_name Tape = codes "tape"

abbrev pub place_text : Option Place → List ℕ
place_text None = []
place_text (Some p) = codes " place " ++ decimal p.0

abbrev pub row_text : Row → List ℕ
row_text r = decimal r.number ++ (codes " " ++ (layer_name r.layer ++ place_text r.place))

-- an answer with its fault told as a denial
abbrev pub told : {T F : Type 0} → (F → Denial) → Result T F → Result T Denial
told denial (Ok x) = Ok x
told denial (Err f) = Err (denial f)

abbrev pub place_number : Place → ℕ
place_number p = p.0

-- the denial that a row of the table tells
abbrev pub row_told : Row → Denial
row_told r = record { number = r.number; layer = r.layer; place = option_map place_number r.place }
