-- The kinds of card: which records each has.
use Rattle.std.specs.Prelude.{ℕ, zero, suc, ◌*◌, ◌/◌, min, List, [], ◌∷◌, length, take, drop}
use Rattle.layout.specs.Numbers.{Bytes}
use Rattle.card.specs.Cards.{most}

-- the first n pieces of 64 bytes
unfoldable pub pieces : ℕ → Bytes → List Bytes
pieces zero bytes = []
pieces (suc n) bytes = take 64 bytes ∷ pieces n (drop 64 bytes)

-- how many records lie in bytes: the whole pieces, at most as many as a card may have
abbrev pub byte_count : Bytes → ℕ
byte_count bytes = min (length bytes / 64) most

-- the records that lie in bytes
abbrev pub byte_records : Bytes → List Bytes
byte_records bytes = pieces (byte_count bytes) bytes

-- the bytes that belong to no record
abbrev pub byte_rest : Bytes → Bytes
byte_rest bytes = drop (64 * byte_count bytes) bytes

-- the part of a card from place `start` on, `len` places long
abbrev pub window : ℕ → ℕ → List Bytes → List Bytes
window start len records = take len (drop start records)

-- one record of each in turn, as long as both have one
unfoldable pub woven : List Bytes → List Bytes → List Bytes
woven [] odd = []
woven (r ∷ even) [] = []
woven (r ∷ even) (s ∷ odd) = r ∷ s ∷ woven even odd

-- two cards as one: the even places lie on the first, the odd ones on the second
unfoldable pub split : List Bytes → List Bytes → List Bytes
split even odd = take most (woven even odd)
