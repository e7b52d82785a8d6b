-- What a position map and a waiting list hold, as the machine has them.
use Rattle.std.specs.Prelude.{ℕ, suc, Bool, cond, List, [], ◌∷◌, ◌++◌, map, length, Some, None, Ok, Err, Option, Result, ◌==◌, nat_lt, slice_set}
use Rattle.std.specs.Option.{option_map}
use Rattle.layout.specs.Numbers.{Bytes}
use Rattle.layout.specs.declared.body.Body.{Body}
use Rattle.layout.specs.declared.names.Block.{Block}
use Rattle.layout.specs.declared.names.Place.{Place}
use Rattle.machine.specs.Machine.{occupant}

-- ---- the position map

abbrev pub place_of : Option Place → Option ℕ
place_of o = option_map (λ p. p.0) o

abbrev pub block_of : Option Block → Option ℕ
block_of o = option_map (λ b. b.0) o

-- a place for each block, or none
abbrev pub placed : List (Option Place) → List (Option ℕ)
placed places = map place_of places

-- an occupant for each place, or none
abbrev pub indexed : List (Option Block) → List (Option ℕ)
indexed occupants = map block_of occupants

-- who has a place, noted in an index
abbrev pub noted : List (Option Block) → Option Place → Option Block → List (Option Block)
noted occupants None o = occupants
noted occupants (Some p) o = slice_set occupants p.0 o

-- why a block cannot be settled at a place
pub data Unsettled : Type 0 where
  UnknownBlock : Unsettled
  PlaceOccupied : Unsettled

abbrev pub settle_vacant : List (Option ℕ) → ℕ → ℕ → Option ℕ → Result (Unit {0}) Unsettled × List (Option ℕ)
settle_vacant places b p (Some other) = (Err PlaceOccupied, places)
settle_vacant places b p None = (Ok tt, slice_set places b (Some p))

-- a block of the map is put at a place that nobody has
abbrev pub settle_of : List (Option ℕ) → ℕ → ℕ → Result (Unit {0}) Unsettled × List (Option ℕ)
settle_of places b p = cond (nat_lt b (length places)) (settle_vacant places b p (occupant places p)) (Err UnknownBlock, places)

-- ---- the waiting list

abbrev pub entry_of : Body → ℕ × Bytes
entry_of s = (s.block.0, s.value)

-- the blocks that wait, with their values, in turn order
abbrev pub waited : List Body → List (ℕ × Bytes)
waited slots = map entry_of slots

-- the turn of a waiting block, counted from i on
abbrev pub turn_from : ℕ → List (ℕ × Bytes) → ℕ → Option ℕ
turn_from i [] b = None
turn_from i (w ∷ ws) b = cond (w.0 == b) (Some i) (turn_from (suc i) ws b)

abbrev pub turn : List (ℕ × Bytes) → ℕ → Option ℕ
turn ws b = turn_from 0 ws b

-- the first in turn
abbrev pub first_in : List (ℕ × Bytes) → Option (ℕ × Bytes)
first_in [] = None
first_in (w ∷ ws) = Some w

-- a block joins at the end, where fewer than sixteen wait
abbrev pub join_of : List (ℕ × Bytes) → ℕ × Bytes → Bool × List (ℕ × Bytes)
join_of ws w = let room = nat_lt (length ws) 16 in (room, cond room (ws ++ w ∷ []) ws)
