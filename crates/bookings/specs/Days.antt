-- The calls of a day, as the machine has them.
use Rattle.std.specs.Prelude.{ℕ, zero, suc, List, [], ◌∷◌, ◌++◌, replicate, Some, None, Option}
use Rattle.std.specs.List.{flat_map}
use Rattle.machine.specs.Machine.{Call, Write, Read, Beat, Save}
use Rattle.example.specs.declared.booking.Booking.{Booking}

-- the booking's write
abbrev pub written : Option Booking → List Call
written None = []
written (Some b) = Write b.block.0 b.text.now ∷ []

-- in each hour the booking's write, if one came, and then two beats
abbrev pub hour_calls : Option Booking → List Call
hour_calls hour = written hour ++ replicate 2 Beat

-- reads of so many blocks, from a block on
abbrev pub reads_from : ℕ → ℕ → List Call
reads_from b zero = []
reads_from b (suc n) = Read b (replicate 48 0) ∷ reads_from (suc b) n

-- a read of every block
abbrev pub all_reads : List Call
all_reads = reads_from 0 12

-- the hours, sixteen beats at night, a read of every block, and the map file
abbrev pub day_calls : List (Option Booking) → List Call
day_calls day = flat_map hour_calls day ++ (replicate 16 Beat ++ (all_reads ++ Save (replicate 2058 0) ∷ []))
