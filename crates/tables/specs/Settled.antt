-- The answer of a settling, as the definition has it.
use Rattle.std.specs.Prelude.{Ok, Err, Result}
use Rattle.tables.specs.declared.positions.SettleFault.{SettleFault}
use Rattle.tables.specs.declared.positions.SettleFault.TheVariants.{NoSuchBlock, Occupied}
use Rattle.tables.specs.Views.{Unsettled, UnknownBlock, PlaceOccupied}

abbrev pub settle_told : Result (Unit {0}) SettleFault → Result (Unit {0}) Unsettled
settle_told (Ok _) = Ok tt
settle_told (Err NoSuchBlock) = Err UnknownBlock
settle_told (Err Occupied) = Err PlaceOccupied
