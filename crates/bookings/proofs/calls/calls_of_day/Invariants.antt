use Rattle.std.proofs.Common.{◌≡◌, map, take, vec_items}
use Rattle.std.specs.List.{flat_map}
use Rattle.runs.specs.Told.{call_told}
use Rattle.bookings.specs.Days.{hour_calls}
use Rattle.bookings.proofs.calls.calls_of_day.Given as goal

-- the hours so far have their calls
abbrev pub invariant-loop-hour : goal.invariant-loop-hour
invariant-loop-hour l = map call_told (vec_items l.calls) ≡ flat_map hour_calls (take l.hour-index l.day)
