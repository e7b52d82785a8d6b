-- The checks of the makings, one by one.
use Rattle.std.specs.Prelude.{ℕ, Bool, cond, Some, None, Ok, Err, Option, Result}
use Rattle.denial.specs.Denials.{Denial, block_count, place_count, counter_above}
use Rattle.machine.specs.Machine.{Reason, DenialOf}
use Rattle.answers.specs.declared.fault.StoreFault.{StoreFault}
use Rattle.answers.specs.declared.fault.StoreFault.TheVariants.{FileEntry}
use Rattle.machine.specs.Makings.{blocks_fit, places_fit}

-- 2, then 3
abbrev pub size_check : ℕ → ℕ → Result (Unit {0}) Denial
size_check n count = cond (blocks_fit n) (cond (places_fit n count) (Ok tt) (Err place_count)) (Err block_count)

-- 4, from whether all entries fit
abbrev pub entry_check : Bool → Result (Unit {0}) StoreFault
entry_check fit = cond fit (Ok tt) (Err FileEntry)

-- 5, from the lowest place whose counter is above the last
abbrev pub counter_check : Option ℕ → Result (Unit {0}) Reason
counter_check None = Ok tt
counter_check (Some p) = Err (DenialOf (counter_above p))

-- 6 and 7, from the first entry that fails
abbrev pub opening_check : Option Reason → Result (Unit {0}) Reason
opening_check None = Ok tt
opening_check (Some r) = Err r
