-- Where a making may find no memory: past the file's length and the sizes.
use Rattle.std.specs.Prelude.{◌<◌}
use Rattle.machine.specs.Machine.{Reason, DenialOf, CausedBy, OutOfMemory}
use Rattle.machine.specs.Makings.{Store, Open, Shut}

-- a denial by a check later than 3
abbrev pub PastSizes : Reason → Type 0
PastSizes (DenialOf d) = 3 < d.number
PastSizes (CausedBy d cause) = 3 < d.number
PastSizes OutOfMemory = ⊥

-- the file's length and the sizes are right: the definition grants, or denies by a check later than 3
abbrev pub SizesFit : Store → Type 0
SizesFit (Open m) = Unit {0}
SizesFit (Shut r card tape) = PastSizes r
