-- What a making gives.
use Rattle.std.specs.Prelude.{◌≡◌, ℕ, ◌⊎◌, List, Ok, Err, Result}
use Rattle.layout.specs.Numbers.{Bytes}
use Rattle.machine.specs.Machine.{Reason, OutOfMemory}
use Rattle.machine.specs.Makings.{Store, Open, Shut}
use Rattle.prepare.specs.Sizes.{SizesFit}

-- the store that the definition makes; or, where the sizes fit, one that is shut for want of memory over the card and the tape as they were
abbrev pub MadeBy : Store → List Bytes → List ℕ → Store → Type 0
MadeBy made card tape defined = (made ≡ defined) ⊎ ((made ≡ Shut OutOfMemory card tape) × SizesFit defined)

-- what the making answered
abbrev pub making_answer : Store → Result (Unit {0}) Reason
making_answer (Open m) = Ok tt
making_answer (Shut r card tape) = Err r

abbrev pub card_of : Store → List Bytes
card_of (Open m) = m.card
card_of (Shut r card tape) = card

abbrev pub tape_of : Store → List ℕ
tape_of (Open m) = m.tape
tape_of (Shut r card tape) = tape
