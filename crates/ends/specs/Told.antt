-- What a denial of one of the ends tells, in the one table.
use Rattle.denial.specs.Denials.{Denial}
use Rattle.card.specs.Faults.{card_denial}
use Rattle.seal.specs.Faults.{seal_denial}
use Rattle.tape.specs.Faults.{tape_denial}
use Rattle.ends.specs.declared.trouble.Denied.{Denied}
use Rattle.ends.specs.declared.trouble.Denied.TheVariants.{Card, Seal, Tape}

abbrev pub denied_told : Denied → Denial
denied_told (Card fault) = card_denial fault
denied_told (Seal fault) = seal_denial fault
denied_told (Tape fault) = tape_denial fault
