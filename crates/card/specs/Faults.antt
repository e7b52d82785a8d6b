-- What a card's faults tell.
use Rattle.denial.specs.Denials.{Denial, place_beyond, wrong_size}
use Rattle.denial.specs.declared.Layer.TheVariants.{Card}
use Rattle.card.specs.declared.fault.CardFault.{CardFault}
use Rattle.card.specs.declared.fault.CardFault.TheVariants.{Beyond, Size}

abbrev pub card_denial : CardFault → Denial
card_denial (Beyond p) = place_beyond p.0
card_denial Size = wrong_size Card
