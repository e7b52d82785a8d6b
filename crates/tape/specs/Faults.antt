-- What a tape's faults tell.
use Rattle.denial.specs.Denials.{Denial, tape_spent}
use Rattle.tape.specs.declared.fault.TapeFault.{TapeFault}
use Rattle.tape.specs.declared.fault.TapeFault.TheVariants.{Spent}

abbrev pub tape_denial : TapeFault → Denial
tape_denial Spent = tape_spent
