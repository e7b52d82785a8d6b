-- What a seal's faults tell.
use Rattle.denial.specs.Denials.{Denial, wrong_size, wrong_tag}
use Rattle.denial.specs.declared.Layer.TheVariants.{Seal}
use Rattle.seal.specs.declared.fault.SealFault.{SealFault}
use Rattle.seal.specs.declared.fault.SealFault.TheVariants.{Size, Tag}

abbrev pub seal_denial : SealFault → Denial
seal_denial Size = wrong_size Seal
seal_denial (Tag p) = wrong_tag p.0
