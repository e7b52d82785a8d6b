-- What an open store is.
use Rattle.machine.specs.Machine.{Machine}

-- a machine, and the seal by whose rules it goes
pub record Running (S : Type 0) : Type 0 where
  pub machine : Machine
  pub seal : S
