-- What a store is.
use Rattle.machine.specs.Makings.{Store}

-- a store of the definitions, open or shut, and the seal by whose rules it goes
pub record Held (S : Type 0) : Type 0 where
  pub store : Store
  pub seal : S
