-- The machine that an open store is.
use Rattle.std.specs.Prelude.{ℕ, List}
use Rattle.layout.specs.Numbers.{Bytes}
use Rattle.machine.specs.Machine.{Machine}
use Rattle.engine.specs.declared.state.Memory.{Memory}

-- the records of a card, the words of a tape, and what is kept in memory
abbrev pub machine_of : List Bytes → List ℕ → Memory → Machine
machine_of card tape m = record { card = card; tape = tape; last = m.last; places = m.map; waiting = m.waiting }
