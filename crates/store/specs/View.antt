-- The store of the definitions that a store of the code is.
use Rattle.std.specs.Prelude.{ℕ, List, Ok, Err, Result}
use Rattle.layout.specs.Numbers.{Bytes}
use Rattle.machine.specs.Machine.{Answer}
use Rattle.machine.specs.Makings as machine
use Rattle.machine.specs.Makings.{Called}
use Rattle.answers.specs.declared.denials.Denial.{Denial}
use Rattle.answers.specs.Told.{reason_of}
use Rattle.engine.specs.declared.state.Memory.{Memory}
use Rattle.engine.specs.View.{machine_of}
use Rattle.engine.specs.Running.{Running}
use Rattle.store.specs.declared.state.ShutStore.{ShutStore}

module _ {C S T : Type 0} (records : C → List Bytes) (words : T → List ℕ) where
  abbrev pub store_of : Result (Running S) (ShutStore C S T) → machine.Store
  store_of (Ok s) = machine.Open s.machine
  store_of (Err s) = machine.Shut (reason_of s.denial) (records s.ends.card) (words s.ends.tape)

abbrev pub seal_of : {C S T : Type 0} → Result (Running S) (ShutStore C S T) → S
seal_of (Ok s) = s.seal
seal_of (Err s) = s.ends.seal

-- what was prepared, over a card and a tape
abbrev pub assembled : List Bytes → List ℕ → Result Memory Denial → machine.Store
assembled card tape (Ok m) = machine.Open (machine_of card tape m)
assembled card tape (Err d) = machine.Shut (reason_of d) card tape

-- an answer, what the caller's buffer holds, and the store after the call
abbrev pub called : Answer → List ℕ → machine.Store → Called
called a b s = record { answer = a; buffer = b; store = s }
