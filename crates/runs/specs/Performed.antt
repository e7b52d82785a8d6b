-- What one call of a store gives.
use Rattle.std.specs.Prelude.{◌≡◌, ℕ, List, Ok, Err, Result}
use Rattle.std.specs.declared.alloc.AllocError.{AllocError}
use Rattle.machine.specs.Machine.{Call, Write, Read, Beat, Save, Face}
use Rattle.machine.specs.Makings.{Called, Store, handed}
use Rattle.runs.specs.Told.{Answer, answer_told, buffer_told}

-- an answer to a call that was handed a buffer, and the store after it
abbrev pub called_told : List ℕ → Answer → Store → Called
called_told buffer a after = record { answer = answer_told a; buffer = buffer_told buffer a; store = after }

-- a call that is handed a buffer
abbrev pub TakesBuffer : Call → Type 0
TakesBuffer (Write b value) = ⊥
TakesBuffer (Read b buffer) = Unit {0}
TakesBuffer Beat = ⊥
TakesBuffer (Save buffer) = Unit {0}
TakesBuffer (Face buffer) = Unit {0}

-- the answer, the buffer and the store after are those of the definition; without memory for a buffer nothing was called
abbrev pub Performed : Call → Result Answer AllocError → Store → Store → Called → Type 0
Performed c (Ok a) before after defined = called_told (handed c) a after ≡ defined
Performed c (Err e) before after defined = TakesBuffer c × (after ≡ before)
