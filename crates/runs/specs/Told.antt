-- Makings, calls and answers of the code, as the machine has them.
use Rattle.std.specs.Prelude.{ℕ, List, [], take, replicate, Some, None, Ok, Err, vec_items, Option, Result}
use Rattle.machine.specs.Machine as machine
use Rattle.machine.specs.Makings as making
use Rattle.machine.specs.Makings.{handed}
use Rattle.answers.specs.declared.denials.Denial.{Denial}
use Rattle.engine.specs.Steps.{answer_by, beat_told}
use Rattle.runs.specs.declared.calls.Making.{Making}
use Rattle.runs.specs.declared.calls.Making.TheVariants.{Format, Resume}
use Rattle.runs.specs.declared.calls.Call.{Call}
use Rattle.runs.specs.declared.calls.Call.TheVariants.{Write, Read, Beat, Save, Face}
use Rattle.runs.specs.declared.calls.Granted.{Granted}
use Rattle.runs.specs.declared.calls.Granted.TheVariants.{Written, Valued, Beaten, Saved, Shown}

abbrev pub making_told : Making → making.Making
making_told (Format n) = making.Format n
making_told (Resume file) = making.Resume file.now

-- a buffer of so many numbers begins as zeros
abbrev pub call_told : Call → machine.Call
call_told (Write b value) = machine.Write b.0 value.now
call_told (Read b n) = machine.Read b.0 (replicate n 0)
call_told Beat = machine.Beat
call_told (Save n) = machine.Save (replicate n 0)
call_told (Face n) = machine.Face (replicate n 0)

abbrev pub Answer : Type 0
Answer = Result Granted Denial

abbrev pub granted_told : Granted → machine.Answer
granted_told Written = machine.Written
granted_told (Valued v) = machine.Valued
granted_told (Beaten b) = beat_told b
granted_told (Saved n v) = machine.Saved n
granted_told (Shown v) = machine.Shown

abbrev pub answer_told : Answer → machine.Answer
answer_told a = answer_by granted_told a

abbrev pub granted_buffer : Granted → List ℕ
granted_buffer Written = []
granted_buffer (Valued v) = vec_items v
granted_buffer (Beaten b) = []
granted_buffer (Saved n v) = vec_items v
granted_buffer (Shown v) = vec_items v

-- the map file that a save wrote
abbrev pub file_in : Granted → Option (List ℕ)
file_in Written = None
file_in (Valued v) = None
file_in (Beaten b) = None
file_in (Saved n v) = Some (take n (vec_items v))
file_in (Shown v) = None

-- what the handed buffer holds after the call
abbrev pub buffer_told : List ℕ → Answer → List ℕ
buffer_told buffer (Ok g) = granted_buffer g
buffer_told buffer (Err d) = buffer

-- an answer, and what the call's buffer holds then
abbrev pub told_seen : Call → Answer → machine.Answer × List ℕ
told_seen c a = (answer_told a, buffer_told (handed (call_told c)) a)
