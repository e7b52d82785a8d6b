-- What shows a transcript: a run of the law, or a shut store.
use Rattle.std.specs.Prelude.{◌≡◌, ◌⊎◌, List, [], map, Some, None}
use Rattle.machine.specs.Machine as machine
use Rattle.machine.specs.Machine.{Reason, Denied}
use Rattle.machine.specs.Makings.{handed}
use Rattle.machine.specs.Runs.{Run, transcript, first_face, first_counter, faces, beat_places, sealings}
use Rattle.runs.specs.Told.{call_told}
use Rattle.runs.specs.Shown.{Told, notes_told, answered}
use Rattle.runs.specs.declared.calls.Call.{Call}
use Rattle.runs.specs.declared.transcript.Notes.{Notes}

-- what a run of the law shows, in the law's own words
abbrev pub shown_in : Run → Told
shown_in x = record {
  begun = Some (record { face = first_face x; counter = first_counter x });
  answers = map answered (transcript x);
  faces = faces x;
  places = beat_places x;
  sealings = sealings x;
}

-- what a store shows that is shut for a reason: it denies each call for it
abbrev pub shown_shut : Reason → List machine.Call → Told
shown_shut r cs = record { begun = None; answers = map (λ c. (Denied r, handed c)) cs; faces = []; places = []; sealings = [] }

-- some run of the law shows just this
pub record ByARun (t : Notes) : Type 0 where
  pub as_a_run : Run
  pub calls : List Call
  pub calls_are : as_a_run.calls ≡ map call_told calls
  pub told_is : notes_told calls t ≡ shown_in as_a_run

-- some store that is shut shows just this
pub record ByAShutStore (t : Notes) : Type 0 where
  pub reason : Reason
  pub calls : List Call
  pub told_is : notes_told calls t ≡ shown_shut reason (map call_told calls)

-- after a granted making, and after a denied one
abbrev pub ShownByAStore : Notes → Type 0
ShownByAStore t = ByARun t ⊎ ByAShutStore t
