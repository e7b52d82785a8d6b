-- What carrying out a run gives.
use Rattle.std.specs.Prelude.{◌≡◌, ℕ, List, map, IfOk, Ok, Err, Result}
use Rattle.std.specs.declared.alloc.AllocError.{AllocError}
use Rattle.layout.specs.Numbers.{Bytes}
use Rattle.seal.specs.Seals.{Rules}
use Rattle.machine.specs.Machine.{Machine}
use Rattle.machine.specs.Makings.{Making, Store, Open, make}
use Rattle.machine.specs.Runs.{Run, after}
use Rattle.machine.specs.Law.{Law}
use Rattle.store.specs.Made.{MadeBy}
use Rattle.runs.specs.Told.{call_told}
use Rattle.runs.specs.Shown.{Told, notes_told, first_shown, Followed}
use Rattle.runs.specs.Witness.{shown_in}
use Rattle.runs.specs.declared.calls.Call.{Call}
use Rattle.runs.specs.declared.transcript.Notes.{Notes}
use Rattle.runs.specs.declared.transcript.Transcript.{Transcript}

-- what a transcript tells
abbrev pub transcript_told : List Call → Transcript → Told
transcript_told cs t = notes_told cs t.notes

abbrev pub notes_in : Result Transcript AllocError → Result Notes AllocError
notes_in (Ok t) = Ok t.notes
notes_in (Err e) = Err e

-- a run that was carried out, as one of the runs that the law speaks of; the transcript is what that run shows, and the store after is its last machine
pub record RunOfTheLaw (rules : Rules) (card : List Bytes) (tape : List ℕ) (k : Making) (made : Machine) (calls : List Call) (left : Store) (shown : Result Transcript AllocError) : Type 0 where
  pub as_a_run : Run
  pub rules_are : as_a_run.rules ≡ rules
  pub card_is : as_a_run.card ≡ card
  pub tape_is : as_a_run.tape ≡ tape
  pub making_is : as_a_run.making ≡ k
  pub made_is : as_a_run.made ≡ made
  pub calls_are : as_a_run.calls ≡ map call_told calls
  pub transcript_is : IfOk shown (λ t. transcript_told calls t ≡ shown_in as_a_run)
  pub store_is : IfOk shown (λ t. left ≡ Open (after as_a_run))

pub record CarriedOut (rules : Rules) (card : List Bytes) (tape : List ℕ) (k : Making) (calls : List Call) (left : Store) (shown : Result Transcript AllocError) : Type 0 where
  -- the store that the making gave
  pub made : Store
  pub made_as_defined : MadeBy made card tape (make rules card tape k)
  -- the transcript is what the calls show on it, and the store after is what they leave
  pub followed_as_defined : Followed transcript_told rules made (first_shown made k card) calls left shown
  -- where the making was granted, this is a run of the law
  pub run_of_the_law : (m : Machine) → made ≡ Open m → RunOfTheLaw rules card tape k m calls left shown
  -- and the law holds of every run, and of every two
  pub law : Law
