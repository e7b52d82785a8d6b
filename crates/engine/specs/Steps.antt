-- The answers of the calls, as the machine has them.
use Rattle.std.specs.Prelude.{ℕ, ◌%◌, cond, List, [], ◌∷◌, length, Some, None, Ok, Err, Option, Result, nat_lt, slice_index_or, slice_set}
use Rattle.layout.specs.Numbers.{Bytes}
use Rattle.layout.specs.Layouts.{body_of, counter_in, dummy_body, value_in}
use Rattle.layout.specs.declared.body.Body.{Body}
use Rattle.layout.specs.declared.names.Place.{Place}
use Rattle.denial.specs.Denials as table
use Rattle.denial.specs.Denials.{place_beyond}
use Rattle.seal.specs.Seals.{Rules}
use Rattle.machine.specs.Machine.{Machine, Deed, Dummy, Landed, Resealed, Reason, DenialOf, Answer, Denied, Beaten, Outcome, occupant, opened_at}
use Rattle.answers.specs.declared.beat.Beat.{Beat}
use Rattle.answers.specs.declared.beat.Deed as code
use Rattle.answers.specs.declared.denials.Denial.{Denial}
use Rattle.answers.specs.Told.{reason_of, deed_told}

-- an answer of the code, with its denial told as a reason
abbrev pub by_reason : {X : Type 0} → Result X Denial → Result X Reason
by_reason (Ok x) = Ok x
by_reason (Err d) = Err (reason_of d)

-- an answer of the definitions, likewise
abbrev pub as_reason : {X : Type 0} → Result X table.Denial → Result X Reason
as_reason (Ok x) = Ok x
as_reason (Err d) = Err (DenialOf d)

-- the machine's answer: what a granted call says, or why it is denied
abbrev pub answer_by : {X : Type 0} → (X → Answer) → Result X Denial → Answer
answer_by granted (Ok x) = granted x
answer_by granted (Err d) = Denied (reason_of d)

-- an answer, what the caller's buffer holds, and the machine after the call
abbrev pub outcome : Answer → List ℕ → Machine → Outcome
outcome a b m = record { answer = a; buffer = b; machine = m }

abbrev pub beat_told : Beat → Answer
beat_told b = Beaten b.place.0 b.counter (deed_told b.deed)

-- the clear counter of the record at a place
abbrev pub clear_at : List Bytes → ℕ → Result ℕ table.Denial
clear_at card p = cond (nat_lt p (length card)) (Ok (counter_in (slice_index_or card p []))) (Err (place_beyond p))

-- the place that a word gives on a card of so many places
abbrev pub place_drawn : ℕ → ℕ → Result ℕ table.Denial
place_drawn count word = cond (nat_lt (word % count) count) (Ok (word % count)) (Err (place_beyond word))

abbrev pub by_place : Result Place Denial → Result ℕ Reason
by_place (Ok p) = Ok p.0
by_place (Err d) = Err (reason_of d)

-- ---- what a beat seals at a place: a body, and the deed

abbrev pub choice_occupied : ℕ → Result Bytes table.Denial → Result (Bytes × Deed) table.Denial
choice_occupied b (Ok body) = Ok (body_of b (value_in body), Resealed b)
choice_occupied b (Err d) = Err d

abbrev pub choice_vacant : List (ℕ × Bytes) → Result (Bytes × Deed) table.Denial
choice_vacant [] = Ok (dummy_body, Dummy)
choice_vacant (w ∷ ws) = Ok (body_of w.0 w.1, Landed w.0)

abbrev pub choice_at : Rules → Machine → ℕ → Option ℕ → Result (Bytes × Deed) table.Denial
choice_at rules m p (Some b) = choice_occupied b (opened_at rules m.card p)
choice_at rules m p None = choice_vacant m.waiting

-- the block that has the place with its value, else the first that waits, else a dummy
abbrev pub choice : Rules → Machine → ℕ → Result (Bytes × Deed) table.Denial
choice rules m p = choice_at rules m p (occupant m.places p)

abbrev pub choice_told : Result (Body × code.Deed) Denial → Result (Bytes × Deed) Reason
choice_told (Ok c) = Ok (body_of c.0.block.0 c.0.value, deed_told c.1)
choice_told (Err d) = Err (reason_of d)

-- a body sealed at a place under a counter, which becomes the last
abbrev pub with_sealed : Rules → Machine → ℕ → ℕ → Bytes → Machine
with_sealed rules m p n body = record { card = slice_set m.card p (rules.sealed p n body); tape = m.tape; last = n; places = m.places; waiting = m.waiting }
