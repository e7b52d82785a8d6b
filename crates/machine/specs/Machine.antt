-- The hiding machine: its state, and what each call answers and leaves.
-- A state that no made store reaches may meet 15, 16 or 17; they are then passed on.
use Rattle.std.specs.Prelude.{ℕ, suc, ◌+◌, ◌%◌, cond, List, [], ◌∷◌, ◌++◌, length, drop, Some, None, Ok, Err, Option, Result, ◌==◌, nat_le, nat_lt, slice_index_or, slice_set}
use Rattle.layout.specs.Numbers.{Bytes}
use Rattle.layout.specs.Layouts.{body_of, value_in, zeros, filled, dummy_body, face}
use Rattle.denial.specs.Denials.{Denial, tape_spent, place_beyond, wrong_size, wrong_tag, block_beyond, value_long, blocks_wait, buffer_length, list_full, counter_spent}
use Rattle.denial.specs.declared.Layer.TheVariants.{Seal}
use Rattle.seal.specs.Seals.{Rules}
use Rattle.machine.specs.Files.{file_length_of, file_of}

-- ---- the state

pub record Machine : Type 0 where
  -- the card's records, by place
  pub card : List Bytes
  -- the tape's words still to come
  pub tape : List ℕ
  -- the last counter
  pub last : ℕ
  -- the position map: the place of each landed block, by block
  pub places : List (Option ℕ)
  -- the waiting list: blocks with their values, in turn order
  pub waiting : List (ℕ × Bytes)

-- ---- calls and answers

pub data Call : Type 0 where
  Write : ℕ → Bytes → Call
  Read : ℕ → Bytes → Call
  Beat : Call
  Save : Bytes → Call
  Face : List ℕ → Call

-- what a beat did at its place
pub data Deed : Type 0 where
  Dummy : Deed
  Landed : ℕ → Deed
  Resealed : ℕ → Deed

-- why a call is refused: a denial, which may hold the denial that caused it, or want of memory at the making
pub data Reason : Type 0 where
  DenialOf : Denial → Reason
  CausedBy : Denial → Denial → Reason
  OutOfMemory : Reason

pub data Answer : Type 0 where
  Written : Answer
  Valued : Answer
  -- the place, the counter and the deed
  Beaten : ℕ → ℕ → Deed → Answer
  -- the file's length
  Saved : ℕ → Answer
  Shown : Answer
  Denied : Reason → Answer

-- an answer, what the caller's buffer holds then, and the machine after the call
pub record Outcome : Type 0 where
  pub answer : Answer
  pub buffer : List ℕ
  pub machine : Machine

-- a denied call alters nothing
abbrev pub denied : Machine → List ℕ → Denial → Outcome
denied m buffer d = record { answer = Denied (DenialOf d); buffer = buffer; machine = m }

-- ---- looking up

-- the block that has a place, from block i on
abbrev pub occupant_from : ℕ → List (Option ℕ) → ℕ → Option ℕ
occupant_from i [] p = None
occupant_from i (None ∷ places) p = occupant_from (suc i) places p
occupant_from i (Some q ∷ places) p = cond (q == p) (Some i) (occupant_from (suc i) places p)

abbrev pub occupant : List (Option ℕ) → ℕ → Option ℕ
occupant places p = occupant_from 0 places p

-- the waiting value of a block
abbrev pub awaited : List (ℕ × Bytes) → ℕ → Option Bytes
awaited [] b = None
awaited (w ∷ ws) b = cond (w.0 == b) (Some w.1) (awaited ws b)

-- the waiting entry of a block with another value, in its turn
abbrev pub altered : List (ℕ × Bytes) → ℕ → Bytes → List (ℕ × Bytes)
altered [] b v = []
altered (w ∷ ws) b v = cond (w.0 == b) ((b, v) ∷ ws) (w ∷ altered ws b v)

-- the seal's own denial of an opening
abbrev pub unopened : ℕ → Bytes → Denial
unopened p bytes = cond (length bytes == 64) (wrong_tag p) (wrong_size Seal)

abbrev pub opened_body : ℕ → Bytes → Option (ℕ × Bytes) → Result Bytes Denial
opened_body p bytes (Some got) = Ok got.1
opened_body p bytes None = Err (unopened p bytes)

-- the body to which the record at a place opens
abbrev pub opened_at : Rules → List Bytes → ℕ → Result Bytes Denial
opened_at rules card p =
    cond (nat_lt p (length card)) (opened_body p (slice_index_or card p []) (rules.opened p (slice_index_or card p []))) (Err (place_beyond p))

-- ---- write

abbrev pub with_waiting : Machine → List (ℕ × Bytes) → Machine
with_waiting m ws = record { card = m.card; tape = m.tape; last = m.last; places = m.places; waiting = ws }

abbrev pub written : Machine → List (ℕ × Bytes) → Outcome
written m ws = record { answer = Written; buffer = []; machine = with_waiting m ws }

-- a block that waits keeps its turn; another joins at the end, where there is room
abbrev pub write_waiting : Machine → ℕ → Bytes → Option Bytes → Outcome
write_waiting m b v (Some old) = written m (altered m.waiting b v)
write_waiting m b v None = cond (nat_lt (length m.waiting) 16) (written m (m.waiting ++ (b, v) ∷ [])) (denied m [] list_full)

abbrev pub write_step : Machine → ℕ → Bytes → Outcome
write_step m b value =
    cond (nat_lt b (length m.places))
    (cond (nat_le (length value) 48) (write_waiting m b (filled value) (awaited m.waiting b)) (denied m [] value_long))
    (denied m [] block_beyond)

-- ---- read

abbrev pub valued : Machine → Bytes → Outcome
valued m v = record { answer = Valued; buffer = v; machine = m }

abbrev pub read_opened : Machine → Bytes → Result Bytes Denial → Outcome
read_opened m buffer (Ok body) = valued m (value_in body)
read_opened m buffer (Err d) = denied m buffer d

abbrev pub read_landed : Rules → Machine → Bytes → Option ℕ → Outcome
read_landed rules m buffer None = valued m zeros
read_landed rules m buffer (Some p) = read_opened m buffer (opened_at rules m.card p)

-- the waiting value, else the landed one, else zeros
abbrev pub read_waiting : Rules → Machine → Bytes → Option ℕ → Option Bytes → Outcome
read_waiting rules m buffer place (Some v) = valued m v
read_waiting rules m buffer place None = read_landed rules m buffer place

abbrev pub read_step : Rules → Machine → ℕ → Bytes → Outcome
read_step rules m b buffer =
    cond (nat_lt b (length m.places))
    (cond (length buffer == 48) (read_waiting rules m buffer (slice_index_or m.places b None) (awaited m.waiting b)) (denied m buffer buffer_length))
    (denied m buffer block_beyond)

-- ---- beat

abbrev pub with_tape : Machine → List ℕ → Machine
with_tape m ws = record { card = m.card; tape = ws; last = m.last; places = m.places; waiting = m.waiting }

-- a body is sealed at a place under the next counter, which becomes the last
abbrev pub beaten : Rules → Machine → ℕ → Bytes → Deed → List (Option ℕ) → List (ℕ × Bytes) → Outcome
beaten rules m p body deed places waiting = record {
  answer = Beaten p (m.last + 1) deed;
  buffer = [];
  machine = record {
    card = slice_set m.card p (rules.sealed p (m.last + 1) body);
    tape = m.tape;
    last = m.last + 1;
    places = places;
    waiting = waiting;
  };
}

-- an occupied place: its block is sealed again there, with the same value
abbrev pub occupied_beat : Rules → Machine → ℕ → ℕ → Result Bytes Denial → Outcome
occupied_beat rules m p b (Ok body) = beaten rules m p (body_of b (value_in body)) (Resealed b) m.places m.waiting
occupied_beat rules m p b (Err d) = denied m [] d

-- a vacant place: the first block that waits lands there, which vacates its former place; else a dummy is sealed
abbrev pub vacant_beat : Rules → Machine → ℕ → List (ℕ × Bytes) → Outcome
vacant_beat rules m p [] = beaten rules m p dummy_body Dummy m.places []
vacant_beat rules m p (w ∷ ws) = beaten rules m p (body_of w.0 w.1) (Landed w.0) (slice_set m.places w.0 (Some p)) ws

abbrev pub beat_at : Rules → Machine → ℕ → Option ℕ → Outcome
beat_at rules m p (Some b) = occupied_beat rules m p b (opened_at rules m.card p)
beat_at rules m p None = vacant_beat rules m p m.waiting

-- the place is drawn
abbrev pub beat_place : Rules → Machine → ℕ → Outcome
beat_place rules m p = cond (nat_lt p (length m.card)) (beat_at rules m p (occupant m.places p)) (denied m [] (place_beyond p))

abbrev pub beat_tape : Rules → Machine → List ℕ → Outcome
beat_tape rules m [] = denied m [] tape_spent
beat_tape rules m (w ∷ ws) =
    cond (nat_lt m.last 4294967295) (beat_place rules (with_tape m ws) (w % length m.card)) (denied m [] counter_spent)

abbrev pub beat_step : Rules → Machine → Outcome
beat_step rules m = beat_tape rules m m.tape

-- ---- save

-- the file, and the bytes after it as they were
abbrev pub saved : Machine → Bytes → Outcome
saved m buffer = record {
  answer = Saved (file_length_of m.places);
  buffer = file_of (length m.card) m.last m.places ++ drop (file_length_of m.places) buffer;
  machine = m;
}

abbrev pub save_waiting : Machine → Bytes → List (ℕ × Bytes) → Outcome
save_waiting m buffer [] = cond (nat_le (file_length_of m.places) (length buffer)) (saved m buffer) (denied m buffer buffer_length)
save_waiting m buffer (w ∷ ws) = denied m buffer blocks_wait

abbrev pub save_step : Machine → Bytes → Outcome
save_step m buffer = save_waiting m buffer m.waiting

-- ---- face

abbrev pub face_step : Machine → List ℕ → Outcome
face_step m buffer =
    cond (length buffer == length m.card)
    (record { answer = Shown; buffer = face m.card; machine = m })
    (denied m buffer buffer_length)

-- ---- any call

abbrev pub step : Rules → Machine → Call → Outcome
step rules m (Write b value) = write_step m b value
step rules m (Read b buffer) = read_step rules m b buffer
step rules m Beat = beat_step rules m
step rules m (Save buffer) = save_step m buffer
step rules m (Face buffer) = face_step m buffer

-- the numbers of the deeds, and the block that a deed is about
abbrev pub deed_number : Deed → ℕ
deed_number Dummy = 0
deed_number (Landed b) = 1
deed_number (Resealed b) = 2

abbrev pub deed_block : Deed → Option ℕ
deed_block Dummy = None
deed_block (Landed b) = Some b
deed_block (Resealed b) = Some b
