-- Runs: a granted making and a list of calls, and what they show.
-- All of it is told from what was called and answered and from the card's faces.
use Rattle.std.specs.Prelude.{◌≡◌, ℕ, suc, ◌+◌, ◌<◌, cond, List, [], ◌∷◌, ◌++◌, map, length, Some, None, Ok, Err, Option, Result, ◌==◌}
use Rattle.std.specs.List.{AllByRecursion}
use Rattle.layout.specs.Numbers.{Bytes}
use Rattle.layout.specs.Layouts.{value_in, zeros, filled, face}
use Rattle.denial.specs.Denials.{Denial}
use Rattle.seal.specs.Seals.{Rules, Lawful}
use Rattle.machine.specs.Files.{entries}
use Rattle.machine.specs.Machine.{Machine, Call, Write, Read, Beat, Save, Face, Answer, Written, Valued, Beaten, Saved, Shown, Denied, Outcome, opened_at, step}
use Rattle.machine.specs.Makings.{Making, Format, Resume, Store, Open, Shut, make, handed}

-- ---- transcripts

-- what one call shows: its answer, its buffer and the card's face after it
pub record Seen : Type 0 where
  pub answer : Answer
  pub buffer : List ℕ
  pub face_after : List ℕ

abbrev pub seen : Outcome → Seen
seen o = record { answer = o.answer; buffer = o.buffer; face_after = face o.machine.card }

-- a list of calls on a machine, one after the other
abbrev pub seen_calls : Rules → Machine → List Call → List Seen
seen_calls rules m [] = []
seen_calls rules m (c ∷ cs) = seen (step rules m c) ∷ seen_calls rules (step rules m c).machine cs

-- and the machine that they leave
abbrev pub ending : Rules → Machine → List Call → Machine
ending rules m [] = m
ending rules m (c ∷ cs) = ending rules (step rules m c).machine cs

-- on a shut store each call is refused for the store's reason
abbrev pub seen_on : Rules → Store → List Call → List Seen
seen_on rules (Open m) cs = seen_calls rules m cs
seen_on rules (Shut r card tape) cs = map (λ c. record { answer = Denied r; buffer = handed c; face_after = face card }) cs

-- what each granted beat adds to a list
abbrev pub at_beat : {X : Type 0} → Answer → (ℕ → ℕ → X) → List X → List X
at_beat Written f xs = xs
at_beat Valued f xs = xs
at_beat (Beaten p c d) f xs = f p c ∷ xs
at_beat (Saved n) f xs = xs
at_beat Shown f xs = xs
at_beat (Denied r) f xs = xs

-- the card's face after each granted beat
abbrev pub faces_in : List Seen → List (List ℕ)
faces_in [] = []
faces_in (s ∷ ss) = at_beat s.answer (λ p c. s.face_after) (faces_in ss)

-- the place of each granted beat
abbrev pub places_in : List Seen → List ℕ
places_in [] = []
places_in (s ∷ ss) = at_beat s.answer (λ p c. p) (places_in ss)

-- ---- sealings: bodies sealed by the store whose records are put on its card

pub record Sealing : Type 0 where
  pub place : ℕ
  pub counter : ℕ

-- format makes one for each place, from place i on
abbrev pub format_sealings : ℕ → List Bytes → List Sealing
format_sealings i [] = []
format_sealings i (r ∷ rs) = record { place = i; counter = i + 1 } ∷ format_sealings (suc i) rs

abbrev pub making_sealings : Making → List Bytes → List Sealing
making_sealings (Format n) card = format_sealings 0 card
making_sealings (Resume file) card = []

-- a granted beat makes one
abbrev pub sealings_in : List Seen → List Sealing
sealings_in [] = []
sealings_in (s ∷ ss) = at_beat s.answer (λ p c. record { place = p; counter = c }) (sealings_in ss)

-- ---- latest values

abbrev pub if_written : Answer → Bytes → Bytes → Bytes
if_written Written new old = new
if_written Valued new old = old
if_written (Beaten p c d) new old = old
if_written (Saved n) new old = old
if_written Shown new old = old
if_written (Denied r) new old = old

abbrev pub later : ℕ → Call → Answer → Bytes → Bytes
later b (Write k value) a v = cond (k == b) (if_written a (filled value) v) v
later b (Read k buffer) a v = v
later b Beat a v = v
later b (Save buffer) a v = v
later b (Face buffer) a v = v

-- the last granted write of a block, filled with zeros, or the value that it began with
abbrev pub latest_in : ℕ → Bytes → List Call → List Seen → Bytes
latest_in b v [] ss = v
latest_in b v (c ∷ cs) [] = v
latest_in b v (c ∷ cs) (s ∷ ss) = latest_in b (later b c s.answer v) cs ss

-- the listed place of a block
abbrev pub listed : List (ℕ × ℕ) → ℕ → Option ℕ
listed [] b = None
listed (e ∷ es) b = cond (e.0 == b) (Some e.1) (listed es b)

abbrev pub value_opened : Result Bytes Denial → Bytes
value_opened (Ok body) = value_in body
value_opened (Err d) = zeros

abbrev pub value_at : Rules → List Bytes → Option ℕ → Bytes
value_at rules card None = zeros
value_at rules card (Some p) = value_opened (opened_at rules card p)

-- what a block held at the making: zeros by format; by resume what its listed place opens to, and zeros if it is not listed
abbrev pub held_at : Rules → List Bytes → Making → ℕ → Bytes
held_at rules card (Format n) b = zeros
held_at rules card (Resume file) b = value_at rules card (listed (entries file) b)

-- ---- runs

-- a map file is of bytes
abbrev pub OfBytes : Making → Type 0
OfBytes (Format n) = Unit {0}
OfBytes (Resume file) = AllByRecursion (λ b. b < 256) file

pub record Run : Type 0 where
  pub rules : Rules
  pub lawful : Lawful rules
  pub card : List Bytes
  pub tape : List ℕ
  pub making : Making
  pub of_bytes : OfBytes making
  pub made : Machine
  pub granted : make rules card tape making ≡ Open made
  pub calls : List Call

abbrev pub transcript : Run → List Seen
transcript x = seen_calls x.rules x.made x.calls

-- the machine at the end of the run, and what one call more would give
abbrev pub after : Run → Machine
after x = ending x.rules x.made x.calls

abbrev pub next : Run → Call → Outcome
next x c = step x.rules (after x) c

abbrev pub blocks : Run → ℕ
blocks x = length x.made.places

abbrev pub first_face : Run → List ℕ
first_face x = face x.made.card

abbrev pub first_counter : Run → ℕ
first_counter x = x.made.last

abbrev pub faces : Run → List (List ℕ)
faces x = faces_in (transcript x)

abbrev pub beat_places : Run → List ℕ
beat_places x = places_in (transcript x)

abbrev pub sealings : Run → List Sealing
sealings x = making_sealings x.making x.card ++ sealings_in (transcript x)

abbrev pub latest : Run → ℕ → Bytes
latest x b = latest_in b (held_at x.rules x.card x.making b) x.calls (transcript x)
