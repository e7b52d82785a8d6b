-- What a transcript tells, and what the definition says that a run shows.
use Rattle.std.specs.Prelude.{◌≡◌, ℕ, ◌+◌, ◌⊎◌, List, [], ◌∷◌, ◌++◌, map, length, take, replicate, Some, None, Ok, Err, vec_items, Option, Result}
use Rattle.std.specs.declared.alloc.AllocError.{AllocError}
use Rattle.std.specs.Option.{option_map}
use Rattle.layout.specs.Numbers.{Bytes}
use Rattle.layout.specs.Layouts.{face}
use Rattle.denial.specs.Denials.{place_number}
use Rattle.seal.specs.Seals.{Rules}
use Rattle.machine.specs.Machine as machine
use Rattle.machine.specs.Makings as making
use Rattle.machine.specs.Makings.{Store, Open, Shut, Called, call}
use Rattle.machine.specs.Runs as law
use Rattle.machine.specs.Runs.{Seen, seen_on, at_beat, faces_in, places_in, sealings_in, making_sealings}
use Rattle.store.specs.Made.{card_of}
use Rattle.runs.specs.Told.{Answer, call_told, told_seen}
use Rattle.runs.specs.declared.calls.Call.{Call}
use Rattle.runs.specs.declared.calls.Call.TheVariants.{Beat}
use Rattle.runs.specs.declared.transcript.Notes.{Notes}
use Rattle.runs.specs.declared.transcript.Begun.{Begun}
use Rattle.runs.specs.declared.transcript.Sealing.{Sealing}

-- ---- what a transcript tells

-- how a run begins: the card's face and the last counter after the making
pub record Beginning : Type 0 where
  pub face : List ℕ
  pub counter : ℕ

pub record Told : Type 0 where
  -- how the run begins; none after a denied making
  pub begun : Option Beginning
  -- what each call answered, and what its buffer held then
  pub answers : List (machine.Answer × List ℕ)
  -- the card's face after each granted beat
  pub faces : List (List ℕ)
  -- the place of each granted beat
  pub places : List ℕ
  -- the sealings: the making's, then one a granted beat
  pub sealings : List law.Sealing

-- call by call; an answer too many is told as a beat's
abbrev pub answers_told : List Call → List Answer → List (machine.Answer × List ℕ)
answers_told [] [] = []
answers_told [] (a ∷ rest) = told_seen Beat a ∷ answers_told [] rest
answers_told (c ∷ cs) [] = []
answers_told (c ∷ cs) (a ∷ rest) = told_seen c a ∷ answers_told cs rest

abbrev pub sealing_told : Sealing → law.Sealing
sealing_told s = record { place = s.place.0; counter = s.counter }

abbrev pub begun_told : Option Begun → Option Beginning
begun_told o = option_map (λ b. record { face = vec_items b.face; counter = b.counter }) o

abbrev pub notes_told : List Call → Notes → Told
notes_told cs t = record {
  begun = begun_told t.begun;
  answers = answers_told cs (vec_items t.answers);
  faces = map vec_items (vec_items t.faces);
  places = map place_number (vec_items t.places);
  sealings = map sealing_told (vec_items t.sealings);
}

-- ---- what a run shows

abbrev pub answered : Seen → machine.Answer × List ℕ
answered s = (s.answer, s.buffer)

-- what a making shows
pub record Start : Type 0 where
  pub begun : Option Beginning
  pub sealings : List law.Sealing

-- what the making shows, and then what the calls show
abbrev pub shown_by : Start → List Seen → Told
shown_by first ss = record { begun = first.begun; answers = map answered ss; faces = faces_in ss; places = places_in ss; sealings = first.sealings ++ sealings_in ss }

-- how a run on a store begins; on a shut one there is none
abbrev pub begun_of : Store → Option Beginning
begun_of (Open m) = Some (record { face = face m.card; counter = m.last })
begun_of (Shut r card tape) = None

-- a granted making's sealings; a denied one has none
abbrev pub first_sealings : Store → making.Making → List Bytes → List law.Sealing
first_sealings (Open m) k card = making_sealings k card
first_sealings (Shut r records tape) k card = []

abbrev pub first_shown : Store → making.Making → List Bytes → Start
first_shown s k card = record { begun = begun_of s; sealings = first_sealings s k card }

-- the store that a list of calls leaves
abbrev pub left_on : Rules → Store → List machine.Call → Store
left_on rules s [] = s
left_on rules s (c ∷ cs) = left_on rules (call rules s c).store cs

-- the transcript is what the run shows, and the store after it what its calls leave;
-- where memory ran out, the store is what some first calls leave
abbrev pub Followed : {X : Type 0} → (List Call → X → Told) → Rules → Store → Start → List Call → Store → Result X AllocError → Type 0
Followed told rules made first cs after (Ok t) =
    (told cs t ≡ shown_by first (seen_on rules made (map call_told cs))) × (after ≡ left_on rules made (map call_told cs))
Followed told rules made first cs after (Err e) = (n : ℕ) × (after ≡ left_on rules made (map call_told (take n cs)))

-- ---- one call more

-- what one call of a store shows
abbrev pub seen_of : Called → Seen
seen_of d = record { answer = d.answer; buffer = d.buffer; face_after = face (card_of d.store) }

-- what a face call leaves in as many zeros as the card has places
abbrev pub face_on : Store → List ℕ
face_on (Open m) = face m.card
face_on (Shut r card tape) = replicate (length card) 0

-- what a granted beat adds to a transcript
pub record BeatNoted (a : machine.Answer) (s : Store) (t u : Notes) : Type 0 where
  pub begun_stays : u.begun ≡ t.begun
  pub answers_stay : vec_items u.answers ≡ vec_items t.answers
  pub faces_more : map vec_items (vec_items u.faces) ≡ map vec_items (vec_items t.faces) ++ at_beat a (λ p c. face_on s) []
  pub places_more : map place_number (vec_items u.places) ≡ map place_number (vec_items t.places) ++ at_beat a (λ p c. p) []
  pub sealings_more : map sealing_told (vec_items u.sealings) ≡ map sealing_told (vec_items t.sealings) ++ at_beat a (λ p c. record { place = p; counter = c }) []

-- a transcript of some calls, with one call more
pub record OneMore (c : Call) (d : Called) (t u : Notes) : Type 0 where
  pub answer_more : length (vec_items u.answers) ≡ length (vec_items t.answers) + 1
  pub shows_more : (cs : List Call) (first : Start) (ss : List Seen) → length cs ≡ length (vec_items t.answers)
      → notes_told cs t ≡ shown_by first ss → notes_told (cs ++ c ∷ []) u ≡ shown_by first (ss ++ seen_of d ∷ [])

-- a call and what it shows, or want of memory before or after the call
abbrev pub CallNoted : Call → Called → Store → Store → Notes → Notes → Result (Unit {0}) AllocError → Type 0
CallNoted c d before after t u (Ok x) = (after ≡ d.store) × OneMore c d t u
CallNoted c d before after t u (Err e) = (after ≡ before) ⊎ (after ≡ d.store)
