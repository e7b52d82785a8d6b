-- The law of runs: what holds of every run, and of every two.
use Rattle.std.specs.Prelude.{◌≡◌, ℕ, ◌+◌, ◌-◌, ◌*◌, ◌%◌, ◌<◌, ◌≤◌, cond, ◌↔◌, List, [], ◌∷◌, ◌++◌, map, length, get_or, take, drop, replicate, Some, None, Ok, ◌≢◌, slice_index_or, slice_set}
use Rattle.std.specs.List.{range_with_len, AllByRecursion}
use Rattle.layout.specs.Numbers.{Bytes, number}
use Rattle.layout.specs.Layouts.{body_of, block_in, value_in, dummy_body, face}
use Rattle.denial.specs.Denials.{Denial}
use Rattle.seal.specs.Seals.{Rules}
use Rattle.machine.specs.Files.{landed_places, file_length_of, file_of, file_blocks, file_count, file_landed, file_last, entries}
use Rattle.machine.specs.Machine.{Machine, Call, Write, Read, Beat, Save, Face, Deed, Dummy, Landed, Resealed, Reason, DenialOf, Answer, Written, Valued, Beaten, Saved, Shown, Denied, opened_at, occupant, awaited}
use Rattle.machine.specs.Makings.{Making, Format, Resume, Open, Shut, among, make, handed, call}
use Rattle.machine.specs.Checks.{first_that_holds, in_turn, call_checks, reason_in, making_checks, reason_of}
use Rattle.machine.specs.Runs.{Run, Sealing, making_sealings, listed, after, next, blocks, first_face, first_counter, faces, beat_places, sealings, latest}

-- no granted beat
abbrev pub NoBeat : Answer → Type 0
NoBeat Written = Unit {0}
NoBeat Valued = Unit {0}
NoBeat (Beaten p c d) = ⊥
NoBeat (Saved n) = Unit {0}
NoBeat Shown = Unit {0}
NoBeat (Denied r) = Unit {0}

-- a granted beat
abbrev pub IsBeat : Answer → Type 0
IsBeat a = (p : ℕ) × (counter : ℕ) × (deed : Deed) × (a ≡ Beaten p counter deed)

-- two runs are alike in every granted read
abbrev pub Alike : Run → Run → Type 0
Alike x y = (b : ℕ) (s t : Bytes) → (next x (Read b s)).answer ≡ Valued → (next y (Read b t)).answer ≡ Valued
    → (next x (Read b s)).buffer ≡ (next y (Read b t)).buffer

-- what a making leaves: the face, the last counter, nobody waiting, so many blocks, and the place of each
abbrev pub Begun : Making → Run → Type 0
Begun (Format n) x = (first_face x ≡ range_with_len 1 (length x.card)) × (first_counter x ≡ length x.card) × (x.made.waiting ≡ [])
    × (blocks x ≡ n) × ((b : ℕ) → slice_index_or x.made.places b None ≡ None)
Begun (Resume file) x = (x.made.card ≡ x.card) × (first_counter x ≡ file_last file) × (x.made.waiting ≡ [])
    × (blocks x ≡ file_blocks file) × ((b : ℕ) → slice_index_or x.made.places b None ≡ listed (entries file) b)

-- the body that a deed seals at a place, and what it does to the maps
abbrev pub Done : Rules → Machine → Machine → ℕ → Deed → Bytes → Type 0
Done rules m n p Dummy body =
    (occupant m.places p ≡ None) × (m.waiting ≡ []) × (body ≡ dummy_body) × (n.places ≡ m.places) × (n.waiting ≡ m.waiting)
Done rules m n p (Landed b) body =
    (occupant m.places p ≡ None)
    × ((v : Bytes) × (m.waiting ≡ (b, v) ∷ n.waiting) × (body ≡ body_of b v) × (n.places ≡ slice_set m.places b (Some p)))
Done rules m n p (Resealed b) body =
    (occupant m.places p ≡ Some b)
    × ((old : Bytes) × (opened_at rules m.card p ≡ Ok old) × (body ≡ body_of b (value_in old)) × (n.places ≡ m.places) × (n.waiting ≡ m.waiting))

-- a granted beat seals one body for the place and the counter that it answers, puts it there, and moves no other record
pub record OnePut (rules : Rules) (m n : Machine) (p counter : ℕ) (deed : Deed) : Type 0 where
  pub body : Bytes
  pub body_long : length body ≡ 52
  pub on_card : p < length m.card
  pub counts_on : counter ≡ m.last + 1
  pub last_after : n.last ≡ counter
  pub tape_after : n.tape ≡ drop 1 m.tape
  pub card_after : n.card ≡ slice_set m.card p (rules.sealed p counter body)
  pub deed_done : Done rules m n p deed body

-- a call that is no granted beat leaves the card, every block's place, the tape and the last counter
pub record RestKept (m n : Machine) : Type 0 where
  pub card_kept : n.card ≡ m.card
  pub places_kept : n.places ≡ m.places
  pub tape_kept : n.tape ≡ m.tape
  pub last_kept : n.last ≡ m.last

-- the store's own reasons, and a spent tape
abbrev pub FromAbove : Reason → Type 0
FromAbove r = (d : Denial) × (r ≡ DenialOf d) × (d.number < 15)

-- each number is below all after it
abbrev pub Rising : List ℕ → Type 0
Rising [] = Unit {0}
Rising (n ∷ ns) = AllByRecursion (λ k. n < k) ns × Rising ns

-- no number stands twice
abbrev pub Apart : List ℕ → Type 0
Apart [] = Unit {0}
Apart (n ∷ ns) = AllByRecursion (λ k. n ≢ k) ns × Apart ns

abbrev pub listed_blocks : Bytes → List ℕ
listed_blocks file = map (λ (e : ℕ × ℕ). e.0) (entries file)

abbrev pub listed_places : Bytes → List ℕ
listed_places file = map (λ (e : ℕ × ℕ). e.1) (entries file)

-- the listed place opens to the listed block
abbrev pub OpensTo : Rules → List Bytes → ℕ × ℕ → Type 0
OpensTo rules card e = (body : Bytes) × (opened_at rules card e.1 ≡ Ok body) × (block_in body ≡ e.0)

-- a map file that fits its card
pub record Fits (rules : Rules) (card : List Bytes) (file : Bytes) : Type 0 where
  pub file_whole : length file ≡ 10 + 4 * file_landed file
  pub blocks_counted : (0 < file_blocks file) × (file_blocks file ≤ 512)
  pub places_counted : (2 * file_blocks file ≤ length card) × (length card ≤ 1024) × (length card ≡ file_count file)
  pub blocks_rise : Rising (listed_blocks file)
  pub blocks_below : AllByRecursion (λ b. b < file_blocks file) (listed_blocks file)
  pub places_apart : Apart (listed_places file)
  pub places_on_card : AllByRecursion (λ p. p < length card) (listed_places file)
  pub counters_low : AllByRecursion (λ c. c ≤ file_last file) (face card)
  pub places_open : AllByRecursion (OpensTo rules card) (entries file)

-- the number in the two bytes from i on
abbrev pub number_at : Bytes → ℕ → ℕ
number_at file i = number (take 2 (drop i file))

-- a machine's map file: its sizes, the last counter, the landed blocks, and then the place of each
pub record LaidOut (m : Machine) (file : Bytes) : Type 0 where
  pub blocks_told : number_at file 0 ≡ length m.places
  pub places_told : number_at file 2 ≡ length m.card
  pub landed_told : number_at file 4 ≡ length (landed_places m.places)
  pub last_told : number (take 4 (drop 6 file)) ≡ m.last
  pub entries_told : (i : ℕ) → i < number_at file 4
      → slice_index_or m.places (number_at file (10 + 2 * i)) None ≡ Some (number_at file (10 + 2 * number_at file 4 + 2 * i))

-- a granted write of a block: it keeps its turn or joins at the end, with its value filled with zeros; the others wait as they did
pub record TurnKept (m n : Machine) (b : ℕ) (value : Bytes) : Type 0 where
  pub turns : in_turn n ≡ cond (among (in_turn m) b) (in_turn m) (in_turn m ++ b ∷ [])
  pub value_waits : awaited n.waiting b ≡ Some (value ++ replicate (48 - length value) 0)
  pub others_wait : (k : ℕ) → (b ≢ k) → awaited n.waiting k ≡ awaited m.waiting k

-- the answer that a call has when it is granted
abbrev pub Own : Call → Answer → Type 0
Own (Write b value) a = a ≡ Written
Own (Read b buffer) a = a ≡ Valued
Own Beat a = IsBeat a
Own (Save buffer) a = (n : ℕ) × (a ≡ Saved n)
Own (Face buffer) a = a ≡ Shown

-- a call that only looks
abbrev pub Looks : Call → Type 0
Looks (Write b value) = ⊥
Looks (Read b buffer) = Unit {0}
Looks Beat = ⊥
Looks (Save buffer) = Unit {0}
Looks (Face buffer) = Unit {0}

abbrev pub no_sealing : Sealing
no_sealing = record { place = 0; counter = 0 }

pub record Law : Type 0 where
  -- ---- what the card shows
  -- two runs that begin with one face and one last counter show equal faces exactly when their beats have equal places
  pub equal_faces_when_equal_places : (x y : Run) → first_face x ≡ first_face y → first_counter x ≡ first_counter y
      → (faces x ≡ faces y) ↔ (beat_places x ≡ beat_places y)
  -- the places are the first words of the tape, one a granted beat, each modulo the count, whatever was called
  pub places_come_from_the_tape : (x : Run) → (beat_places x ≡ map (λ (w : ℕ). w % length x.card) (take (length (beat_places x)) x.tape))
      × ((after x).tape ≡ drop (length (beat_places x)) x.tape)
  -- two sealings have equal counters exactly when they are the same sealing
  pub no_counter_twice : (x : Run) (i j : ℕ) → i < length (sealings x) → j < length (sealings x)
      → ((get_or (sealings x) i no_sealing).counter ≡ (get_or (sealings x) j no_sealing).counter) ↔ (i ≡ j)
  -- ---- what the blocks hold
  -- a granted read answers the block's latest value
  pub reads_give_the_latest : (x : Run) (b : ℕ) (s : Bytes) → (next x (Read b s)).answer ≡ Valued → (next x (Read b s)).buffer ≡ latest x b
  -- two stores with equally many blocks are alike in every granted read exactly when each block's latest value is equal in both
  pub alike_when_latest_equal : (x y : Run) → blocks x ≡ blocks y → Alike x y ↔ ((b : ℕ) → b < blocks x → latest x b ≡ latest y b)
  -- ---- which calls are granted
  -- a call is denied by the first of its checks that holds, and granted where none does
  pub denied_by_the_first_check : (x : Run) (c : Call) → reason_in (next x c).answer ≡ first_that_holds (call_checks (after x) c)
  -- a call that is not denied answers in its own kind
  pub granted_calls_answer_in_kind : (x : Run) (c : Call) → reason_in (next x c).answer ≡ None → Own c (next x c).answer
  -- no call of a made store is denied with 15, 16 or 17
  pub never_from_below : (x : Run) (c : Call) (r : Reason) → (next x c).answer ≡ Denied r → FromAbove r
  -- a read of a block of the store into 48 bytes is granted
  pub reads_are_granted : (x : Run) (b : ℕ) (s : Bytes) → b < blocks x → length s ≡ 48 → (next x (Read b s)).answer ≡ Valued
  -- a beat is granted while a word is left and the last counter is not the highest
  pub beats_are_granted : (x : Run) → 0 < length (after x).tape → (after x).last < 4294967295 → IsBeat (next x Beat).answer
  -- a write of at most 48 bytes to a block of the store is granted while fewer than sixteen wait
  pub writes_are_granted : (x : Run) (b : ℕ) (v : Bytes) → b < blocks x → length v ≤ 48 → length (after x).waiting < 16 → (next x (Write b v)).answer ≡ Written
  -- with nobody waiting a save into enough bytes is granted
  pub saves_are_granted : (x : Run) (s : Bytes) → (after x).waiting ≡ [] → file_length_of (after x).places ≤ length s
      → (next x (Save s)).answer ≡ Saved (file_length_of (after x).places)
  -- ---- what a call does
  -- a granted beat puts one record
  pub beats_put_one_record : (x : Run) (c : Call) (p counter : ℕ) (deed : Deed) → (next x c).answer ≡ Beaten p counter deed
      → OnePut x.rules (after x) (next x c).machine p counter deed
  -- a granted write keeps every turn
  pub writes_keep_the_turn : (x : Run) (b : ℕ) (value : Bytes) → (next x (Write b value)).answer ≡ Written
      → TurnKept (after x) (next x (Write b value)).machine b value
  -- a granted save writes the machine's map file, and leaves the bytes after it
  pub saves_leave_the_bytes_after : (x : Run) (s : Bytes) (n : ℕ) → (next x (Save s)).answer ≡ Saved n
      → (take n (next x (Save s)).buffer ≡ file_of (length x.card) (after x).last (after x).places) × (drop n (next x (Save s)).buffer ≡ drop n s)
  -- the file's numbers are the sizes, the last counter and each landed block with its place
  pub saved_files_are_laid_out : (x : Run) (s : Bytes) (n : ℕ) → (next x (Save s)).answer ≡ Saved n → LaidOut (after x) (take n (next x (Save s)).buffer)
  -- a face call into as many numbers as there are places shows the card's face
  pub faces_are_shown : (x : Run) (s : List ℕ) → length s ≡ length x.card → ((next x (Face s)).answer ≡ Shown) × ((next x (Face s)).buffer ≡ face (after x).card)
  -- a call that is no granted beat leaves the card, the places, the tape and the last counter
  pub others_keep_the_rest : (x : Run) (c : Call) → NoBeat (next x c).answer → RestKept (after x) (next x c).machine
  -- a read, a save and a face leave the waiting list too
  pub looking_alters_nothing : (x : Run) (c : Call) → Looks c → (next x c).machine ≡ after x
  -- a denied call leaves everything, the buffer as it was handed in
  pub denied_calls_alter_nothing : (x : Run) (c : Call) (r : Reason) → (next x c).answer ≡ Denied r
      → ((next x c).machine ≡ after x) × ((next x c).buffer ≡ handed c)
  -- ---- makings
  -- a making is denied by the first of its checks that holds, and granted where none does
  pub makings_denied_by_the_first_check : (rules : Rules) (card : List Bytes) (tape : List ℕ) (k : Making)
      → reason_of (make rules card tape k) ≡ first_that_holds (making_checks rules card k)
  -- a granted resume was of a file that fits its card
  pub resumed_files_fit : (rules : Rules) (card : List Bytes) (tape : List ℕ) (file : Bytes) (m : Machine) → make rules card tape (Resume file) ≡ Open m
      → Fits rules card file
  -- a run begins as its making leaves it
  pub begins_as_made : (x : Run) → Begun x.making x
  -- format's sealings are the records that it leaves: at each place a dummy, sealed for it
  pub format_leaves_its_sealings : (x : Run) (n : ℕ) → x.making ≡ Format n
      → x.made.card ≡ map (λ (s : Sealing). x.rules.sealed s.place s.counter dummy_body) (making_sealings x.making x.card)
  -- a store resumed from its saved file, its card and its remaining tape is the saved machine
  pub resumed_is_saved : (x : Run) (s : Bytes) (n : ℕ) → (next x (Save s)).answer ≡ Saved n
      → make x.rules (after x).card (after x).tape (Resume (take n (next x (Save s)).buffer)) ≡ Open (after x)
  -- a denied making leaves the card and the tape
  pub denied_makings_alter_nothing : (rules : Rules) (card : List Bytes) (tape : List ℕ) (k : Making) (r : Reason) (card_after : List Bytes) (tape_after : List ℕ)
      → make rules card tape k ≡ Shut r card_after tape_after → (card_after ≡ card) × (tape_after ≡ tape)
  -- an open store answers as its machine does, and stays open
  pub open_stores_go_on : (x : Run) (c : Call)
      → call x.rules (Open (after x)) c ≡ record { answer = (next x c).answer; buffer = (next x c).buffer; store = Open (next x c).machine }
  -- a shut store answers every call with its reason, and stays as it is
  pub shut_stores_stay : (rules : Rules) (r : Reason) (card : List Bytes) (tape : List ℕ) (c : Call)
      → call rules (Shut r card tape) c ≡ record { answer = Denied r; buffer = handed c; store = Shut r card tape }
