-- The checks of every call and making, in the order in which they are tried.
-- The first that holds denies, and names the reason; docs/DENIALS.md has the same table in words.
use Rattle.std.specs.Prelude.{ℕ, suc, ◌+◌, ◌*◌, Bool, true, cond, not, ◌&&◌, ◌||◌, List, [], ◌∷◌, ◌++◌, map, length, Some, None, Ok, Err, Option, Result, ◌==◌, nat_le, nat_lt}
use Rattle.layout.specs.Numbers.{Bytes}
use Rattle.layout.specs.Layouts.{block_in, counter_in}
use Rattle.denial.specs.Denials.{Denial, file_length, block_count, place_count, file_entry, counter_above, entry_unopened, entry_other, block_beyond, value_long, blocks_wait, buffer_length, list_full, tape_spent, counter_spent}
use Rattle.seal.specs.Seals.{Rules}
use Rattle.machine.specs.Files.{file_length_of, file_blocks, file_count, file_landed, file_last, entries}
use Rattle.machine.specs.Machine.{Machine, Call, Write, Read, Beat, Save, Face, Reason, DenialOf, CausedBy, Answer, Written, Valued, Beaten, Saved, Shown, Denied, opened_at}
use Rattle.machine.specs.Makings.{Making, Format, Resume, Store, Open, Shut, among}

-- a condition that denies, and the reason that is then told
abbrev pub Check : Type 0
Check = Bool × Reason

abbrev pub first_that_holds : List Check → Option Reason
first_that_holds [] = None
first_that_holds (c ∷ cs) = cond c.0 (Some c.1) (first_that_holds cs)

abbrev pub denies : Bool → Denial → Check
denies condition d = (condition, DenialOf d)

-- ---- calls

-- the blocks that wait, in turn order
abbrev pub in_turn : Machine → List ℕ
in_turn m = map (λ (w : ℕ × Bytes). w.0) m.waiting

abbrev pub call_checks : Machine → Call → List Check
call_checks m (Write b value) =
    denies (nat_le (length m.places) b) block_beyond
    ∷ denies (nat_lt 48 (length value)) value_long
    ∷ denies (nat_le 16 (length m.waiting) && not (among (in_turn m) b)) list_full
    ∷ []
call_checks m (Read b buffer) =
    denies (nat_le (length m.places) b) block_beyond
    ∷ denies (not (length buffer == 48)) buffer_length
    ∷ []
call_checks m Beat =
    denies (length m.tape == 0) tape_spent
    ∷ denies (m.last == 4294967295) counter_spent
    ∷ []
call_checks m (Save buffer) =
    denies (nat_lt 0 (length m.waiting)) blocks_wait
    ∷ denies (nat_lt (length buffer) (file_length_of m.places)) buffer_length
    ∷ []
call_checks m (Face buffer) =
    denies (not (length buffer == length m.card)) buffer_length
    ∷ []

-- why an answer denies
abbrev pub reason_in : Answer → Option Reason
reason_in Written = None
reason_in Valued = None
reason_in (Beaten p c d) = None
reason_in (Saved n) = None
reason_in Shown = None
reason_in (Denied r) = Some r

-- ---- makings

abbrev pub blocks_wrong : ℕ → Bool
blocks_wrong n = n == 0 || nat_lt 512 n

abbrev pub places_wrong : ℕ → ℕ → Bool
places_wrong n count = nat_lt count (2 * n) || nat_lt 1024 count

-- an entry: its block is below `from`, which is one above the block before, or is N or more; or its place is P or more, or was listed before
abbrev pub entry_wrong : ℕ → ℕ → ℕ → List ℕ → ℕ × ℕ → Bool
entry_wrong n count from before e = (nat_lt e.0 from || nat_le n e.0) || (nat_le count e.1 || among before e.1)

abbrev pub entry_checks : ℕ → ℕ → ℕ → List ℕ → List (ℕ × ℕ) → List Check
entry_checks n count from before [] = []
entry_checks n count from before (e ∷ es) =
    denies (entry_wrong n count from before e) file_entry ∷ entry_checks n count (suc e.0) (e.1 ∷ before) es

-- each place from place i on: its clear counter is above the last
abbrev pub counter_checks : ℕ → ℕ → List Bytes → List Check
counter_checks last i [] = []
counter_checks last i (r ∷ rs) = denies (nat_lt last (counter_in r)) (counter_above i) ∷ counter_checks last (suc i) rs

-- a listed place does not open, which tells the seal's own denial too, or it opens to another block
abbrev pub opening_check : ℕ → ℕ → Result Bytes Denial → Check
opening_check b p (Err d) = (true, CausedBy (entry_unopened p) d)
opening_check b p (Ok body) = denies (not (block_in body == b)) (entry_other p)

abbrev pub opening_checks : Rules → List Bytes → List (ℕ × ℕ) → List Check
opening_checks rules card [] = []
opening_checks rules card (e ∷ es) = opening_check e.0 e.1 (opened_at rules card e.1) ∷ opening_checks rules card es

abbrev pub making_checks : Rules → List Bytes → Making → List Check
making_checks rules card (Format n) =
    denies (blocks_wrong n) block_count
    ∷ denies (places_wrong n (length card)) place_count
    ∷ []
making_checks rules card (Resume file) =
    denies (nat_lt (length file) 10 || not (length file == 10 + 4 * file_landed file)) file_length
    ∷ denies (blocks_wrong (file_blocks file)) block_count
    ∷ denies (places_wrong (file_blocks file) (length card) || not (length card == file_count file)) place_count
    ∷ entry_checks (file_blocks file) (length card) 0 [] (entries file)
    ++ (counter_checks (file_last file) 0 card ++ opening_checks rules card (entries file))

-- why a store is shut
abbrev pub reason_of : Store → Option Reason
reason_of (Open m) = None
reason_of (Shut r card tape) = Some r
