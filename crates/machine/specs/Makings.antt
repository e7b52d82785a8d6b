-- The makings of a store, format and resume, and a store that may be shut.
use Rattle.std.specs.Prelude.{ℕ, suc, ◌+◌, ◌*◌, Bool, true, false, cond, not, ◌&&◌, ◌||◌, List, [], ◌∷◌, length, replicate, Some, None, Ok, Err, Option, Result, ◌==◌, nat_le, nat_lt, slice_set}
use Rattle.layout.specs.Numbers.{Bytes}
use Rattle.layout.specs.Layouts.{block_in, counter_in, dummy_body}
use Rattle.denial.specs.Denials.{Denial, file_length, block_count, place_count, file_entry, counter_above, entry_unopened, entry_other}
use Rattle.seal.specs.Seals.{Rules}
use Rattle.machine.specs.Files.{file_blocks, file_count, file_landed, file_last, entries}
use Rattle.machine.specs.Machine.{Machine, Call, Write, Read, Beat, Save, Face, Reason, DenialOf, CausedBy, Answer, Denied, Outcome, opened_at, step}

pub data Making : Type 0 where
  Format : ℕ → Making
  Resume : Bytes → Making

-- a store: open, or shut for a reason over its card and tape
pub data Store : Type 0 where
  Open : Machine → Store
  Shut : Reason → List Bytes → List ℕ → Store

-- ---- format

-- a dummy at each place, from place i on, with the counters from i + 1 on
abbrev pub dummies : Rules → ℕ → List Bytes → List Bytes
dummies rules i [] = []
dummies rules i (r ∷ rs) = rules.sealed i (i + 1) dummy_body ∷ dummies rules (suc i) rs

abbrev pub formatted : Rules → List Bytes → List ℕ → ℕ → Machine
formatted rules card tape n = record { card = dummies rules 0 card; tape = tape; last = length card; places = replicate n None; waiting = [] }

-- 2 and 3, which both makings test
abbrev pub blocks_fit : ℕ → Bool
blocks_fit n = nat_lt 0 n && nat_le n 512

abbrev pub places_fit : ℕ → ℕ → Bool
places_fit n count = nat_le (2 * n) count && nat_le count 1024

abbrev pub shut : Denial → List Bytes → List ℕ → Store
shut d card tape = Shut (DenialOf d) card tape

abbrev pub format : Rules → List Bytes → List ℕ → ℕ → Store
format rules card tape n =
    cond (blocks_fit n)
    (cond (places_fit n (length card)) (Open (formatted rules card tape n)) (shut place_count card tape))
    (shut block_count card tape)

-- ---- resume

abbrev pub among : List ℕ → ℕ → Bool
among [] p = false
among (q ∷ qs) p = q == p || among qs p

-- each block is at least `from` and below n, each place below the count and not among those seen
abbrev pub entries_fit : ℕ → ℕ → ℕ → List ℕ → List (ℕ × ℕ) → Bool
entries_fit n count from seen [] = true
entries_fit n count from seen (e ∷ es) =
    (nat_le from e.0 && nat_lt e.0 n) && ((nat_lt e.1 count && not (among seen e.1)) && entries_fit n count (suc e.0) (e.1 ∷ seen) es)

-- the lowest place, from place i on, whose clear counter is above the last
abbrev pub above : ℕ → ℕ → List Bytes → Option ℕ
above last i [] = None
above last i (r ∷ rs) = cond (nat_le (counter_in r) last) (above last (suc i) rs) (Some i)

-- an entry's place must open, to the entry's block
abbrev pub entry_opened : ℕ → ℕ → Result Bytes Denial → Option Reason
entry_opened b p (Ok body) = cond (block_in body == b) None (Some (DenialOf (entry_other p)))
entry_opened b p (Err d) = Some (CausedBy (entry_unopened p) d)

abbrev pub first_of : Option Reason → Option Reason → Option Reason
first_of (Some r) later = Some r
first_of None later = later

-- 6 and 7, entry by entry
abbrev pub entries_open : Rules → List Bytes → List (ℕ × ℕ) → Option Reason
entries_open rules card [] = None
entries_open rules card (e ∷ es) = first_of (entry_opened e.0 e.1 (opened_at rules card e.1)) (entries_open rules card es)

-- blocks put at their places
abbrev pub settled : List (Option ℕ) → List (ℕ × ℕ) → List (Option ℕ)
settled places [] = places
settled places (e ∷ es) = settled (slice_set places e.0 (Some e.1)) es

abbrev pub resumed : List Bytes → List ℕ → Bytes → Machine
resumed card tape file = record {
  card = card;
  tape = tape;
  last = file_last file;
  places = settled (replicate (file_blocks file) None) (entries file);
  waiting = [];
}

abbrev pub resume_opened : Machine → Option Reason → Store
resume_opened m (Some r) = Shut r m.card m.tape
resume_opened m None = Open m

abbrev pub resume_counted : Rules → List Bytes → List ℕ → Bytes → Option ℕ → Store
resume_counted rules card tape file (Some p) = shut (counter_above p) card tape
resume_counted rules card tape file None = resume_opened (resumed card tape file) (entries_open rules card (entries file))

abbrev pub file_long : Bytes → Bool
file_long file = nat_le 10 (length file) && length file == 10 + 4 * file_landed file

abbrev pub resume : Rules → List Bytes → List ℕ → Bytes → Store
resume rules card tape file =
    cond (file_long file)
    (cond (blocks_fit (file_blocks file))
    (cond (places_fit (file_blocks file) (length card) && length card == file_count file)
    (cond (entries_fit (file_blocks file) (length card) 0 [] (entries file))
    (resume_counted rules card tape file (above (file_last file) 0 card))
    (shut file_entry card tape))
    (shut place_count card tape))
    (shut block_count card tape))
    (shut file_length card tape)

-- ---- any making, and any call of a store

abbrev pub make : Rules → List Bytes → List ℕ → Making → Store
make rules card tape (Format n) = format rules card tape n
make rules card tape (Resume file) = resume rules card tape file

-- what a call answers, what its buffer holds then, and the store after it
pub record Called : Type 0 where
  pub answer : Answer
  pub buffer : List ℕ
  pub store : Store

-- the buffer that a call is handed
abbrev pub handed : Call → List ℕ
handed (Write b value) = []
handed (Read b buffer) = buffer
handed Beat = []
handed (Save buffer) = buffer
handed (Face buffer) = buffer

abbrev pub called_open : Outcome → Called
called_open o = record { answer = o.answer; buffer = o.buffer; store = Open o.machine }

-- a shut store answers its reason ahead of all checks, and stays as it is
abbrev pub call : Rules → Store → Call → Called
call rules (Open m) c = called_open (step rules m c)
call rules (Shut r card tape) c = record { answer = Denied r; buffer = handed c; store = Shut r card tape }
