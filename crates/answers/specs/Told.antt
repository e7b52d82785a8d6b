-- The store's denials and deeds, as the machine has them.
use Rattle.std.specs.Prelude.{ℕ, List, [], ◌++◌, Some, None, Option, codes, decimal}
use Rattle.layout.specs.declared.names.Block.{Block}
use Rattle.denial.specs.Denials as table
use Rattle.denial.specs.Denials.{layer_name, file_length, block_count, place_count, file_entry, counter_above, entry_unopened, entry_other, block_beyond, value_long, blocks_wait, buffer_length, list_full, counter_spent}
use Rattle.denial.specs.declared.Layer.{Layer}
use Rattle.denial.specs.declared.Layer.TheVariants as layers
use Rattle.card.specs.Faults.{card_denial}
use Rattle.seal.specs.Faults.{seal_denial}
use Rattle.tape.specs.Faults.{tape_denial}
use Rattle.machine.specs.Machine as machine
use Rattle.machine.specs.Machine.{Reason, DenialOf, CausedBy, OutOfMemory}
use Rattle.answers.specs.declared.beat.Deed.{Deed}
use Rattle.answers.specs.declared.beat.Deed.TheVariants.{Dummy, Landed, SealedAgain}
use Rattle.answers.specs.declared.denials.Denial.{Denial}
use Rattle.answers.specs.declared.denials.Denial.TheVariants.{ByStore, ByCard, BySeal, ByTape, NoMemory}
use Rattle.answers.specs.declared.fault.StoreFault.{StoreFault}
use Rattle.answers.specs.declared.fault.StoreFault.TheVariants.{FileLength, BlockCount, PlaceCount, FileEntry, CounterAbove, Unopened, OtherBlock, BlockBeyond, ValueLong, BlocksWait, BufferLength, ListFull, CounterSpent}

abbrev pub store_denial : StoreFault → table.Denial
store_denial FileLength = file_length
store_denial BlockCount = block_count
store_denial PlaceCount = place_count
store_denial FileEntry = file_entry
store_denial (CounterAbove p) = counter_above p.0
store_denial (Unopened p f) = entry_unopened p.0
store_denial (OtherBlock p) = entry_other p.0
store_denial BlockBeyond = block_beyond
store_denial ValueLong = value_long
store_denial BlocksWait = blocks_wait
store_denial BufferLength = buffer_length
store_denial ListFull = list_full
store_denial CounterSpent = counter_spent

-- 6 holds the seal's own denial; the others hold none
abbrev pub store_reason : StoreFault → Reason
store_reason FileLength = DenialOf file_length
store_reason BlockCount = DenialOf block_count
store_reason PlaceCount = DenialOf place_count
store_reason FileEntry = DenialOf file_entry
store_reason (CounterAbove p) = DenialOf (counter_above p.0)
store_reason (Unopened p f) = CausedBy (entry_unopened p.0) (seal_denial f)
store_reason (OtherBlock p) = DenialOf (entry_other p.0)
store_reason BlockBeyond = DenialOf block_beyond
store_reason ValueLong = DenialOf value_long
store_reason BlocksWait = DenialOf blocks_wait
store_reason BufferLength = DenialOf buffer_length
store_reason ListFull = DenialOf list_full
store_reason CounterSpent = DenialOf counter_spent

abbrev pub reason_of : Denial → Reason
reason_of (ByStore f) = store_reason f
reason_of (ByCard f) = DenialOf (card_denial f)
reason_of (BySeal f) = DenialOf (seal_denial f)
reason_of (ByTape f) = DenialOf (tape_denial f)
reason_of NoMemory = OutOfMemory

-- what a reason tells
abbrev pub reason_row : Reason → Option table.Denial
reason_row (DenialOf d) = Some d
reason_row (CausedBy d cause) = Some d
reason_row OutOfMemory = None

abbrev pub reason_number : Reason → Option ℕ
reason_number (DenialOf d) = Some d.number
reason_number (CausedBy d cause) = Some d.number
reason_number OutOfMemory = None

abbrev pub reason_layer : Reason → Layer
reason_layer (DenialOf d) = d.layer
reason_layer (CausedBy d cause) = d.layer
reason_layer OutOfMemory = layers.Store

abbrev pub reason_place : Reason → Option ℕ
reason_place (DenialOf d) = d.place
reason_place (CausedBy d cause) = d.place
reason_place OutOfMemory = None

abbrev pub reason_cause : Reason → Option table.Denial
reason_cause (DenialOf d) = None
reason_cause (CausedBy d cause) = Some cause
reason_cause OutOfMemory = None

abbrev pub block_number : Block → ℕ
block_number b = b.0

abbrev pub deed_told : Deed → machine.Deed
deed_told Dummy = machine.Dummy
deed_told (Landed b) = machine.Landed b.0
deed_told (SealedAgain b) = machine.Resealed b.0

-- ---- how they print

abbrev pub deed_text : Deed → List ℕ
deed_text Dummy = codes "dummy"
deed_text (Landed b) = codes "landed " ++ decimal b.0
deed_text (SealedAgain b) = codes "sealed-again " ++ decimal b.0

abbrev pub place_text : Option ℕ → List ℕ
place_text None = []
place_text (Some p) = codes " place " ++ decimal p

-- a denial of the table: `15 card place 3`
abbrev pub table_text : table.Denial → List ℕ
table_text d = decimal d.number ++ (codes " " ++ (layer_name d.layer ++ place_text d.place))

-- a row and its cause: the denial that a row holds stands in brackets behind it; want of memory has no row
abbrev pub denied_text : Option table.Denial → Option table.Denial → List ℕ
denied_text None cause = codes "denied no memory"
denied_text (Some d) None = codes "denied " ++ table_text d
denied_text (Some d) (Some cause) = codes "denied " ++ (table_text d ++ (codes " (" ++ (table_text cause ++ codes ")")))

abbrev pub reason_text : Reason → List ℕ
reason_text r = denied_text (reason_row r) (reason_cause r)
