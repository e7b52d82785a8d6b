-- The entries of a map file that are left, as numbers.
use Rattle.std.specs.Prelude.{ℕ, List, map}
use Rattle.layout.specs.Numbers.{Bytes, number}
use Rattle.layout.specs.declared.names.Block.{Block}
use Rattle.layout.specs.declared.names.Place.{Place}
use Rattle.machine.specs.Files.{paired}
use Rattle.mapfile.specs.declared.entries.Entries.{Entries}

-- the number of each of some pieces of a file
abbrev pub spelled : List Bytes → List ℕ
spelled pieces = map number pieces

-- a block and its place, as numbers
abbrev pub entry_numbers : Block × Place → ℕ × ℕ
entry_numbers e = (e.0.0, e.1.0)

abbrev pub entries_left : Entries → List (ℕ × ℕ)
entries_left es = paired (spelled es.blocks.now) (spelled es.places.now)
