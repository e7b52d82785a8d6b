-- The map file: the sizes, the last counter, and two parallel arrays, the landed blocks and their places.
use Rattle.std.specs.Prelude.{ℕ, zero, suc, ◌+◌, ◌*◌, List, [], ◌∷◌, ◌++◌, length, take, drop, Some, None, Option}
use Rattle.std.specs.List.{flat_map}
use Rattle.layout.specs.Numbers.{Bytes, little, number}

-- the landed blocks from block i on, rising
abbrev pub landed_from : ℕ → List (Option ℕ) → List ℕ
landed_from i [] = []
landed_from i (None ∷ places) = landed_from (suc i) places
landed_from i (Some p ∷ places) = i ∷ landed_from (suc i) places

-- and their places
abbrev pub landed_places : List (Option ℕ) → List ℕ
landed_places [] = []
landed_places (None ∷ places) = landed_places places
landed_places (Some p ∷ places) = p ∷ landed_places places

abbrev pub file_length_of : List (Option ℕ) → ℕ
file_length_of places = 10 + 4 * length (landed_places places)

-- the file of a card of so many places, a last counter and a position map
unfoldable pub file_of : ℕ → ℕ → List (Option ℕ) → Bytes
file_of count last places =
    little 2 (length places) ++ little 2 count ++ little 2 (length (landed_places places)) ++ little 4 last
    ++ flat_map (little 2) (landed_from 0 places) ++ flat_map (little 2) (landed_places places)

-- ---- reading a file

abbrev pub file_blocks : Bytes → ℕ
file_blocks file = number (take 2 file)

abbrev pub file_count : Bytes → ℕ
file_count file = number (take 2 (drop 2 file))

abbrev pub file_landed : Bytes → ℕ
file_landed file = number (take 2 (drop 4 file))

abbrev pub file_last : Bytes → ℕ
file_last file = number (take 4 (drop 6 file))

-- n numbers of two bytes
abbrev pub numbers : ℕ → Bytes → List ℕ
numbers zero bytes = []
numbers (suc n) bytes = number (take 2 bytes) ∷ numbers n (drop 2 bytes)

abbrev pub paired : List ℕ → List ℕ → List (ℕ × ℕ)
paired [] ps = []
paired (b ∷ bs) [] = []
paired (b ∷ bs) (p ∷ ps) = (b, p) ∷ paired bs ps

-- the entries, in file order: a block and its place
unfoldable pub entries : Bytes → List (ℕ × ℕ)
entries file = paired (numbers (file_landed file) (drop 10 file)) (numbers (file_landed file) (drop (10 + 2 * file_landed file) file))
