-- An index by place agrees with the position map.
use Rattle.std.specs.Prelude.{◌≡◌, ℕ, ◌<◌, List, length, None, Option, slice_index_or}
use Rattle.machine.specs.Machine.{occupant}

-- each entry is the occupant of its place
abbrev pub Indexes : List (Option ℕ) → List (Option ℕ) → Type 0
Indexes entries places = (p : ℕ) → p < length entries → slice_index_or entries p None ≡ occupant places p
