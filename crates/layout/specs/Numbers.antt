-- Unsigned numbers as bytes, the lowest byte first.
use Rattle.std.specs.Prelude.{ℕ, zero, suc, ◌+◌, ◌*◌, ◌/◌, ◌%◌, List, [], ◌∷◌}

abbrev pub Bytes : Type 0
Bytes = List ℕ

-- the lowest k bytes of a number
abbrev pub little : ℕ → ℕ → Bytes
little zero n = []
little (suc k) n = n % 256 ∷ little k (n / 256)

-- the number that bytes spell
abbrev pub number : Bytes → ℕ
number [] = 0
number (b ∷ bs) = b + 256 * number bs
