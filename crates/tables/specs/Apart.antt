-- No two blocks have one place.
use Rattle.std.specs.Prelude.{ℕ, Bool, true, false, not, ◌&&◌, ◌||◌, List, [], ◌∷◌, Some, None, Option, ◌==◌}

-- some block has the place
abbrev pub held : List (Option ℕ) → ℕ → Bool
held [] p = false
held (None ∷ places) p = held places p
held (Some q ∷ places) p = q == p || held places p

abbrev pub apart : List (Option ℕ) → Bool
apart [] = true
apart (None ∷ places) = apart places
apart (Some q ∷ places) = not (held places q) && apart places
