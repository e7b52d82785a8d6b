-- What a draw answers, and what it leaves.
use Rattle.std.specs.Prelude.{ℕ, List, [], ◌∷◌, Ok, Err, Result}
use Rattle.denial.specs.Denials.{Denial, tape_spent}

-- a draw: the first word, or 13; and the words still to come
abbrev pub draw_of : List ℕ → Result ℕ Denial × List ℕ
draw_of [] = (Err tape_spent, [])
draw_of (w ∷ ws) = (Ok w, ws)
