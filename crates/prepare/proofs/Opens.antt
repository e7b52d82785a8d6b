-- The loop that opens the listed places.
use Rattle.std.proofs.Common.{◌≡◌, ℕ, ◌<◌, List, length, subst, sym, ap}
use Rattle.std.specs.List.{AllByRecursion as All}
use Rattle.layout.specs.Numbers.{Bytes}
use Rattle.seal.specs.Seals.{Rules}
use Rattle.machine.specs.Makings.{entries_open}

-- the rest, which decides as the whole does, and is of places on the card
pub record Left (rules : Rules) (card : List Bytes) (es rest : List (ℕ × ℕ)) : Type 0 where
  pub decides : entries_open rules card rest ≡ entries_open rules card es
  pub on_card : All (λ e. e.1 < length card) rest

pub left_start : (rules : Rules) (card : List Bytes) (es rest : List (ℕ × ℕ)) → rest ≡ es → All (λ e. e.1 < length card) es → Left rules card es rest
left_start rules card es rest e h = record { decides = ap (entries_open rules card) e; on_card = subst (All (λ e. e.1 < length card)) (sym e) h }
