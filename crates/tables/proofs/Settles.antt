-- What settling a block answers, by its tests.
use Rattle.std.proofs.Common.{◌≡◌, ℕ, ◌<◌, false, List, length, set, is_some, Some, None, Ok, Option, Result, sym, refl, ap, ◌∙◌}
use Rattle.std.proofs.lemmas.Bool.{both_ways, cond-true, lt-ltb}
use Rattle.layout.specs.declared.names.Block.{Block}
use Rattle.machine.specs.Machine.{occupant}
use Rattle.tables.specs.Views.{block_of, Unsettled, settle_vacant, settle_of}

inside : (places : List (Option ℕ)) (b p : ℕ) (o : Option ℕ) → b < length places → o ≡ occupant places p
    → settle_vacant places b p o ≡ settle_of places b p
inside places b p o h e = ap (settle_vacant places b p) e ∙ sym (cond-true _ _ _ (lt-ltb b (length places) h))

pub vacant : (o : Option Block) (places : List (Option ℕ)) (p : ℕ) → block_of o ≡ occupant places p → false ≡ is_some o → occupant places p ≡ None
vacant None places p e t = sym e
vacant (Some k) places p e t = absurd (both_ways false refl t)

pub settle_done : (places after : List (Option ℕ)) (b p : ℕ) → b < length places → occupant places p ≡ None → after ≡ set places b (Some p)
    → ◌≡◌ {A = Result (Unit {0}) Unsettled × List (Option ℕ)} (Ok tt, after) (settle_of places b p)
settle_done places after b p h e f =
    ap (λ (z : List (Option ℕ)). (let r : Result (Unit {0}) Unsettled × List (Option ℕ) = (Ok tt, z) in r)) f ∙ inside places b p None h (sym e)
