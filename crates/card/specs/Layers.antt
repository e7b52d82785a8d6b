-- Layers: cards whose records lie on other cards.
use Rattle.std.specs.Prelude.{◌≡◌, ℕ, ◌≤◌, List, length, Ok, Err, Result}
use Rattle.layout.specs.Numbers.{Bytes}
use Rattle.layout.specs.declared.names.Place.{Place}
use Rattle.denial.specs.Denials.{Denial}
use Rattle.card.specs.declared.fault.CardFault.{CardFault}
use Rattle.card.specs.declared.fault.CardFault.TheVariants.{Beyond}
use Rattle.card.specs.declared.split.Half.{Half}
use Rattle.card.specs.declared.split.Half.TheVariants.{Even, Odd}
use Rattle.card.specs.Cards.{get_of, put_of}
use Rattle.card.specs.Kinds.{split}

-- what a put below does, as a layer shows it: `view` makes the layer's records of those below
abbrev pub shown : (List Bytes → List Bytes) → Result (Unit {0}) Denial × List Bytes → Result (Unit {0}) Denial × List Bytes
shown view outcome = (outcome.0, view outcome.1)

-- place p of a layer lies at place q below: each call at p is the call at q
pub record LiesAt (view : List Bytes → List Bytes) (below : List Bytes) (p q : ℕ) : Type 0 where
  pub gets : (buffer : Bytes) → get_of (view below) p buffer ≡ get_of below q buffer
  pub puts : (bytes : Bytes) → put_of (view below) p bytes ≡ shown view (put_of below q bytes)

-- where a place of a layer lies; a place that the layer has not is denied with 15 and named as it was given
abbrev pub Located : (List Bytes → List Bytes) → List Bytes → Place → Result Place CardFault → Type 0
Located view below p (Ok q) = LiesAt view below p.0 q.0
Located view below p (Err fault) = (length (view below) ≤ p.0) × (fault ≡ Beyond p)

-- on which of two cards a place of a split card lies, and where
abbrev pub Halved : List Bytes → List Bytes → Place → Result Half CardFault → Type 0
Halved even odd p (Ok (Even q)) = LiesAt (λ rs. split rs odd) even p.0 q.0
Halved even odd p (Ok (Odd q)) = LiesAt (λ rs. split even rs) odd p.0 q.0
Halved even odd p (Err fault) = (length (split even odd) ≤ p.0) × (fault ≡ Beyond p)
