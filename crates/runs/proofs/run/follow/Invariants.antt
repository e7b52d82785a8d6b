use Rattle.std.proofs.Common.{◌≡◌, List, map, length, take, vec_items}
use Rattle.layout.specs.Numbers.{Bytes}
use Rattle.machine.specs.Runs.{seen_on}
use Rattle.runs.specs.Told.{making_told, call_told}
use Rattle.runs.specs.Shown.{notes_told, shown_by, first_shown, left_on}
use Rattle.runs.proofs.run.follow.Given as goal

-- the seal stays, as many answers as calls, the store that they leave, and what they show
abbrev pub invariant-loop-call : goal.invariant-loop-call
invariant-loop-call g l =
    (l.store.seal ≡ l.initial.store.seal)
    × (length (vec_items l.notes.answers) ≡ l.call-index)
    × (l.store.store
    ≡ left_on (g.S.Seal.rules l.initial.store.seal) l.initial.store.store (map call_told (take l.call-index l.calls)))
    × ((card : List Bytes) → length card ≡ l.count → notes_told (take l.call-index l.calls) l.notes
    ≡ shown_by (first_shown l.initial.store.store (making_told l.making) card)
    (seen_on (g.S.Seal.rules l.initial.store.seal) l.initial.store.store (map call_told (take l.call-index l.calls))))
