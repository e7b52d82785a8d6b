-- A window: how long it is, and which places below its places are.
use Rattle.std.specs.Prelude.{◌≡◌, ℕ, zero, suc, ◌+◌, ◌-◌, ◌<◌, ◌≤◌, min, List, [], ◌∷◌, length, take, drop, slice_index_or, slice_set, refl}
use Rattle.std.proofs.Common.{sym, ap, ◌∙◌, arith}
use Rattle.std.proofs.lemmas.List.{length-take, length-drop, get_or-take, get_or-drop, drop-set-add}
use Rattle.layout.specs.Numbers.{Bytes}
use Rattle.card.specs.Kinds.{window}
use Rattle.card.specs.Layers.{LiesAt}
use Rattle.card.specs.Through.{lies_at}

pub length_window : (start len : ℕ) (rs : List Bytes) → length (window start len rs) ≡ min (length rs - start) len
length_window start len rs = length-take len (drop start rs) ∙ (ap (min len) (length-drop start rs) ∙ omega arith)

-- a place of the window is a place below, `start` further on
pub window_below : (start len p : ℕ) (rs : List Bytes) → p < length (window start len rs) → start + p < length rs
window_below start len p rs h = omega (arith, length_window start len rs)

get_or_window : (start len p : ℕ) (rs : List Bytes) → p < length (window start len rs)
    → slice_index_or (window start len rs) p [] ≡ slice_index_or rs (start + p) []
get_or_window start len p rs h =
    let l = length_window start len rs in
    get_or-take len (drop start rs) p [] (omega arith) ∙ get_or-drop start rs p []

-- the front of a list with an element replaced
pub set_in_front : {X : Type 0} (n p : ℕ) (xs : List X) (x : X) → slice_set (take n xs) p x ≡ take n (slice_set xs p x)
set_in_front zero p xs x = refl
set_in_front (suc n) p [] x = refl
set_in_front (suc n) zero (y ∷ ys) x = refl
set_in_front (suc n) (suc p) (y ∷ ys) x = ap (λ (zs : List _). y ∷ zs) (set_in_front n p ys x)

set_window : (start len p : ℕ) (rs : List Bytes) (r : Bytes) → slice_set (window start len rs) p r ≡ window start len (slice_set rs (start + p) r)
set_window start len p rs r = set_in_front len p (drop start rs) r ∙ ap (take len) (sym (drop-set-add start rs p r))

pub window_lies_at : (start len p : ℕ) (rs : List Bytes) → p < length (window start len rs) → LiesAt (window start len) rs p (start + p)
window_lies_at start len p rs h =
    lies_at (window start len) rs p (start + p) h (window_below start len p rs h) (get_or_window start len p rs h) (set_window start len p rs)

-- a window has no more records than the card below, and none that is not its
pub window_few : (start len most : ℕ) (rs : List Bytes) → length rs ≤ most → length (window start len rs) ≤ most
window_few start len most rs h = omega (arith, length_window start len rs)

pub window_whole : (start len : ℕ) (rs : List Bytes) → ((p : ℕ) → p < length rs → length (slice_index_or rs p []) ≡ 64)
    → (p : ℕ) → p < length (window start len rs) → length (slice_index_or (window start len rs) p []) ≡ 64
window_whole start len rs whole p h = ap length (get_or_window start len p rs h) ∙ whole (start + p) (window_below start len p rs h)
