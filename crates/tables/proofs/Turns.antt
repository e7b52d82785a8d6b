-- Look-ups in the waiting list and the position map, as loops make them.
use Rattle.std.proofs.Common.{◌≡◌, ℕ, suc, ◌+◌, ◌<◌, Bool, true, false, cond, eqb, List, [], ◌∷◌, ◌++◌, length, get_or, set, Some, None, Option, sym, refl, ap, ◌∙◌, subst, add-one, arith}
use Rattle.std.specs.List.{position, position_from, find}
use Rattle.std.specs.Option.{option_map}
use Rattle.std.proofs.lemmas.List.{length-map, map-append, map-set, get_or-map}
use Rattle.std.proofs.lemmas.Iterator.Adapters.{position_from-zero}
use Rattle.std.proofs.lemmas.Bool.{eqb-true}
use Rattle.layout.specs.declared.body.Body.{Body}
use Rattle.layout.specs.declared.names.Place.{Place}
use Rattle.layout.specs.Numbers.{Bytes}
use Rattle.machine.specs.Machine.{awaited, altered, occupant_from, occupant}
use Rattle.tables.specs.Views.{waited, placed, entry_of, turn_from, turn}

-- what the turn of a block says of the other look-ups
pub record Found (ws : List (ℕ × Bytes)) (b k : ℕ) : Type 0 where
  pub within : k < length ws
  pub names : (get_or ws k (0, [])).0 ≡ b
  pub value : awaited ws b ≡ Some (get_or ws k (0, [])).1
  pub change : (v : Bytes) → altered ws b v ≡ set ws k (b, v)

pub absent : (j : ℕ) (ws : List (ℕ × Bytes)) (b : ℕ) → turn_from j ws b ≡ None → awaited ws b ≡ None
absent j [] b e = refl
absent j (w ∷ ws) b e =
    (elim (eqb w.0 b) as (λ t. cond t (Some j) (turn_from (suc j) ws b) ≡ None → cond t (Some w.1) (awaited ws b) ≡ None)
    [ true ↦ (λ h. cc) | false ↦ (λ h. absent (suc j) ws b h) ]) e

pub present : (j : ℕ) (ws : List (ℕ × Bytes)) (b i : ℕ) → turn_from j ws b ≡ Some i → (k : ℕ) × (i ≡ j + k) × Found ws b k
present j [] b i e = absurd (let z : ◌≡◌ {A = ℕ} 0 1 = cc in omega arith)
present j (w ∷ ws) b i e =
    (elim (eqb w.0 b) as (λ t. eqb w.0 b ≡ t → cond t (Some j) (turn_from (suc j) ws b) ≡ Some i → cond t (Some w.1) (awaited ws b) ≡ awaited (w ∷ ws) b → ((v : Bytes) → cond t ((b, v) ∷ ws) (w ∷ altered ws b v) ≡ altered (w ∷ ws) b v) → (k : ℕ) × (i ≡ j + k) × Found (w ∷ ws) b k) [
      | true ↦ (λ t h a c. let q : j ≡ i = cc in (0, omega arith, record { within = omega arith; names = eqb-true _ _ t; value = sym a; change = λ v. sym (c v) }))
      | false ↦ (λ t h a c. let p = present (suc j) ws b i h in (suc p.0, (let q = p.1 in omega arith), record { within = (let q = p.2.within in omega arith); names = p.2.names; value = sym a ∙ p.2.value; change = λ v. sym (c v) ∙ ap (λ zs. w ∷ zs) (p.2.change v) }))
    ])
    refl e refl (λ v. refl)

pub present_at : (ws : List (ℕ × Bytes)) (b i : ℕ) → turn ws b ≡ Some i → Found ws b i
present_at ws b i e = let p = present 0 ws b i e in let q : p.0 ≡ i = (let r = p.1 in omega arith) in subst (λ k. Found ws b k) q p.2

-- the test of a search for a block
abbrev pub of_block : ℕ → Body → Bool
of_block b x = eqb x.block.0 b

-- a search from the front finds the turn of a block
turn_searched : (i : ℕ) (xs : List Body) (b : ℕ) → position_from (of_block b) i xs ≡ turn_from i (waited xs) b
turn_searched i [] b = refl
turn_searched i (x ∷ xs) b =
    ap (λ (n : ℕ). cond (of_block b x) (Some i) (position_from (of_block b) n xs)) (add-one i) ∙ ap (cond (of_block b x) (Some i)) (turn_searched (suc i) xs b)

pub turn_is : (xs : List Body) (b : ℕ) → position (of_block b) xs ≡ turn (waited xs) b
turn_is xs b = position_from-zero (of_block b) xs ∙ turn_searched 0 xs b

-- the first answer, else the second
abbrev either_of : Option ℕ → Option ℕ → Option ℕ
either_of (Some i) o = Some i
either_of None o = o

-- a search over two pieces goes on in the second
turn_joined : (i : ℕ) (xs ys : List (ℕ × Bytes)) (b : ℕ) → turn_from i (xs ++ ys) b ≡ either_of (turn_from i xs b) (turn_from (i + length xs) ys b)
turn_joined i [] ys b = let e : i ≡ i + 0 = omega arith in ap (λ (n : ℕ). turn_from n ys b) e
turn_joined i (x ∷ xs) ys b =
    let e : suc i + length xs ≡ i + length (x ∷ xs) = omega arith in
    let rest = turn_joined (suc i) xs ys b ∙ ap (λ (n : ℕ). either_of (turn_from (suc i) xs b) (turn_from n ys b)) e in
    elim (eqb x.0 b) as (λ t. cond t (Some i) (turn_from (suc i) (xs ++ ys) b) ≡ either_of (cond t (Some i) (turn_from (suc i) xs b)) (turn_from (i + length (x ∷ xs)) ys b))
    [ true ↦ refl | false ↦ rest ]

-- a search that counts from further on
turn_later : (k i : ℕ) (ws : List (ℕ × Bytes)) (b : ℕ) → turn_from (k + i) ws b ≡ option_map (λ j. k + j) (turn_from i ws b)
turn_later k i [] b = refl
turn_later k i (w ∷ ws) b =
    let e : suc (k + i) ≡ k + suc i = omega arith in
    let rest = ap (λ (n : ℕ). turn_from n ws b) e ∙ turn_later k (suc i) ws b in
    elim (eqb w.0 b) as (λ t. cond t (Some (k + i)) (turn_from (suc (k + i)) ws b) ≡ option_map (λ j. k + j) (cond t (Some i) (turn_from (suc i) ws b)))
    [ true ↦ refl | false ↦ rest ]

-- what two slices tell of the slots that they are
module _ (front back slots : List Body) (b : ℕ) (are : front ++ back ≡ slots) where
  both : turn (waited slots) b ≡ either_of (turn (waited front) b) (option_map (λ j. length front + j) (turn (waited back) b))
  both =
      let n = length-map front entry_of in
      ap (λ (z : List Body). turn (waited z) b) (sym are)
      ∙ (ap (λ (z : List (ℕ × Bytes)). turn z b) (map-append entry_of front back)
      ∙ (turn_joined 0 (waited front) (waited back) b
      ∙ (ap (λ (k : ℕ). either_of (turn (waited front) b) (turn_from k (waited back) b)) (let e : 0 + length (waited front) ≡ length front + 0 = omega arith in e)
      ∙ ap (either_of (turn (waited front) b)) (turn_later (length front) 0 (waited back) b))))

  pub turn_in_front : (i : ℕ) → Some i ≡ turn (waited front) b → Some i ≡ turn (waited slots) b
  turn_in_front i h = ap (λ o. either_of o (option_map (λ j. length front + j) (turn (waited back) b))) h ∙ sym both

  pub turn_in_back : (i : ℕ) → None ≡ turn (waited front) b → Some i ≡ turn (waited back) b → Some (length front + i) ≡ turn (waited slots) b
  turn_in_back i h k =
      ap (option_map (λ j. length front + j)) k ∙ (ap (λ o. either_of o (option_map (λ j. length front + j) (turn (waited back) b))) h ∙ sym both)

  pub turn_nowhere : None ≡ turn (waited front) b → None ≡ turn (waited back) b → None ≡ turn (waited slots) b
  turn_nowhere h k =
      ap (option_map (λ j. length front + j)) k ∙ (ap (λ o. either_of o (option_map (λ j. length front + j) (turn (waited back) b))) h ∙ sym both)

-- and its value
pub awaited_is : (xs : List Body) (b : ℕ) → option_map (λ x. x.value) (find (of_block b) xs) ≡ awaited (waited xs) b
awaited_is [] b = refl
awaited_is (x ∷ xs) b =
    elim (of_block b x) as (λ t. option_map (λ (y : Body). y.value) (cond t (Some x) (find (of_block b) xs)) ≡ cond t (Some x.value) (awaited (waited xs) b))
    [ true ↦ refl | false ↦ awaited_is xs b ]

-- the test of a search for a place
abbrev pub lies_at : ℕ → Option Place → Bool
lies_at p None = false
lies_at p (Some q) = eqb q.0 p

-- a search from the front finds the occupant of a place
occupant_searched : (i : ℕ) (xs : List (Option Place)) (p : ℕ) → position_from (lies_at p) i xs ≡ occupant_from i (placed xs) p
occupant_searched i [] p = refl
occupant_searched i (None ∷ xs) p = ap (λ (n : ℕ). position_from (lies_at p) n xs) (add-one i) ∙ occupant_searched (suc i) xs p
occupant_searched i (Some q ∷ xs) p =
    ap (λ (n : ℕ). cond (eqb q.0 p) (Some i) (position_from (lies_at p) n xs)) (add-one i) ∙ ap (cond (eqb q.0 p) (Some i)) (occupant_searched (suc i) xs p)

pub occupant_is : (xs : List (Option Place)) (p : ℕ) → position (lies_at p) xs ≡ occupant (placed xs) p
occupant_is xs p = position_from-zero (lies_at p) xs ∙ occupant_searched 0 xs p

pub unaltered : (j : ℕ) (ws : List (ℕ × Bytes)) (b : ℕ) (v : Bytes) → turn_from j ws b ≡ None → altered ws b v ≡ ws
unaltered j [] b v e = refl
unaltered j (w ∷ ws) b v e =
    (elim (eqb w.0 b) as (λ t. cond t (Some j) (turn_from (suc j) ws b) ≡ None → cond t ((b, v) ∷ ws) (w ∷ altered ws b v) ≡ w ∷ ws)
    [ true ↦ (λ h. absurd (let z : ◌≡◌ {A = ℕ} 0 1 = cc in omega arith)) | false ↦ (λ h. ap (λ z. w ∷ z) (unaltered (suc j) ws b v h)) ]) e

-- the slot of a block that waits, changed
module _ (xs : List Body) (ws : List (ℕ × Bytes)) (b i : ℕ) (x : Body) (is : waited xs ≡ ws) (at : Some i ≡ turn ws b) (read : x ≡ get_or xs i x) where
  found : Found (waited xs) b i
  found = present_at (waited xs) b i (ap (λ z. turn z b) is ∙ sym at)

  entry : get_or (waited xs) i (0, []) ≡ entry_of x
  entry =
      let l = length-map xs entry_of in
      let w = found.within in
      get_or-map entry_of xs i x (0, []) (omega arith) ∙ ap entry_of (sym read)

  pub slot_value : (old : Bytes) → old ≡ x.value → Some old ≡ awaited ws b
  slot_value old e = ap Some (e ∙ ap (λ w. w.1) (sym entry)) ∙ (sym found.value ∙ ap (λ z. awaited z b) is)

  pub slot_change : (v w : Bytes) → v ≡ w → waited (set xs i (record { block = x.block; value = v })) ≡ altered ws b w
  slot_change v w e =
      map-set entry_of xs i (record { block = x.block; value = v })
      ∙ (ap (λ (n : ℕ). set (waited xs) i (n, v)) (ap (λ u. u.0) (sym entry) ∙ found.names)
      ∙ (ap (λ z. set (waited xs) i (b, z)) e ∙ (sym (found.change w) ∙ ap (λ z. altered z b w) is)))
