-- What a write of a block leaves that does not wait, by whether there is room.
use Rattle.std.proofs.Common.{◌≡◌, ℕ, ◌<◌, ◌≤◌, Bool, true, false, cond, eqb, ltb, leb, List, [], ◌∷◌, ◌++◌, length, Some, None, sym, refl, ap, ◌∙◌, arith}
use Rattle.std.proofs.lemmas.Bool.{cond-true, cond-false, lt-ltb, le-leb, leb-true}
use Rattle.layout.specs.Numbers.{Bytes}
use Rattle.layout.specs.Layouts.{filled, filled_of}
use Rattle.denial.specs.Denials.{list_full}
use Rattle.machine.specs.Machine.{Machine, awaited, altered, with_waiting, written, denied, write_waiting, write_step}
use Rattle.tables.specs.Views.{join_of}

-- the value that was filled is of at most 48 bytes
pub filled_some : (value v : Bytes) → Some v ≡ filled_of value → (length value ≤ 48) × (v ≡ filled value)
filled_some value v e = go (leb (length value) 48) refl e
  where
    go : (t : Bool) → leb (length value) 48 ≡ t → Some v ≡ cond t (Some (filled value)) None → (length value ≤ 48) × (v ≡ filled value)
    go true l k = (leb-true _ _ l, cc)
    go false l k = let z : ◌≡◌ {A = ℕ} 0 1 = cc in absurd (omega arith)

-- another value for a block that does not wait alters nothing
unaltered : (ws : List (ℕ × Bytes)) (b : ℕ) (v : Bytes) → awaited ws b ≡ None → altered ws b v ≡ ws
unaltered [] b v e = refl
unaltered (w ∷ ws) b v e = go (eqb w.0 b) e (unaltered ws b v)
  where
    go : (t : Bool) → cond t (Some w.1) (awaited ws b) ≡ None → (awaited ws b ≡ None → altered ws b v ≡ ws) → cond t ((b, v) ∷ ws) (w ∷ altered ws b v) ≡ w ∷ ws
    go true f rest = let z : ◌≡◌ {A = ℕ} 0 1 = cc in absurd (omega arith)
    go false f rest = ap (λ (us : List (ℕ × Bytes)). w ∷ us) (rest f)

module _ (m : Machine) (b : ℕ) (value v : Bytes) (kept after : List (ℕ × Bytes)) (h : b < length m.places) (fills : Some v ≡ filled_of value)
    (waits : None ≡ awaited m.waiting b) (same : kept ≡ altered m.waiting b v) where
  joins : write_step m b value ≡ cond (ltb (length m.waiting) 16) (written m (m.waiting ++ (b, v) ∷ [])) (denied m [] list_full)
  joins =
      let f = filled_some value v fills in
      cond-true (ltb b (length m.places)) _ _ (lt-ltb _ _ h) ∙ (cond-true (leb (length value) 48) _ _ (le-leb _ _ f.0)
      ∙ (ap (write_waiting m b (filled value)) (sym waits) ∙ ap (λ z. write_waiting m b z None) (sym f.1)))

  is_kept : kept ≡ m.waiting
  is_kept = same ∙ unaltered m.waiting b v (sym waits)

  -- it joins at the end,
  pub write_joined : (true, after) ≡ join_of kept (b, v) → written m after ≡ write_step m b value
  write_joined e =
      let f = e ∙ ap (λ ws. join_of ws (b, v)) is_kept in
      let room = sym (ap (λ (j : Bool × List (ℕ × Bytes)). j.0) f) in
      let list = ap (λ (j : Bool × List (ℕ × Bytes)). j.1) f ∙ cond-true _ _ _ room in
      ap (written m) list ∙ sym (joins ∙ cond-true _ _ _ room)

  -- or there is no room
  pub write_full : (false, after) ≡ join_of kept (b, v) → denied (with_waiting m after) [] list_full ≡ write_step m b value
  write_full e =
      let f = e ∙ ap (λ ws. join_of ws (b, v)) is_kept in
      let full = sym (ap (λ (j : Bool × List (ℕ × Bytes)). j.0) f) in
      let list = ap (λ (j : Bool × List (ℕ × Bytes)). j.1) f ∙ cond-false _ _ _ full in
      ap (λ (ws : List (ℕ × Bytes)). denied (with_waiting m ws) [] list_full) list ∙ sym (joins ∙ cond-false _ _ _ full)
