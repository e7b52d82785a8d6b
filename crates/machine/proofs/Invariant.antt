-- The invariant of made machines, and what a block holds.
use Rattle.std.proofs.Common.{◌≡◌, ℕ, ◌*◌, ◌^◌, ◌<◌, ◌≤◌, Bool, true, false, cond, ltb, List, [], length, get_or, set, Some, None, Ok, Err, Option, sym, refl, ap, ◌∙◌, arith}
use Rattle.std.specs.List.{AllByRecursion as All}
use Rattle.std.proofs.lemmas.List.{length-set, length-append, length-take, length-drop, map-set, get_or-set_same, get_or-set_other}
use Rattle.std.proofs.lemmas.Bool.{cond-true, lt-ltb, ltb-true}
use Rattle.layout.specs.Numbers.{Bytes, number}
use Rattle.layout.specs.Layouts.{block_in, value_in, filled, counter_in, face}
use Rattle.layout.proofs.Littles.{number_little}
use Rattle.denial.specs.Denials.{place_beyond}
use Rattle.seal.specs.Seals.{Rules, Lawful}
use Rattle.machine.specs.Machine.{Machine, awaited, opened_body, opened_at}
use Rattle.machine.specs.Runs.{value_at}
use Rattle.machine.proofs.Lookups.{Once}

-- a place opens to a block's body
abbrev pub Opens : Rules → List Bytes → ℕ → ℕ → Type 0
Opens rules card b p = (body : Bytes) × (opened_at rules card p ≡ Ok body) × (block_in body ≡ b)

-- a waiting block is a block of the store, with 48 bytes
abbrev pub Fitting : ℕ → ℕ × Bytes → Type 0
Fitting n w = (w.0 < n) × (length w.1 ≡ 48)

pub record Sound (rules : Rules) (m : Machine) : Type 0 where
  pub small : length m.card ≤ 1024
  pub fits : m.last < 2 ^ 32
  pub low : All (λ c. c ≤ m.last) (face m.card)
  pub some : 0 < length m.places
  pub few : length m.places ≤ 512
  pub room : 2 * length m.places ≤ length m.card
  pub apart : (b k p : ℕ) → get_or m.places b None ≡ Some p → get_or m.places k None ≡ Some p → b ≡ k
  pub opens : (b p : ℕ) → get_or m.places b None ≡ Some p → Opens rules m.card b p
  pub fitting : All (Fitting (length m.places)) m.waiting
  pub once : Once m.waiting

-- what a block holds: its waiting value, else its landed one, else zeros
abbrev pub chosen : Option Bytes → Bytes → Bytes
chosen (Some v) d = v
chosen None d = d

abbrev pub holds : Rules → Machine → ℕ → Bytes
holds rules m b = chosen (awaited m.waiting b) (value_at rules m.card (get_or m.places b None))

-- ---- lengths

pub length_filled : (s : Bytes) → length s ≤ 48 → length (filled s) ≡ 48
unfolding filled
length_filled s h = simp (length-take, length-append) (omega arith)

pub length_value : (body : Bytes) → length body ≡ 52 → length (value_in body) ≡ 48
unfolding value_in
length_value body h = simp length-drop (omega arith)

-- ---- openings

-- what opens is on the card, and is 52 bytes
pub opened_parts : (rules : Rules) → Lawful rules → (card : List Bytes) (p : ℕ) (body : Bytes) → opened_at rules card p ≡ Ok body
    → (p < length card) × (length body ≡ 52)
opened_parts rules lawful card p body e = go (ltb p (length card)) refl (rules.opened p (get_or card p [])) refl e
  where
    go : (t : Bool) → ltb p (length card) ≡ t → (o : Option (ℕ × Bytes)) → rules.opened p (get_or card p []) ≡ o
        → cond t (opened_body p (get_or card p []) o) (Err (place_beyond p)) ≡ Ok body → (p < length card) × (length body ≡ 52)
    go true h (Some got) g k =
        let same : got.1 ≡ body = cc in
        (ltb-true p (length card) h, ap length (sym same) ∙ lawful.opened_long p got.0 (get_or card p []) got.1 g)
    go true h None g k = let z : ◌≡◌ {A = ℕ} 0 1 = cc in absurd (omega arith)
    go false h o g k = let z : ◌≡◌ {A = ℕ} 0 1 = cc in absurd (omega arith)

-- the clear counter of a sealed record
pub counter_sealed : (rules : Rules) → Lawful rules → (p c : ℕ) (body : Bytes) → c < 2 ^ 32 → length body ≡ 52 → counter_in (rules.sealed p c body) ≡ c
unfolding counter_in
counter_sealed rules lawful p c body h l = ap number (lawful.counted p c body h l) ∙ number_little 4 c h

module _ (rules : Rules) (lawful : Lawful rules) (card : List Bytes) (p c : ℕ) (body : Bytes) (on_card : p < length card) (long : length body ≡ 52) where
  -- a body sealed at a place opens there, and the other places open as before
  pub opened_here : length card ≤ 1024 → c < 2 ^ 32 → opened_at rules (set card p (rules.sealed p c body)) p ≡ Ok body
  opened_here small fits =
      cond-true (ltb p (length (set card p (rules.sealed p c body)))) _ _ (lt-ltb _ _ (omega (arith, length-set card p (rules.sealed p c body))))
      ∙ ap (λ (r : Bytes). opened_body p r (rules.opened p r)) (get_or-set_same card p (rules.sealed p c body) [] on_card)
      ∙ ap (opened_body p (rules.sealed p c body)) (lawful.opens p c body (omega arith) fits long)

  pub opened_elsewhere : (q : ℕ) → (q ≡ p → ⊥) → opened_at rules (set card p (rules.sealed p c body)) q ≡ opened_at rules card q
  opened_elsewhere q ne =
      let l = length-set card p (rules.sealed p c body) in
      let g = get_or-set_other card p q (rules.sealed p c body) [] ne in
      cc

  -- the face has the new counter at that place
  pub face_sealed : c < 2 ^ 32 → face (set card p (rules.sealed p c body)) ≡ set (face card) p c
  face_sealed fits = map-set counter_in card p (rules.sealed p c body) ∙ ap (set (face card) p) (counter_sealed rules lawful p c body fits long)
