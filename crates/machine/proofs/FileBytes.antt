-- A saved map file, number by number.
use Rattle.std.proofs.Common.{◌≡◌, ℕ, zero, suc, ◌+◌, ◌*◌, ◌<◌, List, [], ◌∷◌, length, get_or, take, drop, Some, None, Option, sym, refl, ap, ◌∙◌, arith}
use Rattle.std.proofs.lemmas.List.{drop-drop}
use Rattle.layout.specs.Numbers.{Bytes, number}
use Rattle.seal.specs.Seals.{Rules, Lawful}
use Rattle.machine.specs.Files.{landed_from, landed_places, file_of, numbers}
use Rattle.machine.specs.Machine.{Machine}
use Rattle.machine.specs.Law.{number_at, LaidOut}
use Rattle.machine.proofs.Invariant.{Sound, opened_parts}
use Rattle.machine.proofs.SavedFiles.{read_back, blocks_part, places_part}

-- one of the numbers of two bytes
numbers_at : (n : ℕ) (s : Bytes) (i : ℕ) → i < n → get_or (numbers n s) i 0 ≡ number (take 2 (drop (2 * i) s))
numbers_at zero s i h = absurd (omega arith)
numbers_at (suc n) s zero h = refl
numbers_at (suc n) s (suc i) h =
    let on : 2 + 2 * i ≡ 2 * suc i = omega arith in
    numbers_at n (drop 2 s) i (omega arith) ∙ ap (λ (r : Bytes). number (take 2 r)) (drop-drop (2 * i) 2 s) ∙ ap (λ (k : ℕ). number (take 2 (drop k s))) on

part_at : (n from : ℕ) (s : Bytes) (xs : List ℕ) (i : ℕ) → numbers n (drop from s) ≡ xs → i < n → number_at s (from + 2 * i) ≡ get_or xs i 0
part_at n from s xs i e h =
    ap (λ (r : Bytes). number (take 2 r)) (sym (drop-drop (2 * i) from s)) ∙ sym (numbers_at n (drop from s) i h) ∙ ap (λ (k : List ℕ). get_or k i 0) e

-- a landed block has the place that stands beside it
landed_at : (j : ℕ) (places : List (Option ℕ)) (i : ℕ) → i < length (landed_places places)
    → (k : ℕ) × (get_or (landed_from j places) i 0 ≡ j + k) × (get_or places k None ≡ Some (get_or (landed_places places) i 0))
landed_at j [] i h = absurd (omega arith)
landed_at j (None ∷ places) i h = let r = landed_at (suc j) places i h in (suc r.0, omega (arith, r.1), r.2)
landed_at j (Some p ∷ places) zero h = (0, omega arith, refl)
landed_at j (Some p ∷ places) (suc i) h = let r = landed_at (suc j) places i (omega arith) in (suc r.0, omega (arith, r.1), r.2)

pub laid_out : (rules : Rules) → Lawful rules → (m : Machine) → Sound rules m → LaidOut m (file_of (length m.card) m.last m.places)
laid_out rules lawful m s =
    let lies : (b p : ℕ) → get_or m.places b None ≡ Some p → p < length m.card =
    λ b p e. let g = s.opens b p e in (opened_parts rules lawful m.card p g.0 g.1).0 in
    let f = file_of (length m.card) m.last m.places in
    let count = length (landed_places m.places) in
    let back = read_back (length m.card) m.last m.places s.few s.small s.fits lies in
    record {
      blocks_told = back.blocks_are;
      places_told = back.count_is;
      landed_told = back.landed_are;
      last_told = back.last_is;
      entries_told = λ i h.
          let below : i < count = omega (arith, back.landed_are) in
          let r = landed_at 0 m.places i below in
          let block = part_at count 10 f (landed_from 0 m.places) i (blocks_part (length m.card) m.last m.places s.few s.small s.fits lies) below in
          let place = part_at count (10 + 2 * count) f (landed_places m.places) i (places_part (length m.card) m.last m.places s.few s.small s.fits lies) below in
          let same : number_at f (10 + 2 * i) ≡ r.0 = omega (arith, block, r.1) in
          ap (λ (b : ℕ). get_or m.places b None) same ∙ r.2
          ∙ ap Some (sym (ap (λ (n : ℕ). number_at f (10 + 2 * n + 2 * i)) back.landed_are ∙ place));
    }
