-- What a granted making has passed and leaves.
use Rattle.std.proofs.Common.{◌≡◌, ℕ, ◌+◌, ◌*◌, ◌<◌, ◌≤◌, Bool, true, false, cond, ◌&&◌, eqb, ltb, leb, List, [], length, Some, None, Option, refl, arith}
use Rattle.std.proofs.lemmas.Bool.{ltb-true, leb-true, eqb-true, and_parts}
use Rattle.layout.specs.Numbers.{Bytes}
use Rattle.denial.specs.Denials.{Denial}
use Rattle.seal.specs.Seals.{Rules}
use Rattle.machine.specs.Files.{file_blocks, file_count, file_landed, file_last, entries}
use Rattle.machine.specs.Machine.{Machine, Reason}
use Rattle.machine.specs.Makings.{Store, Open, formatted, blocks_fit, places_fit, shut, format, entries_fit, above, entries_open, resumed, resume_opened, resume_counted, file_long, resume}

-- a granted making has passed each test
passed : (t : Bool) (x : Store) (d : Denial) (card : List Bytes) (tape : List ℕ) (m : Machine) → cond t x (shut d card tape) ≡ Open m → (t ≡ true) × (x ≡ Open m)
passed true x d card tape m e = (refl, e)
passed false x d card tape m e = let z : ◌≡◌ {A = ℕ} 0 1 = cc in absurd (omega arith)

pub record Sized (n count : ℕ) : Type 0 where
  pub some : 0 < n
  pub few : n ≤ 512
  pub room : 2 * n ≤ count
  pub small : count ≤ 1024

sized : (n count : ℕ) → blocks_fit n ≡ true → places_fit n count ≡ true → Sized n count
sized n count h k =
    let p = and_parts (ltb 0 n) (leb n 512) h in
    let q = and_parts (leb (2 * n) count) (leb count 1024) k in
    record { some = ltb-true 0 n p.0; few = leb-true n 512 p.1; room = leb-true (2 * n) count q.0; small = leb-true count 1024 q.1 }

-- format
pub record Formatted (rules : Rules) (card : List Bytes) (tape : List ℕ) (n : ℕ) (m : Machine) : Type 0 where
  pub sizes : Sized n (length card)
  pub is : formatted rules card tape n ≡ m

pub format_passed : (rules : Rules) (card : List Bytes) (tape : List ℕ) (n : ℕ) (m : Machine) → format rules card tape n ≡ Open m → Formatted rules card tape n m
format_passed rules card tape n m e =
    let a = passed (blocks_fit n) _ _ card tape m e in
    let b = passed (places_fit n (length card)) _ _ card tape m a.1 in
    let o = b.1 in
    record { sizes = sized n (length card) a.0 b.0; is = cc }

-- resume
pub record Resumed (rules : Rules) (card : List Bytes) (tape : List ℕ) (file : Bytes) (m : Machine) : Type 0 where
  pub whole : length file ≡ 10 + 4 * file_landed file
  pub sizes : Sized (file_blocks file) (length card)
  pub told : length card ≡ file_count file
  pub fit : entries_fit (file_blocks file) (length card) 0 [] (entries file) ≡ true
  pub low : above (file_last file) 0 card ≡ None
  pub open_all : entries_open rules card (entries file) ≡ None
  pub is : resumed card tape file ≡ m

passed_opened : (n m : Machine) (o : Option Reason) → resume_opened n o ≡ Open m → (o ≡ None) × (n ≡ m)
passed_opened n m None e = (refl, cc)
passed_opened n m (Some r) e = let z : ◌≡◌ {A = ℕ} 0 1 = cc in absurd (omega arith)

passed_counted : (rules : Rules) (card : List Bytes) (tape : List ℕ) (file : Bytes) (m : Machine) (o : Option ℕ) → resume_counted rules card tape file o ≡ Open m
    → (o ≡ None) × (resume_opened (resumed card tape file) (entries_open rules card (entries file)) ≡ Open m)
passed_counted rules card tape file m None e = (refl, e)
passed_counted rules card tape file m (Some p) e = let z : ◌≡◌ {A = ℕ} 0 1 = cc in absurd (omega arith)

pub resume_passed : (rules : Rules) (card : List Bytes) (tape : List ℕ) (file : Bytes) (m : Machine) → resume rules card tape file ≡ Open m → Resumed rules card tape file m
resume_passed rules card tape file m e =
    let a = passed (file_long file) _ _ card tape m e in
    let b = passed (blocks_fit (file_blocks file)) _ _ card tape m a.1 in
    let c = passed (places_fit (file_blocks file) (length card) && eqb (length card) (file_count file)) _ _ card tape m b.1 in
    let d = passed (entries_fit (file_blocks file) (length card) 0 [] (entries file)) _ _ card tape m c.1 in
    let f = passed_counted rules card tape file m (above (file_last file) 0 card) d.1 in
    let g = passed_opened (resumed card tape file) m (entries_open rules card (entries file)) f.1 in
    let places = and_parts (places_fit (file_blocks file) (length card)) (eqb (length card) (file_count file)) c.0 in
    record {
      whole = eqb-true (length file) (10 + 4 * file_landed file) (and_parts (leb 10 (length file)) (eqb (length file) (10 + 4 * file_landed file)) a.0).1;
      sizes = sized (file_blocks file) (length card) b.0 places.0;
      told = eqb-true (length card) (file_count file) places.1;
      fit = d.0;
      low = f.0;
      open_all = g.0;
      is = g.1;
    }
