-- The entries of a map file.
use Rattle.std.proofs.Common.{◌≡◌, ℕ, zero, suc, ◌+◌, ◌*◌, ◌/◌, ◌<◌, ◌≤◌, true, false, cond, List, [], ◌∷◌, length, take, drop, Some, None, refl, ap, ◌∙◌, arith}
use Rattle.std.specs.List.{AllByRecursion as All}
use Rattle.std.specs.Simd.{first_chunks}
use Rattle.std.proofs.lemmas.List.{drop-drop, length-drop}
use Rattle.layout.specs.Numbers.{Bytes, number}
use Rattle.machine.specs.Files.{file_landed, numbers, paired, entries}
use Rattle.machine.specs.Makings.{file_long}
use Rattle.mapfile.specs.Listed.{spelled}
use Rattle.mapfile.specs.Reads.{parse_of}

-- ---- parsing

-- what `MapFile::parse` tells
pub parse_some : (bytes held : Bytes) → Some held ≡ parse_of bytes → (file_long bytes ≡ true) × (held ≡ bytes)
parse_some bytes held e =
    (elim (file_long bytes) as (λ t. Some held ≡ cond t (Some bytes) None → (t ≡ true) × (held ≡ bytes))
    [ true ↦ (λ h. (refl, (cc))) | false ↦ (λ h. absurd (let z : ◌≡◌ {A = ℕ} 0 1 = cc in omega arith)) ]) e

-- ---- two parallel arrays

-- the first pieces of two bytes
first_numbers : (n k : ℕ) (xs : Bytes) → n ≤ k → spelled (take n (first_chunks 2 k xs)) ≡ numbers n xs
first_numbers zero k xs h = refl
first_numbers (suc n) zero xs h = absurd (omega arith)
first_numbers (suc n) (suc k) xs h = ap (λ (z : List ℕ). number (take 2 xs) ∷ z) (first_numbers n k (drop 2 xs) (omega arith))

-- the pieces behind them
all_numbers : (k : ℕ) (xs : Bytes) → spelled (first_chunks 2 k xs) ≡ numbers k xs
all_numbers zero xs = refl
all_numbers (suc k) xs = ap (λ (z : List ℕ). number (take 2 xs) ∷ z) (all_numbers k (drop 2 xs))

two_on : (i : ℕ) (xs : Bytes) → drop (2 * i) (drop 2 xs) ≡ drop (2 * suc i) xs
two_on i xs = let e : 2 + 2 * i ≡ 2 * suc i = omega arith in drop-drop (2 * i) 2 xs ∙ ap (λ (k : ℕ). drop k xs) e

later_numbers : (n k m : ℕ) (xs : Bytes) → m ≡ n + k → spelled (drop n (first_chunks 2 m xs)) ≡ numbers k (drop (2 * n) xs)
later_numbers zero k m xs e = let f : m ≡ k = omega arith in ap (λ (z : ℕ). spelled (first_chunks 2 z xs)) f ∙ all_numbers k xs
later_numbers (suc n) k zero xs e = absurd (omega arith)
later_numbers (suc n) k (suc m) xs e = later_numbers n k m (drop 2 xs) (omega arith) ∙ ap (numbers k) (two_on n xs)

-- the entries are the blocks, and their places behind them
pub entries_are : (file : Bytes) (chunks : List Bytes) (n : ℕ) → length file ≡ 10 + 4 * file_landed file → n ≡ file_landed file
    → chunks ≡ first_chunks 2 (length (drop 10 file) / 2) (drop 10 file) → paired (spelled (take n chunks)) (spelled (drop n chunks)) ≡ entries file
unfolding entries
entries_are file chunks n h e f =
    let l = length-drop 10 file in
    let half : length (drop 10 file) / 2 ≡ n + n = omega arith in
    let here : spelled (take n chunks) ≡ numbers (file_landed file) (drop 10 file) =
    ap (λ z. spelled (take n z)) f ∙ (first_numbers n (length (drop 10 file) / 2) (drop 10 file) (omega arith) ∙ ap (λ (z : ℕ). numbers z (drop 10 file)) e) in
    let behind : spelled (drop n chunks) ≡ numbers (file_landed file) (drop (10 + 2 * file_landed file) file) =
    ap (λ z. spelled (drop n z)) f
    ∙ (later_numbers n n (length (drop 10 file) / 2) (drop 10 file) half
    ∙ (ap (λ (z : ℕ). numbers z (drop (2 * z) (drop 10 file))) e ∙ ap (numbers (file_landed file)) (drop-drop (2 * file_landed file) 10 file))) in
    ap (λ z. paired z (spelled (drop n chunks))) here ∙ ap (paired (numbers (file_landed file) (drop 10 file))) behind

-- ---- numbers of two bytes

small : (bs : Bytes) → All (λ b. b < 256) bs → number (take 2 bs) < 65536
small [] h = omega arith
small (a ∷ []) h = let x : a < 256 = h.0 in omega arith
small (a ∷ b ∷ bs) h = let x : a < 256 = h.0 in let y : b < 256 = h.1.0 in omega arith

kept : (n : ℕ) (bs : Bytes) → All (λ b. b < 256) bs → All (λ b. b < 256) (drop n bs)
kept zero bs h = h
kept (suc n) [] h = tt
kept (suc n) (b ∷ bs) h = kept n bs h.1

paired_small : (n : ℕ) (xs ys : Bytes) → All (λ b. b < 256) xs → All (λ b. b < 256) ys
    → All (λ e. (e.0 < 65536) × (e.1 < 65536)) (paired (numbers n xs) (numbers n ys))
paired_small zero xs ys h k = tt
paired_small (suc n) xs ys h k = ((small xs h, small ys k), paired_small n (drop 2 xs) (drop 2 ys) (kept 2 xs h) (kept 2 ys k))

-- blocks and places that are read from bytes fit two bytes
pub entries_small : (file : Bytes) → All (λ b. b < 256) file → All (λ e. (e.0 < 65536) × (e.1 < 65536)) (entries file)
unfolding entries
entries_small file h =
    paired_small (file_landed file) (drop 10 file) (drop (10 + 2 * file_landed file) file) (kept 10 file h) (kept (10 + 2 * file_landed file) file h)
