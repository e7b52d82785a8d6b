-- Words read from bytes. Assumes nothing.
use Rattle.std.proofs.Common.{◌≡◌, ℕ, zero, suc, ◌+◌, ◌*◌, ◌^◌, ◌<◌, ◌≤◌, [], ◌∷◌, ◌++◌, List, length, get_or, take, drop, set, ap, ◌∙◌, arith}
use Rattle.std.specs.Simd.{first_chunks}
use Rattle.std.specs.Int.{w32, w64, from_le_bytes}
use Rattle.std.proofs.lemmas.List.{drop-drop, length-take, length-drop}
use Rattle.layout.specs.Numbers.{Bytes, number}

-- piece i of the first k pieces of n bytes
piece_at : (n k i : ℕ) (bs : Bytes) → i < k → get_or (first_chunks n k bs) i [] ≡ take n (drop (i * n) bs)
piece_at n zero i bs h = absurd (omega arith)
piece_at n (suc k) zero bs h =
    let e : 0 ≡ 0 * n = omega arith in
    ap (λ (j : ℕ). take n (drop j bs)) e
piece_at n (suc k) (suc i) bs h =
    let e : n + i * n ≡ suc i * n = omega arith in
    piece_at n k i (drop n bs) (omega arith) ∙ ap (take n) (drop-drop (i * n) n bs ∙ ap (λ (j : ℕ). drop j bs) e)

-- what the language's own conversions add up, at the two widths in use
number_of_four : (bs : Bytes) → length bs ≡ 4 → from_le_bytes w32 bs ≡ number bs
number_of_four (a ∷ b ∷ c ∷ d ∷ []) h = omega arith
number_of_four _ h = absurd (omega arith)

number_of_eight : (bs : Bytes) → length bs ≡ 8 → from_le_bytes w64 bs ≡ number bs
number_of_eight (a ∷ b ∷ c ∷ d ∷ e ∷ f ∷ g ∷ h ∷ []) l = omega arith
number_of_eight _ l = absurd (omega arith)

-- and of piece i of the whole pieces
pub word_of_four : (ps : List Bytes) (i k : ℕ) (bs : Bytes) → ps ≡ first_chunks 4 k bs → i < k → k * 4 ≤ length bs
    → from_le_bytes w32 (get_or ps i []) ≡ number (take 4 (drop (i * 4) bs))
word_of_four ps i k bs e h l =
    let p : get_or ps i [] ≡ take 4 (drop (i * 4) bs) = ap (λ (qs : List Bytes). get_or qs i []) e ∙ piece_at 4 k i bs h in
    number_of_four (get_or ps i []) (ap length p ∙ simp (length-take, length-drop) (omega arith)) ∙ ap number p

pub word_of_eight : (ps : List Bytes) (i k : ℕ) (bs : Bytes) → ps ≡ first_chunks 8 k bs → i < k → k * 8 ≤ length bs
    → from_le_bytes w64 (get_or ps i []) ≡ number (take 8 (drop (i * 8) bs))
word_of_eight ps i k bs e h l =
    let p : get_or ps i [] ≡ take 8 (drop (i * 8) bs) = ap (λ (qs : List Bytes). get_or qs i []) e ∙ piece_at 8 k i bs h in
    number_of_eight (get_or ps i []) (ap length p ∙ simp (length-take, length-drop) (omega arith)) ∙ ap number p

-- fewer than eight bytes, with zeros above them and b at the top
pub number_topped : (bs : Bytes) (b : ℕ) → length bs ≤ 7 → from_le_bytes w64 (set (bs ++ drop (length bs) (0 ∷ 0 ∷ 0 ∷ 0 ∷ 0 ∷ 0 ∷ 0 ∷ 0 ∷ [])) 7 b) ≡ number bs + b * 2 ^ 56
number_topped [] b h = omega arith
number_topped (x0 ∷ []) b h = omega arith
number_topped (x0 ∷ x1 ∷ []) b h = omega arith
number_topped (x0 ∷ x1 ∷ x2 ∷ []) b h = omega arith
number_topped (x0 ∷ x1 ∷ x2 ∷ x3 ∷ []) b h = omega arith
number_topped (x0 ∷ x1 ∷ x2 ∷ x3 ∷ x4 ∷ []) b h = omega arith
number_topped (x0 ∷ x1 ∷ x2 ∷ x3 ∷ x4 ∷ x5 ∷ []) b h = omega arith
number_topped (x0 ∷ x1 ∷ x2 ∷ x3 ∷ x4 ∷ x5 ∷ x6 ∷ []) b h = omega arith
number_topped (x0 ∷ x1 ∷ x2 ∷ x3 ∷ x4 ∷ x5 ∷ x6 ∷ _ ∷ _) b h = absurd (omega arith)
