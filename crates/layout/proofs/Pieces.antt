-- A layout written piece by piece, and read piece by piece.
use Rattle.std.proofs.Common.{◌≡◌, ℕ, ◌<◌, ◌≤◌, [], ◌∷◌, ◌++◌, length, get_or, take, drop, sym, refl, ap, ◌∙◌, arith}
use borrow.Rule.Slice.PartMut.{put_mid}
use Rattle.std.proofs.lemmas.List.{append-nil, take_at, drop_at, drop_all, take-append-drop}
use Rattle.layout.specs.Numbers.{Bytes, little, number}
use Rattle.layout.proofs.Littles.{little_number}

-- a piece written behind the first a bytes
pub put_next : (a k : ℕ) (xs zs ys : Bytes) → length xs ≡ a → put_mid a k (xs ++ zs) ys ≡ xs ++ (ys ++ drop k zs)
put_next a k xs zs ys h =
    let t = take_at xs zs a h in
    let d = drop_at xs zs a h in
    ap (λ (u : Bytes). u ++ (ys ++ drop k (drop a (xs ++ zs)))) t ∙ ap (λ (u : Bytes). xs ++ (ys ++ drop k u)) d

-- the last piece
pub put_last : (a k : ℕ) (xs zs ys : Bytes) → length xs ≡ a → length zs ≤ k → put_mid a k (xs ++ zs) ys ≡ xs ++ ys
put_last a k xs zs ys h l =
    put_next a k xs zs ys h ∙ (ap (λ (u : Bytes). xs ++ (ys ++ u)) (drop_all k zs l) ∙ ap (λ (u : Bytes). xs ++ u) (append-nil ys))

-- the first four bytes, as they are read one by one
pub first_four : (bs : Bytes) → 4 ≤ length bs → take 4 bs ≡ get_or bs 0 0 ∷ get_or bs 1 0 ∷ get_or bs 2 0 ∷ get_or bs 3 0 ∷ []
first_four [] h = absurd (omega arith)
first_four (a ∷ []) h = absurd (omega arith)
first_four (a ∷ b ∷ []) h = absurd (omega arith)
first_four (a ∷ b ∷ c ∷ []) h = absurd (omega arith)
first_four (a ∷ b ∷ c ∷ d ∷ bs) h = refl

-- bytes in front give their number, and the number gives them back
pub little_first_four : (bs : Bytes) → 4 ≤ length bs → get_or bs 0 0 < 256 → get_or bs 1 0 < 256 → get_or bs 2 0 < 256 → get_or bs 3 0 < 256
    → little 4 (number (take 4 bs)) ++ drop 4 bs ≡ bs
little_first_four bs h a b c d =
    let f = first_four bs h in
    ap (λ (u : Bytes). little 4 (number u) ++ drop 4 bs) f
    ∙ (ap (λ (u : Bytes). u ++ drop 4 bs) (little_number (get_or bs 0 0 ∷ get_or bs 1 0 ∷ get_or bs 2 0 ∷ get_or bs 3 0 ∷ []) (a, (b, (c, (d, tt)))))
    ∙ (ap (λ (u : Bytes). u ++ drop 4 bs) (sym f) ∙ take-append-drop 4 bs))
