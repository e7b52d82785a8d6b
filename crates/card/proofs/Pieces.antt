-- The pieces of 64 bytes: how many, which bytes each has, and what a write to one leaves.
use Rattle.std.proofs.Common.{◌≡◌, ℕ, zero, suc, ◌+◌, ◌*◌, ◌/◌, ◌<◌, ◌≤◌, min, List, ◌∷◌, ◌++◌, length, take, drop, set, sym, refl, ap, ◌∙◌, arith}
use borrow.Rule.Slice.PartMut.{put_mid}
use Rattle.std.proofs.lemmas.List.{length-take, length-drop, take_at, drop_at, drop-take, drop-drop, drop-append-le, length-append}
use Rattle.std.proofs.lemmas.Slice.{take-put_mid_below, drop-put_mid}
use Rattle.layout.specs.Numbers.{Bytes}
use Rattle.card.specs.Cards.{most}
use Rattle.card.specs.Kinds.{pieces, byte_count, byte_records, byte_rest}

-- bytes written behind the first 64 leave these, and are written further on in the rest
drop_write : (b : ℕ) (s r : Bytes) → 64 + b ≤ length s → drop 64 (put_mid (64 + b) 64 s r) ≡ put_mid b 64 (drop 64 s) r
drop_write b s r h =
    let l : 64 ≤ length (take (64 + b) s) = simp length-take (omega arith) in
    drop-append-le 64 (take (64 + b) s) (r ++ drop 64 (drop (64 + b) s)) l
    ∙ (ap (λ (u : Bytes). u ++ (r ++ drop 64 (drop (64 + b) s))) (drop-take 64 b s)
    ∙ ap (λ (u : Bytes). take b (drop 64 s) ++ (r ++ drop 64 u)) (sym (drop-drop b 64 s)))

-- a write of 64 bytes at p * 64 replaces the piece at p and no other
pub set_pieces : (n p a : ℕ) (s r : Bytes) → p < n → a ≡ p * 64 → a + 64 ≤ length s → length r ≡ 64
    → pieces n (put_mid a 64 s r) ≡ set (pieces n s) p r
unfolding pieces
set_pieces zero p a s r h e l k = absurd (omega arith)
set_pieces (suc n) zero a s r h e l k =
    ap (λ (i : ℕ). pieces (suc n) (put_mid i 64 s r)) e
    ∙ (ap (λ (u : Bytes). u ∷ pieces n (drop 64 (r ++ drop 64 s))) (take_at r (drop 64 s) 64 k)
    ∙ ap (λ (u : Bytes). r ∷ pieces n u) (drop_at r (drop 64 s) 64 k))
set_pieces (suc n) (suc p) a s r h e l k =
    let b : a ≡ 64 + p * 64 = omega arith in
    let m : 64 + p * 64 ≤ length s = omega arith in
    let d : p * 64 + 64 ≤ length (drop 64 s) = simp length-drop (omega arith) in
    ap (λ (i : ℕ). pieces (suc n) (put_mid i 64 s r)) b
    ∙ (ap (λ (u : Bytes). u ∷ pieces n (drop 64 (put_mid (64 + p * 64) 64 s r))) (take-put_mid_below (64 + p * 64) 64 s r 64 (omega arith) m)
    ∙ (ap (λ (u : Bytes). take 64 s ∷ pieces n u) (drop_write (p * 64) s r m)
    ∙ ap (λ (u : List Bytes). take 64 s ∷ u) (set_pieces n p (p * 64) (drop 64 s) r (omega arith) refl d k)))

-- a write of 64 bytes keeps the length
pub length_write : (a : ℕ) (s r : Bytes) → a + 64 ≤ length s → length r ≡ 64 → length (put_mid a 64 s r) ≡ length s
length_write a s r l k = simp (length-append, length-take, length-drop) (omega arith)

-- so the records in bytes are those before, but for the one written
pub records_write : (p : ℕ) (s r : Bytes) → p < byte_count s → length r ≡ 64
    → byte_records (put_mid (p * 64) 64 s r) ≡ set (byte_records s) p r
records_write p s r h k =
    ap (λ (n : ℕ). pieces (min (n / 64) most) (put_mid (p * 64) 64 s r)) (length_write (p * 64) s r (omega arith) k)
    ∙ set_pieces (byte_count s) p (p * 64) s r h refl (omega arith) k

-- and the bytes that belong to no record stay
pub rest_write : (p : ℕ) (s r : Bytes) → p < byte_count s → length r ≡ 64 → byte_rest (put_mid (p * 64) 64 s r) ≡ byte_rest s
rest_write p s r h k =
    ap (λ (n : ℕ). drop (64 * min (n / 64) most) (put_mid (p * 64) 64 s r)) (length_write (p * 64) s r (omega arith) k)
    ∙ drop-put_mid (p * 64) 64 s r (64 * byte_count s) (omega arith) (omega arith) k
