-- The records in bytes: as many as a card may have at most, and each whole.
use Rattle.std.specs.Prelude.{◌≡◌, ℕ, zero, suc, ◌+◌, ◌*◌, ◌<◌, ◌≤◌, [], length, take, drop}
use Rattle.std.proofs.Common.{get_or, sym, refl, ap, ◌∙◌, arith}
use Rattle.std.proofs.lemmas.List.{length-drop, drop-drop, length-take-le}
use Rattle.layout.specs.Numbers.{Bytes}
use Rattle.card.specs.Cards.{most}
use Rattle.card.specs.Kinds.{pieces, byte_count, byte_records}

pub length_pieces : (n : ℕ) (s : Bytes) → length (pieces n s) ≡ n
unfolding pieces
length_pieces zero s = refl
length_pieces (suc n) s = ap suc (length_pieces n (drop 64 s))

-- the piece at p begins at byte p * 64
pub get_or_pieces : (n p a : ℕ) (s : Bytes) → p < n → a ≡ p * 64 → get_or (pieces n s) p [] ≡ take 64 (drop a s)
unfolding pieces
get_or_pieces zero p a s h e = absurd (omega arith)
get_or_pieces (suc n) zero a s h e = ap (λ (k : ℕ). take 64 (drop k s)) (sym e)
get_or_pieces (suc n) (suc p) a s h e =
    let b : 64 + p * 64 ≡ a = omega arith in
    get_or_pieces n p (p * 64) (drop 64 s) (omega arith) refl
    ∙ ap (take 64) (drop-drop (p * 64) 64 s ∙ ap (λ (k : ℕ). drop k s) b)

-- bytes hold no more records than a card may have
pub bytes_few : (s : Bytes) → length (byte_records s) ≤ most
bytes_few s = omega (arith, length_pieces (byte_count s) s)

-- and each is whole
pub bytes_whole : (s : Bytes) (p : ℕ) → p < length (byte_records s) → length (get_or (byte_records s) p []) ≡ 64
bytes_whole s p h =
    let n = length_pieces (byte_count s) s in
    let l : 64 ≤ length (drop (p * 64) s) = simp length-drop (omega arith) in
    ap length (get_or_pieces (byte_count s) p (p * 64) s (omega arith) refl) ∙ length-take-le 64 (drop (p * 64) s) l
