-- Pieces written over a buffer, one behind another.
use Rattle.std.proofs.Common.{◌≡◌, ℕ, ◌+◌, ◌*◌, ◌≤◌, List, [], ◌∷◌, ◌++◌, length, take, drop, sym, refl, ap, ◌∙◌, zero-add, arith}
use lib.Seq.{paste}
use borrow.Rule.Slice.PartMut.{put_mid}
use Rattle.std.specs.List.{flat_map}
use Rattle.std.proofs.lemmas.List.Edits.{paste_none, paste_all, paste-paste, length-paste}
use Rattle.std.proofs.Math.Seq.{take-append_seam, drop-append-add}
use Rattle.std.proofs.lemmas.List.{append_assoc, length-append, length-take-le, length_push, take-append-le, drop-append-le, take-append-drop, flat_map_more}
use Rattle.std.proofs.lemmas.Slice.{put_mid-paste}
use Rattle.layout.specs.Numbers.{Bytes, little}
use Rattle.mapfile.specs.Encodes.{put_at}

pub put_none : (buffer : Bytes) (at : ℕ) → buffer ≡ put_at buffer at []
unfolding put_at
put_none buffer at = paste_none buffer at []

-- a write to a part of the buffer
pub put_part : (buffer piece : Bytes) (at k : ℕ) → length piece ≡ k → put_mid at k buffer piece ≡ put_at buffer at piece
unfolding put_at
put_part buffer piece at k h = put_mid-paste at k buffer piece piece (length piece) refl h refl

-- a piece behind a piece
pub put_more : (buffer xs ys : Bytes) (at next : ℕ) → at ≤ length buffer → next ≡ at + length xs
    → put_at (put_at buffer at xs) next ys ≡ put_at buffer at (xs ++ ys)
unfolding put_at
put_more buffer xs ys at next h e =
    ap (λ (k : ℕ). put_at (put_at buffer at xs) k ys) e
    ∙ (paste-paste buffer at xs ys (length xs) (length ys) refl refl h ∙ ap (λ (k : ℕ). paste buffer at (xs ++ ys) k) (sym (length-append xs ys)))

-- a piece within the front of a buffer, and one behind the front
put_left : (u v piece : Bytes) (at : ℕ) → at + length piece ≤ length u → put_at (u ++ v) at piece ≡ put_at u at piece ++ v
unfolding put_at
put_left u v piece at h =
    paste_all (u ++ v) at piece (length piece) refl
    ∙ (ap (λ (z : Bytes). z ++ (piece ++ drop (at + length piece) (u ++ v))) (take-append-le at u v (omega arith))
    ∙ (ap (λ (z : Bytes). take at u ++ (piece ++ z)) (drop-append-le (at + length piece) u v h)
    ∙ (ap (λ (z : Bytes). take at u ++ z) (sym (append_assoc piece (drop (at + length piece) u) v))
    ∙ (sym (append_assoc (take at u) (piece ++ drop (at + length piece) u) v) ∙ ap (λ (z : Bytes). z ++ v) (sym (paste_all u at piece (length piece) refl))))))

put_right : (u v piece : Bytes) (at : ℕ) → at ≡ length u → put_at (u ++ v) at piece ≡ u ++ (piece ++ drop (length piece) v)
unfolding put_at
put_right u v piece at h =
    paste_all (u ++ v) at piece (length piece) refl
    ∙ (ap (λ (k : ℕ). take k (u ++ v) ++ (piece ++ drop (k + length piece) (u ++ v))) h
    ∙ (ap (λ (z : Bytes). z ++ (piece ++ drop (length u + length piece) (u ++ v))) (take-append_seam u v)
    ∙ ap (λ (z : Bytes). u ++ (piece ++ z)) (drop-append-add u v (length piece))))

length_put : (buffer piece : Bytes) (at : ℕ) → at + length piece ≤ length buffer → length (put_at buffer at piece) ≡ length buffer
unfolding put_at
length_put buffer piece at h = length-paste buffer at piece (length piece) h (omega arith)

-- two pieces apart, in either order
put_apart : (buffer front behind : Bytes) (at middle : ℕ) → at + length front ≤ middle → middle ≤ length buffer
    → put_at (put_at buffer middle behind) at front ≡ put_at (put_at buffer at front) middle behind
put_apart buffer front behind at middle h l =
    let u = take middle buffer in
    let v = drop middle buffer in
    let whole = sym (take-append-drop middle buffer) in
    let n = length-take-le middle buffer l in
    let m = length_put u front at (omega arith) in
    ap (λ (z : Bytes). put_at (put_at z middle behind) at front) whole
    ∙ (ap (λ (z : Bytes). put_at z at front) (put_right u v behind middle (omega arith))
    ∙ (put_left u (behind ++ drop (length behind) v) front at (omega arith)
    ∙ (sym (put_right (put_at u at front) v behind middle (omega arith))
    ∙ (ap (λ (z : Bytes). put_at z middle behind) (sym (put_left u v front at (omega arith))) ∙ ap (λ (z : Bytes). put_at (put_at z at front) middle behind) (sym whole)))))

-- a piece in front
pub put_front : (buffer piece : Bytes) (n : ℕ) → length piece ≡ n → put_at buffer 0 piece ≡ piece ++ drop n buffer
unfolding put_at
put_front buffer piece n h =
    paste_all buffer 0 piece (length piece) refl ∙ ap (λ (k : ℕ). piece ++ drop k buffer) (zero-add (length piece) ∙ h)

pub length_joined : (ns : List ℕ) → length (flat_map (little 2) ns) ≡ 2 * length ns
length_joined [] = refl
length_joined (n ∷ ns) = let e = length_joined ns in omega arith

-- one more number of two bytes
pub put_number_more : (old buffer : Bytes) (from at n : ℕ) (ns : List ℕ) → from ≤ length old → at ≡ from + 2 * length ns
    → buffer ≡ put_at old from (flat_map (little 2) ns) → put_at buffer at (little 2 n) ≡ put_at old from (flat_map (little 2) (ns ++ n ∷ []))
put_number_more old buffer from at n ns h e f =
    let l = length_joined ns in
    ap (λ (u : Bytes). put_at u at (little 2 n)) f
    ∙ (put_more old (flat_map (little 2) ns) (little 2 n) from at h (omega arith) ∙ ap (put_at old from) (flat_map_more (little 2) [] ns n))

-- one more number of two bytes in each of two arrays
pub put_both_more : (old buffer one two : Bytes) (from middle at further b p : ℕ) (bs ps : List ℕ) → at ≡ from + 2 * length bs → further ≡ middle + 2 * length ps
    → from + 2 * length bs + 2 ≤ middle → middle ≤ length old
    → buffer ≡ put_at (put_at old from (flat_map (little 2) bs)) middle (flat_map (little 2) ps)
    → one ≡ put_at buffer at (little 2 b) → two ≡ put_at one further (little 2 p)
    → two ≡ put_at (put_at old from (flat_map (little 2) (bs ++ b ∷ []))) middle (flat_map (little 2) (ps ++ p ∷ []))
put_both_more old buffer one two from middle at further b p bs ps h k l m e f g =
    let now : Bytes = put_at old from (flat_map (little 2) bs) in
    let next : Bytes = put_at old from (flat_map (little 2) (bs ++ b ∷ [])) in
    let lb = length_joined bs in
    let ll = length_joined (bs ++ b ∷ []) in
    let lp = length_push bs b in
    let ln = length_put old (flat_map (little 2) bs) from (omega arith) in
    let lx = length_put old (flat_map (little 2) (bs ++ b ∷ [])) from (omega arith) in
    let first : one ≡ put_at next middle (flat_map (little 2) ps) =
    f ∙ (ap (λ (z : Bytes). put_at z at (little 2 b)) e
    ∙ (put_apart now (little 2 b) (flat_map (little 2) ps) at middle (omega arith) (omega arith)
    ∙ ap (λ (z : Bytes). put_at z middle (flat_map (little 2) ps)) (put_number_more old now from at b bs (omega arith) h refl))) in
    g ∙ put_number_more next one middle further p ps (omega arith) k first
