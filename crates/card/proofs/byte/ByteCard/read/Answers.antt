use Rattle.std.proofs.Common.{◌≡◌, ℕ, ◌+◌, ◌-◌, ◌*◌, take, drop, sym, refl, ap, ◌∙◌, arith}
use Rattle.layout.specs.Numbers.{Bytes}
use Rattle.card.specs.Kinds.{byte_count}
use Rattle.card.specs.Pieces.{length_pieces, get_or_pieces}
use Rattle.card.proofs.byte.ByteCard.read.Goals as goal

pub slice_bounds-copy_from_slice-end : goal.slice_bounds-copy_from_slice-end
slice_bounds-copy_from_slice-end c =
    let s : Bytes = c.args.self.now.bytes.now in
    omega (arith, length_pieces (byte_count s) s)

pub returns : goal.returns
returns c =
    let s : Bytes = c.args.self.now.bytes.now in
    let p : ℕ = c.args.at.0 in
    let n = length_pieces (byte_count s) s in
    let width : (p * 64 + 64) - p * 64 ≡ 64 = omega arith in
    c.copy_from_slice.ensures.after
    ∙ (ap (λ (k : ℕ). take k (drop (p * 64) s)) width ∙ sym (get_or_pieces (byte_count s) p (p * 64) s (omega arith) refl))
