use Rattle.std.proofs.Common.{◌≡◌, ℕ, ◌+◌, ◌-◌, ◌*◌, ◌<◌, length, set, refl, ap, ◌∙◌, arith}
use borrow.Rule.Slice.PartMut.{put_mid}
use Rattle.layout.specs.Numbers.{Bytes}
use Rattle.card.specs.Kinds.{byte_count, byte_records, byte_rest}
use Rattle.card.specs.Pieces.{length_pieces}
use Rattle.card.proofs.Pieces.{length_write, records_write, rest_write}
use Rattle.card.proofs.byte.ByteCard.write.Goals as goal

pub slice_bounds-copy_from_slice-end : goal.slice_bounds-copy_from_slice-end
slice_bounds-copy_from_slice-end c =
    let s : Bytes = c.args.self.now.bytes.now in
    omega (arith, length_pieces (byte_count s) s)

pub returns : goal.returns
returns c =
    let s : Bytes = c.args.self.now.bytes.now in
    let p : ℕ = c.args.at.0 in
    let r : Bytes = c.copy_from_slice.new.self in
    let n = length_pieces (byte_count s) s in
    let below : p < byte_count s = omega arith in
    let copied = c.copy_from_slice.ensures.after in
    let whole : length r ≡ 64 = ap length copied ∙ omega arith in
    let width : (p * 64 + 64) - p * 64 ≡ 64 = omega arith in
    let written = ap (λ (k : ℕ). put_mid (p * 64) k s r) width in
    record {
      record_replaced = ap byte_records written ∙ (records_write p s r below whole ∙ ap (set (byte_records s) p) copied);
      bytes_after_the_last_record_stay = ap byte_rest written ∙ rest_write p s r below whole;
      length_stays = ap length written ∙ length_write (p * 64) s r (omega arith) whole;
      bytes_are_those_lent = refl;
    }
