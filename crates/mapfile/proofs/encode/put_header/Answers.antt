use Rattle.std.proofs.Common.{◌≡◌, ◌++◌, length, ap, ◌∙◌, arith}
use Rattle.layout.specs.Numbers.{Bytes, little}
use Rattle.layout.proofs.Littles.{little_four}
use Rattle.mapfile.specs.Encodes.{put_at}
use Rattle.mapfile.proofs.Puts.{put_part, put_more}
use Rattle.mapfile.proofs.encode.put_header.Goals as goal

pub returns : goal.returns
returns c =
    let old : Bytes = c.args.buffer.now in
    let a : Bytes = little 2 c.args.blocks in
    let b : Bytes = little 2 c.args.count in
    let d : Bytes = little 2 c.args.landed in
    let z : Bytes = little 4 c.args.last in
    let new : Bytes = c.copy_from_slice.new.self in
    let e : new ≡ z = c.copy_from_slice.ensures.after ∙ (c.to_le_bytes.ensures ∙ little_four c.args.last) in
    let one : c.put_number-2.new.buffer ≡ put_at old 0 (a ++ b) = c.put_number-2.ensures ∙ (ap (λ (u : Bytes). put_at u 2 b) c.put_number.ensures ∙ put_more old a b 0 2 (omega arith) (omega arith)) in
    let two : c.put_number-3.new.buffer ≡ put_at old 0 (a ++ b ++ d) = c.put_number-3.ensures ∙ (ap (λ (u : Bytes). put_at u 4 d) one ∙ put_more old (a ++ b) d 0 4 (omega arith) (omega arith)) in
    put_part c.put_number-3.new.buffer new 6 4 (ap length e)
    ∙ (ap (put_at c.put_number-3.new.buffer 6) e ∙ (ap (λ (u : Bytes). put_at u 6 z) two ∙ put_more old (a ++ b ++ d) z 0 6 (omega arith) (omega arith)))
