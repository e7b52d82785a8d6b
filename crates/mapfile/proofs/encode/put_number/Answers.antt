use Rattle.std.proofs.Common.{◌≡◌, ◌+◌, ◌-◌, length, take, ap, ◌∙◌, arith}
use Rattle.layout.specs.Numbers.{Bytes, little}
use Rattle.mapfile.specs.Encodes.{put_at}
use Rattle.mapfile.proofs.Puts.{put_part}
use Rattle.mapfile.proofs.encode.put_number.Goals as goal

pub returns : goal.returns
returns c =
    let new : Bytes = c.copy_from_slice.new.self in
    let e : new ≡ little 2 c.args.n = c.copy_from_slice.ensures.after ∙ ap (take 2) c.to_le_bytes-bytes.ensures in
    let l = ap length e in
    put_part c.args.buffer.now new c.args.at (c.args.at + 2 - c.args.at) (omega arith) ∙ ap (put_at c.args.buffer.now c.args.at) e
