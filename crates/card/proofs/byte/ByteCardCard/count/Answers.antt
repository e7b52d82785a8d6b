use Rattle.std.proofs.Common.{arith}
use Rattle.layout.specs.Numbers.{Bytes}
use Rattle.card.specs.Kinds.{byte_count}
use Rattle.card.specs.Pieces.{length_pieces}
use Rattle.card.proofs.byte.ByteCardCard.count.Goals as goal

pub returns : goal.returns
returns c =
    let s : Bytes = c.args.self.now.bytes.now in
    omega (arith, length_pieces (byte_count s) s)
