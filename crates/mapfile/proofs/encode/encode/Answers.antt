use Rattle.std.proofs.Common.{arith}
use Rattle.mapfile.proofs.Landings.{encoded}
use Rattle.mapfile.proofs.encode.encode.Goals as goal

pub returns : goal.returns
returns c =
    let l = c.landed-landed.ensures in
    encoded c.args.count c.args.last c.args.map.now c.args.buffer.now c.put_header.new.buffer c.put_entries.new.buffer
    c.blocks-2.result c.landed-landed.result c.blocks-2.ensures l (omega arith) c.put_header.ensures c.put_entries.ensures
