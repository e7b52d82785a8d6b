use Rattle.layout.proofs.Fills.{filled_is}
use Rattle.layout.proofs.values.filled.Goals as goal

pub returns : goal.returns
returns c = filled_is c.args.value.now _ c.min.result c.min.ensures c.copy_from_slice.ensures.after
