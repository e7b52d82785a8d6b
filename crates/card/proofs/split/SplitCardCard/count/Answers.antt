use Rattle.std.proofs.Common.{arith}
use Rattle.card.specs.Weaving.{length_split}
use Rattle.card.proofs.split.SplitCardCard.count.Goals as goal

pub returns : goal.returns
returns g c =
    let s = c.args.self.now in
    omega (arith, length_split (g.C.Card.records s.even) (g.D.Card.records s.odd))
