use Rattle.std.proofs.Common.{arith}
use Rattle.card.specs.Weaving.{even_lies_at, odd_lies_at}
use Rattle.card.proofs.split.SplitCard.locate.Goals as goal

pub returns-then-at-eq0 : goal.returns-then-at-eq0
returns-then-at-eq0 g c =
    let s = c.args.self.now in
    even_lies_at c.args.at.0 (g.C.Card.records s.even) (g.D.Card.records s.odd) (omega arith) (omega arith)

pub returns-else-at-eq0 : goal.returns-else-at-eq0
returns-else-at-eq0 g c =
    let s = c.args.self.now in
    odd_lies_at c.args.at.0 (g.C.Card.records s.even) (g.D.Card.records s.odd) (omega arith) (omega arith)
