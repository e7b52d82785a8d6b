use Rattle.std.proofs.Common.{arith}
use Rattle.card.specs.Windows.{window_below, window_lies_at}
use Rattle.card.proofs.window.WindowCard.locate.Goals as goal

pub overflow_add-result : goal.overflow_add-result
overflow_add-result g c =
    let w = c.args.self.now in
    let few = g.met.C.Card.few w.below in
    omega (arith, window_below w.start w.len c.args.at.0 (g.C.Card.records w.below) (omega arith))

pub returns : goal.returns
returns g c =
    let w = c.args.self.now in
    window_lies_at w.start w.len c.args.at.0 (g.C.Card.records w.below) (omega arith)
