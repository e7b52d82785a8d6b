use Rattle.std.proofs.Common.{rules, arith}
use Rattle.engine.specs.View.{machine_of}
use Rattle.engine.proofs.Writes.{write_joined, write_full}
use Rattle.engine.proofs.state.OpenStore.write.Goals as goal

pub returns-in-Err-clause-step : goal.returns-in-Err-clause-step
returns-in-Err-clause-step g c =
    let m = machine_of (g.C.Card.records c.self.inside.ends.card) (g.T.Tape.words c.self.inside.ends.tape) c.self.inside.memory in
    rw (← c.self.view_is) (write_full m c.args.block.0 c.args.value.now c.in_ok-value.value c.replace.new.self c.join.new.self
    (omega arith) (search rules) (search rules) c.replace.ensures.list (search rules))

pub returns-clause-step : goal.returns-clause-step
returns-clause-step g c =
    let m = machine_of (g.C.Card.records c.self.inside.ends.card) (g.T.Tape.words c.self.inside.ends.tape) c.self.inside.memory in
    rw (← c.self.view_is) (write_joined m c.args.block.0 c.args.value.now c.in_ok-value.value c.replace.new.self c.join.new.self
    (omega arith) (search rules) (search rules) c.replace.ensures.list (search rules))
