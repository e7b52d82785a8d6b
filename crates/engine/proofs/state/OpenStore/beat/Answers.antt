use Rattle.std.proofs.Common.{rules}
use Rattle.machine.specs.Machine.{with_tape}
use Rattle.layout.specs.Layouts.{body_of}
use Rattle.tables.specs.Settled.{settle_told}
use Rattle.engine.proofs.Beats.{beat_landed}
use Rattle.engine.proofs.state.OpenStore.beat.Goals as goal

pub returns-in-Landed-clause-step : goal.returns-in-Landed-clause-step
returns-in-Landed-clause-step g c =
    let by = g.S.Seal.rules c.args.self.now.seal in
    let m = with_tape c.args.self.now.machine (g.T.Tape.words c.draw.new.self) in
    let body = c.in_ok-body.body in
    let landed = beat_landed by m c.seal_at.new.self.machine c.in_ok-place.place.0 c.in-Landed.block.0 (body_of body.block.0 body.value) (settle_told c.settle.result) c.settle.new.self c.take_first.new.self
    (search rules) (search rules) (search rules) (search rules) (search rules) in
    search rules
