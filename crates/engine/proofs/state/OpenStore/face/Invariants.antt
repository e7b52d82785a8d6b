use Rattle.std.proofs.Common.{◌≡◌, map, take}
use Rattle.layout.specs.Layouts.{counter_in}
use Rattle.engine.proofs.state.OpenStore.face.Given as goal

abbrev pub invariant-loop-i : goal.invariant-loop-i
invariant-loop-i g l = take l.i l.buffer ≡ map counter_in (take l.i (g.C.Card.records l.self-inside.ends.card))
