use Rattle.std.proofs.Common.{refl}
use Rattle.engine.proofs.Beats.{nothing_first}
use Rattle.engine.proofs.state.OpenStore.choose.Goals as goal

pub returns-in-None : goal.returns-in-None
returns-in-None g c = rw (← c.self.view_is, ← c.in_default.ensures, nothing_first _ c.in-None.ensures, c.dummy.ensures.0, c.dummy.ensures.1) refl
