use Rattle.std.proofs.Common.{arith}
use Rattle.tape.specs.Keyed.{tape_block}
use Rattle.tape.proofs.Drawn.{draws_first}
use Rattle.tape.proofs.keyed.KeyedTapeTape.draw.Goals as goal

pub invariant_of-self : goal.invariant_of-self
unfolding tape_block
invariant_of-self c = record { within = (let w = c.self.invariant.within in omega arith); current = c.chacha20_words-self-inside.ensures }

pub returns-then-self-eq0 : goal.returns-then-self-eq0
returns-then-self-eq0 c =
    let t = c.self.inside in
    rw (← c.self.view_is) (draws_first t.key t.nonce t.block t.next t.count (omega arith) c.self.invariant.current)

pub returns-else-self-eq0 : goal.returns-else-self-eq0
returns-else-self-eq0 c =
    let t = c.self.inside in
    rw (← c.self.view_is) (draws_first t.key t.nonce t.block t.next t.count (omega arith) c.self.invariant.current)
