use Rattle.std.proofs.Common.{◌≡◌, ◌<◌, length, ap, ◌∙◌, arith}
use Rattle.prepare.proofs.Halves.{length_half, half_put, put_granted_here}
use Rattle.prepare.proofs.dummies.seal_dummies.Goals as goal

pub returns-in_err-put : goal.returns-in_err-put
returns-in_err-put g c =
    let rules = g.S.Seal.rules c.args.seal.now in
    let rs = g.C.Card.records c.args.card.now in
    let lt : c.loop-i.i < length rs = omega arith in
    let whole : length c.seal.new.buffer ≡ 64 = search rules in
    let half = ap length c.loop-i.invariant.1 ∙ length_half rules rs c.loop-i.i (omega arith) in
    absurd (put_granted_here _ _ c.loop-i.i _ _ c.in_err-put.ensures (omega arith) whole)

pub loop-i-preserved : goal.loop-i-preserved
loop-i-preserved g c =
    let rules = g.S.Seal.rules c.args.seal.now in
    let rs = g.C.Card.records c.args.card.now in
    let lt : c.loop-i.i < length rs = omega arith in (
      search rules,
      half_put rules rs _ _ c.loop-i.i c.dummy.result.block.0 c.to_bytes-body.result _ _ c.dummy.result.value c.loop-i.invariant.1 lt
          c.to_bytes-body.ensures.laid_out c.dummy.ensures.0 c.dummy.ensures.1 c.in_ok-seal.ensures c.in_ok-put.ensures,
    )
