use Rattle.std.proofs.Common.{◌<◌, length, sym, ◌∙◌, subst, arith}
use Rattle.std.proofs.lemmas.List.{take_more}
use Rattle.std.proofs.lemmas.Result.{err_from_is_err_and}
use Rattle.runs.specs.Told.{making_told}
use Rattle.runs.specs.Shown.{notes_told, first_shown, Followed}
use Rattle.runs.proofs.Growing.{turned, stopped}
use Rattle.runs.proofs.run.follow.Goals as goal

pub returns-in_err-note_call-clause-step : goal.returns-in_err-note_call-clause-step
returns-in_err-note_call-clause-step g c =
    let calls = c.args.calls.now in
    let i = c.loop-call.call-index in
    let h : i < length calls = omega arith in
    let inv = c.loop-call.invariant in
    let noted = c.in_err-note_call.ensures in
    let s = c.args.store.now.store in
    let seal = c.args.store.now.seal in
    let after = c.note_call.new.store.store in
    let stop = stopped g.S.Seal.rules c.loop-call.store.seal seal
    s c.loop-call.store.store after
    calls i _ inv.0 inv.2 noted.step (take_more calls i _ h) in
    let left = err_from_is_err_and c.from_residual-in_err-note_call.result c.from_residual-in_err-note_call.ensures.1 in
    λ card e. subst (Followed notes_told (g.S.Seal.rules seal) s (first_shown s (making_told c.args.making.now) card) calls after) (sym left.1) stop

pub loop-call-preserved : goal.loop-call-preserved
loop-call-preserved g c =
    let calls = c.args.calls.now in
    let i = c.loop-call.call-index in
    let h : i < length calls = omega arith in
    let inv = c.loop-call.invariant in
    let noted = c.in_ok-note_call.ensures in
    let turn = turned g.S.Seal.rules c.loop-call.store.seal c.args.store.now.seal
    c.args.store.now.store c.loop-call.store.store c.note_call.new.store.store
    calls i _ c.loop-call.notes c.note_call.new.notes inv.0 inv.2 inv.1 h noted.step (take_more calls i _ h) in
    (noted.seal ∙ inv.0, turn.count, turn.left, (λ card e. turn.shows (first_shown c.args.store.now.store (making_told c.args.making.now) card) (inv.3 card e)))
