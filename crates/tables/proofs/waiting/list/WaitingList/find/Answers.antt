use Rattle.std.proofs.Common.{deque_items, ap, sym, ◌∙◌, arith}
use Rattle.std.proofs.lemmas.List.{length-map}
use Rattle.tables.specs.Views.{entry_of, waited, turn}
use Rattle.tables.proofs.Turns.{present_at, turn_in_front, turn_in_back, turn_nowhere}
use Rattle.tables.proofs.waiting.list.WaitingList.find.Goals as goal

pub returns-in-Some : goal.returns-in-Some
returns-in-Some c =
    turn_in_front c.as_slices.result.0.now c.as_slices.result.1.now (deque_items c.self.inside.slots) c.args.block.0 c.as_slices.ensures.items c.in-Some.i c.in-Some.ensures
    ∙ ap (λ ws. turn ws c.args.block.0) c.self.view_is

pub returns-in_err-i : goal.returns-in_err-i
returns-in_err-i c =
    c.from_residual.ensures
    ∙ (turn_nowhere c.as_slices.result.0.now c.as_slices.result.1.now (deque_items c.self.inside.slots) c.args.block.0 c.as_slices.ensures.items c.in_default.ensures c.in_err-i.ensures
    ∙ ap (λ ws. turn ws c.args.block.0) c.self.view_is)

pub overflow_add-result : goal.overflow_add-result
overflow_add-result c =
    let back = c.as_slices.result.1.now in
    let f = present_at (waited back) c.args.block.0 c.in_ok-i.i (sym c.in_ok-i.ensures) in
    let w = f.within in
    let l = length-map back entry_of in
    let e = c.as_slices.ensures.len in
    omega arith

pub returns : goal.returns
returns c =
    turn_in_back c.as_slices.result.0.now c.as_slices.result.1.now (deque_items c.self.inside.slots) c.args.block.0 c.as_slices.ensures.items c.in_ok-i.i c.in_default.ensures c.in_ok-i.ensures
    ∙ ap (λ ws. turn ws c.args.block.0) c.self.view_is
