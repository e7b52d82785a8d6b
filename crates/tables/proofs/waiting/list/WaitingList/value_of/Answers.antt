use Rattle.std.proofs.Common.{length, deque_items, sym, refl, ap, ◌∙◌, arith}
use Rattle.std.proofs.lemmas.List.{length-map}
use Rattle.tables.specs.Views.{entry_of}
use Rattle.tables.proofs.Turns.{absent, present_at, slot_value}
use Rattle.tables.proofs.waiting.list.WaitingList.value_of.Goals as goal

pub returns-in_err-i : goal.returns-in_err-i
returns-in_err-i c = c.from_residual.ensures ∙ sym (absent 0 c.args.self.now c.args.block.0 (sym c.in_err-i.ensures))

pub index-slot-requires : goal.index-slot-requires
index-slot-requires c =
    let f = present_at c.args.self.now c.args.block.0 c.in_ok-i.i (sym c.in_ok-i.ensures) in
    let e = ap length c.self.view_is in
    let l = length-map (deque_items c.self.inside.slots) entry_of in
    let w = f.within in
    omega arith

pub returns : goal.returns
returns c =
    slot_value (deque_items c.self.inside.slots) c.args.self.now c.args.block.0 c.in_ok-i.i c.index-slot.result.now c.self.view_is c.in_ok-i.ensures c.index-slot.ensures _ refl
