use Rattle.std.proofs.Common.{length, deque_items, sym, ap, ◌∙◌, arith}
use Rattle.std.proofs.lemmas.List.{length-map}
use Rattle.tables.specs.Views.{entry_of}
use Rattle.tables.proofs.Turns.{absent, unaltered, present_at, slot_value, slot_change}
use Rattle.tables.proofs.waiting.list.WaitingList.replace.Goals as goal

pub returns-in_err-i : goal.returns-in_err-i
returns-in_err-i c =
    let ws = c.args.self.now in
    let none = sym c.in_err-i.ensures in
    record { former = c.from_residual.ensures ∙ sym (absent 0 ws c.args.block.0 none); list = sym (unaltered 0 ws c.args.block.0 c.args.value none) }

pub index_mut-slot-requires : goal.index_mut-slot-requires
index_mut-slot-requires c =
    let f = present_at c.args.self.now c.args.block.0 c.in_ok-i.i (sym c.in_ok-i.ensures) in
    let e = ap length c.self.view_is in
    let l = length-map (deque_items c.self.inside.slots) entry_of in
    let w = f.within in
    omega arith

pub returns : goal.returns
returns c =
    let slots = deque_items c.self.inside.slots in
    let ws = c.args.self.now in
    let x = c.index_mut-slot.result.now in
    record {
      former = slot_value slots ws c.args.block.0 c.in_ok-i.i x c.self.view_is c.in_ok-i.ensures c.index_mut-slot.ensures.value c.replace.result c.replace.ensures.value;
      list = slot_change slots ws c.args.block.0 c.in_ok-i.i x c.self.view_is c.in_ok-i.ensures c.index_mut-slot.ensures.value c.replace.new.dest c.args.value c.replace.ensures.after;
    }
