use Rattle.std.proofs.Common.{length, set, Some, vec_items, ap, ◌∙◌, rules, arith}
use Rattle.std.proofs.lemmas.List.{length-map, map-set}
use Rattle.machine.specs.Machine.{occupant}
use Rattle.tables.specs.Apart.{apart}
use Rattle.tables.specs.Views.{placed, place_of}
use Rattle.tables.proofs.Index.{settled_index}
use Rattle.tables.proofs.Lone.{still, free}
use Rattle.tables.proofs.Settles.{settle_done, vacant}
use Rattle.tables.proofs.positions.table.PositionMap.settle.Goals as goal

pub invariant_of-self : goal.invariant_of-self
invariant_of-self c =
    let places = vec_items c.self.inside.places in
    let none = ap (λ z. occupant z c.args.place.0) c.self.view_is ∙ vacant c.occupant.result c.args.self.now c.args.place.0 c.occupant.ensures c.if-is_some.ensures in
    let unheld = free 0 (placed places) c.args.place.0 none in
    let alone = c.self.invariant.no_two_at_one_place in
    record {
      few = c.self.invariant.few;
      no_two_at_one_place = (ap apart (map-set place_of places c.args.block.0 (Some c.args.place)) ∙ still (placed places) c.args.block.0 c.args.place.0 unheld alone);
      index_agrees = settled_index (vec_items c.self.inside.occupants) (vec_items c.note.new.occupants) places c.args.block c.args.place c.index.result.now
          c.self.invariant.index_agrees alone unheld (search rules) c.index.ensures c.note.ensures (vec_items c.note-2.new.occupants) c.note-2.ensures;
    }

pub returns : goal.returns
returns c =
    let places = vec_items c.self.inside.places in
    let l = length-map places place_of in
    let e = ap length c.self.view_is in
    settle_done c.args.self.now _ c.args.block.0 c.args.place.0 (omega arith)
    (vacant c.occupant.result c.args.self.now c.args.place.0 c.occupant.ensures c.if-is_some.ensures)
    (map-set place_of places c.args.block.0 (Some c.args.place) ∙ ap (λ z. set z c.args.block.0 (Some c.args.place.0)) c.self.view_is)
