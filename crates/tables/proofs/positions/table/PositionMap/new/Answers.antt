use Rattle.std.proofs.Common.{vec_items, ap, ◌∙◌, rules}
use Rattle.tables.specs.Apart.{apart}
use Rattle.tables.specs.Views.{placed}
use Rattle.tables.proofs.Index.{fresh_index, none_only}
use Rattle.tables.proofs.Lone.{fresh, none_placed}
use Rattle.tables.proofs.positions.table.PositionMap.new.Goals as goal

pub invariant_of-result : goal.invariant_of-result
invariant_of-result c =
    let places = vec_items c.in_ok-places.places in
    let occupants = vec_items c.in_ok-occupants.occupants in
    let e = c.in_ok-places.ensures.items_if_clones_equal (none_only _ (λ x k. k)) in
    let f = c.in_ok-occupants.ensures.items_if_clones_equal (none_only _ (λ x k. k)) in
    record {
      few = search rules;
      no_two_at_one_place = (ap (λ z. apart (placed z)) e ∙ fresh c.args.blocks);
      index_agrees = fresh_index occupants places 1024 c.args.blocks f e;
    }

pub returns : goal.returns
returns c = ap placed (c.in_ok-places.ensures.items_if_clones_equal (none_only _ (λ x k. k))) ∙ none_placed c.args.blocks
