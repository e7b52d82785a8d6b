use Rattle.std.proofs.Common.{◌≡◌, vec_items, ap, sym, ◌∙◌, Some, None, rules}
use borrow.Author.Tests.{tests}
use Rattle.std.specs.List.{position}
use Rattle.std.proofs.lemmas.Iterator.{YieldsList-from_slice}
use Rattle.std.proofs.lemmas.Iterator.Search.{position_from_yields_List}
use Rattle.machine.specs.Machine.{occupant}
use Rattle.tables.specs.Views.{block_of}
use Rattle.tables.proofs.Turns.{lies_at, occupant_is}
use Rattle.tables.proofs.positions.table.PositionMap.scan.Goals as goal

pub returns-in_err-i : goal.returns-in_err-i
returns-in_err-i c =
    let places = vec_items c.self.inside.places in
    let e : c.position.result ≡ position (lies_at c.args.place.0) places =
    position_from_yields_List (lies_at c.args.place.0) _ _ c.position.result c.position.ensures.ran (YieldsList-from_slice places (cc)) (λ x b q k. search (rules, tests)) in
    let none : c.position.result ≡ None = cc in
    ap block_of c.from_residual.ensures ∙ (sym none ∙ (e ∙ (occupant_is places c.args.place.0 ∙ ap (λ ps. occupant ps c.args.place.0) c.self.view_is)))

pub returns : goal.returns
returns c =
    let places = vec_items c.self.inside.places in
    let e : c.position.result ≡ position (lies_at c.args.place.0) places =
    position_from_yields_List (lies_at c.args.place.0) _ _ c.position.result c.position.ensures.ran (YieldsList-from_slice places (cc)) (λ x b q k. search (rules, tests)) in
    let some : c.position.result ≡ Some c.in_ok-i.i = cc in
    sym some ∙ (e ∙ (occupant_is places c.args.place.0 ∙ ap (λ ps. occupant ps c.args.place.0) c.self.view_is))
