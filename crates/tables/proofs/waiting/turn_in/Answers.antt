use Rattle.std.proofs.Common.{◌≡◌, ◌∙◌, rules}
use borrow.Author.Tests.{tests}
use Rattle.std.specs.List.{position}
use Rattle.std.proofs.lemmas.Iterator.{YieldsList-from_slice}
use Rattle.std.proofs.lemmas.Iterator.Search.{position_from_yields_List}
use Rattle.tables.proofs.Turns.{of_block, turn_is}
use Rattle.tables.proofs.waiting.turn_in.Goals as goal

pub returns : goal.returns
returns c =
    let slots = c.args.slots.now in
    let e : c.position.result ≡ position (of_block c.args.block.0) slots =
    position_from_yields_List (of_block c.args.block.0) _ _ c.position.result c.position.ensures.ran (YieldsList-from_slice slots (cc)) (λ x b q k. search (rules, tests)) in
    e ∙ turn_is slots c.args.block.0
