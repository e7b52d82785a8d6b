use Rattle.std.proofs.Common.{[], length, ap, ◌∙◌}
use Rattle.machine.specs.Files.{file_blocks, entries}
use Rattle.mapfile.specs.Listed.{entries_left}
use Rattle.prepare.proofs.Opens.{left_start}
use Rattle.prepare.proofs.Rising.{fit_places}
use Rattle.prepare.proofs.entries.check_entries.Goals as goal

pub loop-block-init : goal.loop-block-init
loop-block-init g c =
    let file = c.args.file.now.bytes.now in
    let card = g.C.Card.records c.args.card.now in
    left_start (g.S.Seal.rules c.args.seal.now) card (entries file) _ (ap entries_left c.into_iter-block-iterator.ensures.into_iter_gives ∙ c.entries-block-items.ensures.in_file_order)
    (fit_places (file_blocks file) (length card) 0 [] (entries file) c.requires)
