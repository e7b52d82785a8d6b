use Rattle.std.proofs.Common.{sym, ap, ◌∙◌}
use Rattle.machine.specs.Files.{file_blocks, entries}
use Rattle.mapfile.specs.Listed.{entries_left}
use Rattle.prepare.specs.Checks.{entry_check}
use Rattle.prepare.proofs.Rising.{going_start, going_on, going_wrong, unsettled_misfit, was_denied, was_granted, with_answer}
use Rattle.prepare.proofs.entries.settle_entries.Goals as goal

pub loop-block-init : goal.loop-block-init
loop-block-init c =
    going_start (file_blocks c.args.file.now.bytes.now) c.args.count (entries c.args.file.now.bytes.now) _ c.args.map.now
    (ap entries_left c.into_iter-block-iterator.ensures.into_iter_gives ∙ c.entries-block-items.ensures.in_file_order) c.requires c.entries-block-items.ensures.in_two_bytes

pub returns-then-is_err-clause-fit : goal.returns-then-is_err-clause-fit
returns-then-is_err-clause-fit c =
    let n = file_blocks c.args.file.now.bytes.now in
    let es = entries c.args.file.now.bytes.now in
    let rest = entries_left c.loop-block.block-iterator in
    let no = was_denied c.settle.result c.if-is_err.ensures.value in
    ap entry_check (sym (going_wrong n c.args.count es rest _ c.loop-block.from c.in-Some.block.0 c.in-Some.place.0 _ c.in-Some.ensures.steps c.loop-block.invariant
    (unsettled_misfit n c.args.count es rest c.loop-block.from c.in-Some.block.0 c.in-Some.place.0 _ _ no.0 c.loop-block.invariant (with_answer _ _ _ _ no.1 c.settle.ensures))))

pub loop-block-preserved : goal.loop-block-preserved
loop-block-preserved c =
    going_on (file_blocks c.args.file.now.bytes.now) c.args.count (entries c.args.file.now.bytes.now) (entries_left c.loop-block.block-iterator) _ c.loop-block.from c.in-Some.block.0 c.in-Some.place.0 _ _
    c.in-Some.ensures.steps c.loop-block.invariant c.if-block-from.false c.if-place-count.false
    (with_answer _ _ _ _ (was_granted c.settle.result c.if-is_err.ensures.value) c.settle.ensures)
