use Rattle.std.proofs.Common.{◌+◌, length, ap, arith}
use Rattle.std.proofs.lemmas.List.{length-map}
use Rattle.tables.specs.Views.{place_of}
use Rattle.mapfile.proofs.Written.{moved, placed_at, written_none, written_past, written_more, written_all, entry_room}
use Rattle.mapfile.proofs.encode.put_entries.Goals as goal
use Rattle.mapfile.proofs.encode.put_entries.Goals.{in-Some, in_default}

pub loop-block-init : goal.loop-block-init
loop-block-init c = written_none c.args.buffer.now c.args.apart c.args.map.now

pub put_number-requires : goal.put_number-requires
put_number-requires c =
    let r = entry_room c.args.buffer.now c.args.apart c.places-place-items.result.now c.args.map.now c.loop-block.block c.loop-block.at _ c.loop-block.buffer
    c.places-place-items.ensures.by_block c.loop-block-test.true c.in-Some.is c.requires.apart c.requires.room c.loop-block.invariant in
    omega arith

pub overflow_add-at : goal.overflow_add-at
overflow_add-at c =
    let r = entry_room c.args.buffer.now c.args.apart c.places-place-items.result.now c.args.map.now c.loop-block.block c.loop-block.at _ c.loop-block.buffer
    c.places-place-items.ensures.by_block c.loop-block-test.true c.in-Some.is c.requires.apart c.requires.room c.loop-block.invariant in
    omega arith

pub put_number-requires-in-Some : goal.put_number-requires-in-Some
put_number-requires-in-Some c =
    let r = entry_room c.args.buffer.now c.args.apart c.places-place-items.result.now c.args.map.now c.loop-block.block c.loop-block.at _ c.loop-block.buffer
    c.places-place-items.ensures.by_block c.loop-block-test.true c.in-Some.is c.requires.apart c.requires.room c.loop-block.invariant in
    omega arith

pub overflow_add-at-in-Some : goal.overflow_add-at-in-Some
overflow_add-at-in-Some c =
    let r = entry_room c.args.buffer.now c.args.apart c.places-place-items.result.now c.args.map.now c.loop-block.block c.loop-block.at _ c.loop-block.buffer
    c.places-place-items.ensures.by_block c.loop-block-test.true c.in-Some.is c.requires.apart c.requires.room c.loop-block.invariant in
    omega arith

pub loop-block-preserved : goal.loop-block-preserved
loop-block-preserved c =
    let places = c.places-place-items.result.now in
    let old = c.args.buffer.now in
    let i = c.loop-block.block in
    let by_block = c.places-place-items.ensures.by_block in
    elim c.match-place.branch [
      | in-Some w ↦ (let at = placed_at places c.args.map.now i _ by_block c.loop-block-test.true w.in-Some.is in
          moved old c.args.apart c.args.map.now (i + 1) _ _ _ _ w.at-is w.buffer-is
          (written_more old c.args.apart c.args.map.now i c.loop-block.at w.in-Some.place.0 c.loop-block.buffer w.put_number.new.buffer _ at.0 at.1
          c.requires.apart c.requires.room c.loop-block.invariant w.put_number.ensures w.put_number-in-Some.ensures))
      | in_default w ↦ (let at = placed_at places c.args.map.now i _ by_block c.loop-block-test.true w.in_default.is in
          moved old c.args.apart c.args.map.now (i + 1) _ _ _ _ w.at-is w.buffer-is
          (written_past old c.args.apart c.args.map.now i c.loop-block.at c.loop-block.buffer at.0 at.1 c.loop-block.invariant))
    ]

pub returns : goal.returns
returns c =
    let places = c.places-place-items.result.now in
    let l = length-map places place_of in
    let n = ap length c.places-place-items.ensures.by_block in
    written_all c.args.buffer.now c.args.apart c.args.map.now c.loop-block.block c.loop-block.at c.loop-block.buffer (omega arith) c.loop-block.invariant
