use Rattle.std.proofs.Common.{◌≡◌, ◌<◌, drop, take, length, ◌-◌, ◌/◌, ap, ◌∙◌, arith}
use Rattle.std.specs.Simd.{first_chunks}
use Rattle.std.proofs.lemmas.List.{length-drop, take_all}
use Rattle.layout.specs.Numbers.{Bytes}
use Rattle.machine.specs.Files.{paired, entries, file_landed}
use Rattle.mapfile.specs.Listed.{spelled}
use Rattle.mapfile.proofs.Listed.{entries_are, entries_small}
use Rattle.mapfile.proofs.file.MapFile.entries.Goals as goal

pub returns : goal.returns
returns c =
    let file : Bytes = c.args.self.now.bytes.now in
    let chunks = c.as_chunks.result.0.now in
    let n = c.landed.result in
    let tail : take (length file - 10) (drop 10 file) ≡ drop 10 file = (let l = length-drop 10 file in take_all (length file - 10) (drop 10 file) (omega arith)) in
    record {
      in_file_order = c.new.ensures
          ∙ (ap (λ z. paired (spelled z) (spelled c.split_at.result.1.now)) c.split_at.ensures.front
          ∙ (ap (λ z. paired (spelled (take n chunks)) (spelled z)) c.split_at.ensures.back
          ∙ entries_are file chunks n c.args.self.now.as_long_as_it_says c.landed.ensures (c.as_chunks.ensures.front ∙ ap (λ (z : Bytes). first_chunks 2 (length z / 2) z) tail)));
      in_two_bytes = entries_small file c.args.self.now.in_bytes;
    }
