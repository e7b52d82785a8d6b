use Rattle.std.proofs.Common.{ℕ, ◌≤◌, ◌++◌, length, take, drop, ap, ◌∙◌, arith}
use Rattle.std.proofs.lemmas.List.{take_all, length-drop}
use Rattle.layout.specs.Numbers.{Bytes, little, number}
use Rattle.layout.specs.Layouts.{body_of, block_in, value_in}
use Rattle.layout.proofs.Pieces.{little_first_four}
use Rattle.layout.proofs.body.Body.from_bytes.Goals as goal

pub returns : goal.returns
unfolding body_of block_in value_in
returns c =
    let bs : Bytes = c.args.bytes.now in
    let block = c.first_number.ensures in
    let l : length (drop 4 bs) ≤ 48 = simp length-drop (omega arith) in
    let value = c.copy_from_slice.ensures.after ∙ take_all 48 (drop 4 bs) l in
    record {
      taken_apart = (block, value);
      goes_together_again = ap (λ (n : ℕ). little 4 n ++ c.copy_from_slice.new.self) block
          ∙ (ap (λ (v : Bytes). little 4 (number (take 4 bs)) ++ v) value
          ∙ little_first_four bs (omega arith) (omega arith) (omega arith) (omega arith) (omega arith));
    }
