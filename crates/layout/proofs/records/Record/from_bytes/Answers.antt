use Rattle.std.proofs.Common.{◌≡◌, ℕ, ◌≤◌, ◌++◌, length, take, drop, sym, ap, ◌∙◌, arith}
use Rattle.std.proofs.lemmas.List.{take_all, length-drop, drop-drop, take-append-drop}
use Rattle.layout.specs.Numbers.{Bytes, little, number}
use Rattle.layout.specs.Layouts.{record_of, counter_in, sealed_in, tag_in}
use Rattle.layout.proofs.Pieces.{little_first_four}
use Rattle.layout.proofs.records.Record.from_bytes.Goals as goal

pub returns : goal.returns
unfolding record_of counter_in sealed_in tag_in
returns c =
    let bs : Bytes = c.args.bytes.now in
    let n = c.clear_counter.ensures in
    let s = c.copy_from_slice.ensures.after in
    let l : length (drop 56 bs) ≤ 8 = simp length-drop (omega arith) in
    let t = c.copy_from_slice-2.ensures.after ∙ take_all 8 (drop 56 bs) l in
    let rest : take 52 (drop 4 bs) ++ drop 56 bs ≡ drop 4 bs = ap (λ (u : Bytes). take 52 (drop 4 bs) ++ u) (sym (drop-drop 52 4 bs)) ∙ take-append-drop 52 (drop 4 bs) in
    record {
      counter = n;
      sealed = s;
      tag = t;
      goes_together_again = ap (λ (k : ℕ). little 4 k ++ (c.copy_from_slice.new.self ++ c.copy_from_slice-2.new.self)) n
          ∙ (ap (λ (u : Bytes). little 4 (number (take 4 bs)) ++ (u ++ c.copy_from_slice-2.new.self)) s
          ∙ (ap (λ (u : Bytes). little 4 (number (take 4 bs)) ++ (take 52 (drop 4 bs) ++ u)) t
          ∙ (ap (λ (u : Bytes). little 4 (number (take 4 bs)) ++ u) rest
          ∙ little_first_four bs (omega arith) (omega arith) (omega arith) (omega arith) (omega arith))));
    }
