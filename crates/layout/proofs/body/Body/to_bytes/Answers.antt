use Rattle.std.proofs.Common.{◌≡◌, ℕ, ◌++◌, sym, ◌∙◌, subst, arith}
use Rattle.layout.specs.Numbers.{Bytes, little}
use Rattle.layout.specs.Layouts.{body_of, zeros, BodyApart}
use Rattle.layout.proofs.Littles.{little_four}
use Rattle.layout.proofs.Apart.{body_apart}
use Rattle.layout.proofs.Pieces.{put_last}
use Rattle.layout.proofs.body.Body.to_bytes.Goals as goal

laid : (n : ℕ) (v front value : Bytes) → front ≡ little 4 n → value ≡ v → front ++ value ≡ body_of n v
unfolding body_of
laid n v front value e f = cc

pub returns : goal.returns
returns c =
    let n = c.args.self.block.0 in
    let v = c.args.self.value in
    let front : Bytes = c.copy_from_slice.new.self in
    let value : Bytes = c.copy_from_slice-2.new.self in
    let e = put_last 4 48 front zeros value (omega arith) (omega arith)
    ∙ laid n v front value (c.copy_from_slice.ensures.after ∙ (c.to_le_bytes.ensures ∙ little_four n)) c.copy_from_slice-2.ensures.after in
    let P : Bytes → Type 0 = λ u. BodyApart n v u in
    record { laid_out = e; comes_apart_again = subst P (sym e) (body_apart n v (omega arith) (omega arith)) }
