use Rattle.std.proofs.Common.{◌≡◌, ℕ, ◌++◌, length, replicate, sym, ap, ◌∙◌, subst, arith}
use borrow.Rule.Slice.PartMut.{put_mid}
use Rattle.std.proofs.lemmas.List.{append_assoc, length-append}
use Rattle.layout.specs.Numbers.{Bytes, little}
use Rattle.layout.specs.Layouts.{record_of, RecordApart}
use Rattle.layout.proofs.Littles.{little_four}
use Rattle.layout.proofs.Apart.{record_apart}
use Rattle.layout.proofs.Pieces.{put_next, put_last}
use Rattle.layout.proofs.records.Record.to_bytes.Goals as goal

laid : (n : ℕ) (s t front sealed tag : Bytes) → front ≡ little 4 n → sealed ≡ s → tag ≡ t → length front ≡ 4 → length sealed ≡ 52
    → put_mid 56 8 (put_mid 4 52 (front ++ replicate 60 0) sealed) tag ≡ record_of n s t
unfolding record_of
laid n s t front sealed tag e f g h k =
    let l : length (front ++ sealed) ≡ 56 = simp length-append (omega arith) in
    ap (λ (u : Bytes). put_mid 56 8 u tag) (put_next 4 52 front (replicate 60 0) sealed h ∙ sym (append_assoc front sealed (replicate 8 0)))
    ∙ (put_last 56 8 (front ++ sealed) (replicate 8 0) tag l (omega arith) ∙ (append_assoc front sealed tag ∙ cc))

pub returns : goal.returns
returns c =
    let n = c.args.self.counter in
    let s = c.args.self.sealed in
    let t = c.args.self.tag in
    let e = laid n s t c.copy_from_slice.new.self c.copy_from_slice-2.new.self c.copy_from_slice-3.new.self
    (c.copy_from_slice.ensures.after ∙ (c.to_le_bytes.ensures ∙ little_four n))
    c.copy_from_slice-2.ensures.after c.copy_from_slice-3.ensures.after (omega arith) (ap length c.copy_from_slice-2.ensures.after ∙ omega arith) in
    let P : Bytes → Type 0 = λ u. RecordApart n s t u in
    record { laid_out = e; comes_apart_again = subst P (sym e) (record_apart n s t (omega arith) (omega arith) (omega arith)) }
