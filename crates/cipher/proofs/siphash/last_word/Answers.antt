use Rattle.std.proofs.Common.{◌≡◌, ℕ, ◌+◌, ◌-◌, ◌*◌, ◌%◌, ◌^◌, [], ◌∷◌, ◌++◌, length, drop, set, ap, ◌∙◌, arith}
use Rattle.std.specs.Int.{w64, from_le_bytes}
use Rattle.layout.specs.Numbers.{Bytes, number}
use Rattle.cipher.proofs.Words.{number_topped}
use Rattle.cipher.proofs.siphash.last_word.Goals as goal

pub returns : goal.returns
returns c =
    let top = length c.args.message.now % 256 in
    let copied : Bytes = c.copy_from_slice.new.self in
    let e : length c.as_chunks.result.1.now - 0 ≡ length copied = omega arith in
    c.from_le_bytes.ensures
    ∙ (ap (λ (n : ℕ). from_le_bytes w64 (set (copied ++ drop n (0 ∷ 0 ∷ 0 ∷ 0 ∷ 0 ∷ 0 ∷ 0 ∷ 0 ∷ [])) 7 top)) e
    ∙ (number_topped copied top (omega arith) ∙ ap (λ (bs : Bytes). number bs + top * 2 ^ 56) (c.copy_from_slice.ensures.after ∙ c.as_chunks.ensures.back)))
