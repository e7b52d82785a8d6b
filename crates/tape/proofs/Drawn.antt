-- The words of a keyed tape, one by one.
use Rattle.std.proofs.Common.{◌≡◌, ℕ, suc, ◌+◌, ◌-◌, ◌/◌, ◌%◌, ◌<◌, List, ◌∷◌, get_or, Ok, Result, sym, ap, ◌∙◌, add-one, arith}
use Rattle.layout.specs.Numbers.{Bytes}
use Rattle.denial.specs.Denials.{Denial}
use Rattle.tape.specs.Tapes.{draw_of}
use Rattle.tape.specs.Keyed.{tape_block, tape_word, keyed_words}

-- the words from i on, of n in all: word i, then those from i + 1 on
pub keyed_first : (key nonce : Bytes) (i n : ℕ) → i < n
    → keyed_words key nonce i (n - i) ≡ tape_word key nonce i ∷ keyed_words key nonce (i + 1) (n - (i + 1))
keyed_first key nonce i n h =
    let e : n - i ≡ suc (n - (i + 1)) = omega arith in
    ap (keyed_words key nonce i) e ∙ ap (λ (j : ℕ). tape_word key nonce i ∷ keyed_words key nonce j (n - (i + 1))) (sym (add-one i))

pub draws_first : (key nonce block : Bytes) (i n : ℕ) → i < n → block ≡ tape_block key nonce (i / 16)
    → ◌≡◌ {A = Result ℕ Denial × List ℕ} (Ok (get_or block (i % 16) 0), keyed_words key nonce (i + 1) (n - (i + 1))) (draw_of (keyed_words key nonce i (n - i)))
draws_first key nonce block i n h e =
    ap (λ (b : Bytes). (let r : Result ℕ Denial × List ℕ = (Ok (get_or b (i % 16) 0), keyed_words key nonce (i + 1) (n - (i + 1))) in r)) e
    ∙ ap draw_of (sym (keyed_first key nonce i n h))
