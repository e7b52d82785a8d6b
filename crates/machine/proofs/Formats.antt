-- A granted format leaves a sound machine, with a dummy at each place and zeros in each block.
use Rattle.std.proofs.Common.{◌≡◌, ℕ, zero, suc, ◌+◌, ◌≤◌, List, [], ◌∷◌, map, length, get_or, replicate, Some, None, Option, sym, refl, ap, ◌∙◌, subst, ⊎_elim, arith}
use Rattle.std.specs.List.{range_with_len, AllByRecursion as All}
use Rattle.std.proofs.lemmas.List.{length-replicate, get_or-replicate, get_or_past}
use Rattle.std.proofs.lemmas.Bool.{cases_lt}
use Rattle.layout.specs.Numbers.{Bytes}
use Rattle.layout.specs.Layouts.{zeros, no_block, dummy_body, face}
use Rattle.layout.proofs.Apart.{body_apart}
use Rattle.seal.specs.Seals.{Rules, Lawful}
use Rattle.machine.specs.Makings.{dummies, formatted}
use Rattle.machine.specs.Runs.{Sealing, format_sealings, value_at}
use Rattle.machine.proofs.Lookups.{none_some}
use Rattle.machine.proofs.Invariant.{Sound, holds, counter_sealed}
use Rattle.machine.proofs.Transcripts.{Numbered}
use Rattle.machine.proofs.Granted.{Sized}

abbrev pub nowhere : Option ℕ
nowhere = None

pub vacant : (n b : ℕ) → get_or (replicate n nowhere) b None ≡ None
vacant n b =
    ⊎_elim (λ l. get_or-replicate n b nowhere None l) (λ l. get_or_past (replicate n nowhere) b None (omega (arith, length-replicate n nowhere))) (cases_lt b n)

never_vacant : (n b p : ℕ) → get_or (replicate n nowhere) b None ≡ Some p → ⊥
never_vacant n b p e = none_some p (sym (vacant n b) ∙ e)

-- ---- the dummies

pub length_dummies : (rules : Rules) (i : ℕ) (rs : List Bytes) → length (dummies rules i rs) ≡ length rs
length_dummies rules i [] = refl
length_dummies rules i (r ∷ rs) = ap suc (length_dummies rules (suc i) rs)

pub face_dummies : (rules : Rules) → Lawful rules → (i : ℕ) (rs : List Bytes) → i + length rs ≤ 1024 → face (dummies rules i rs) ≡ range_with_len (i + 1) (length rs)
face_dummies rules lawful i [] h = refl
face_dummies rules lawful i (r ∷ rs) h =
    let one = counter_sealed rules lawful i (i + 1) dummy_body (omega arith) (body_apart no_block zeros (omega arith) refl).body_long in
    let rest = face_dummies rules lawful (suc i) rs (omega arith) in
    let next : suc i + 1 ≡ i + 1 + 1 = omega arith in
    cc

pub dummies_sealed : (rules : Rules) (i : ℕ) (rs : List Bytes)
    → dummies rules i rs ≡ map (λ (s : Sealing). rules.sealed s.place s.counter dummy_body) (format_sealings i rs)
dummies_sealed rules i [] = refl
dummies_sealed rules i (r ∷ rs) = ap (λ (k : List Bytes). rules.sealed i (i + 1) dummy_body ∷ k) (dummies_sealed rules (suc i) rs)

counting_low : (n a k : ℕ) → a + k ≤ n + 1 → All (λ c. c ≤ n) (range_with_len a k)
counting_low n a zero h = tt
counting_low n a (suc k) h = (omega arith, counting_low n (a + 1) k (omega arith))

-- ---- format's sealings have the counters from 1 on

pub numbered_format : (i : ℕ) (rs : List Bytes) → Numbered (i + 1) (format_sealings i rs)
numbered_format i [] = tt
numbered_format i (r ∷ rs) = (refl, subst (λ (n : ℕ). Numbered n (format_sealings (suc i) rs)) (omega arith) (numbered_format (suc i) rs))

pub length_format : (i : ℕ) (rs : List Bytes) → length (format_sealings i rs) ≡ length rs
length_format i [] = refl
length_format i (r ∷ rs) = ap suc (length_format (suc i) rs)

-- ---- the machine

pub sound_formatted : (rules : Rules) → Lawful rules → (card : List Bytes) (tape : List ℕ) (n : ℕ) → Sized n (length card) → Sound rules (formatted rules card tape n)
sound_formatted rules lawful card tape n h =
    let blocks : length (replicate n nowhere) ≡ n = length-replicate n nowhere in
    let count = length_dummies rules 0 card in
    record {
      small = omega (arith, h.small);
      fits = omega (arith, h.small);
      low = rw (face_dummies rules lawful 0 card (omega (arith, h.small))) (counting_low (length card) 1 (length card) (omega arith));
      some = omega (arith, h.some);
      few = omega (arith, h.few);
      room = omega (arith, h.room);
      apart = λ b k p hb hk. absurd (never_vacant n b p hb);
      opens = λ b p hb. absurd (never_vacant n b p hb);
      fitting = tt;
      once = tt;
    }

pub held_formatted : (rules : Rules) (card : List Bytes) (tape : List ℕ) (n b : ℕ) → holds rules (formatted rules card tape n) b ≡ zeros
held_formatted rules card tape n b = ap (value_at rules (dummies rules 0 card)) (vacant n b)
