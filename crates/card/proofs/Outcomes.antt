-- When a get or a put gives which answer, and what its answer tells.
use Rattle.std.proofs.Common.{◌≡◌, ℕ, ◌<◌, ◌≤◌, Bool, true, false, cond, eqb, ltb, ◌⊎◌, List, [], length, get_or, set, Ok, Err, Result, sym, refl, ap, ◌∙◌, inl, inr, ⊎_elim, arith, length-set}
use Rattle.std.proofs.lemmas.Bool.{lt-ltb, le-ltb, eq-eqb, ne_eqb, ltb-true, ltb-false, eqb-true, eqb-false}
use Rattle.layout.specs.Numbers.{Bytes}
use Rattle.denial.specs.Denials.{Denial, place_beyond, wrong_size, told}
use Rattle.denial.specs.declared.Layer.TheVariants.{Card}
use Rattle.card.specs.declared.fault.CardFault.{CardFault}
use Rattle.card.specs.Faults.{card_denial}
use Rattle.card.specs.Cards.{allowed, if_granted, get_of, put_of}

abbrev Answer : Type 0
Answer = Result (Unit {0}) Denial

-- ---- when each answer comes

allows : (rs : List Bytes) (p n : ℕ) → p < length rs → n ≡ 64 → allowed rs p n ≡ Ok tt
allows rs p n h e = rw (lt-ltb p (length rs) h, eq-eqb n 64 e)

denies_place : (rs : List Bytes) (p n : ℕ) → length rs ≤ p → allowed rs p n ≡ Err (place_beyond p)
denies_place rs p n h = rw (le-ltb p (length rs) h)

denies_size : (rs : List Bytes) (p n : ℕ) → p < length rs → (n ≡ 64 → ⊥) → allowed rs p n ≡ Err (wrong_size Card)
denies_size rs p n h e = rw (lt-ltb p (length rs) h, ne_eqb n 64 e)

get_by : (rs : List Bytes) (p : ℕ) (buffer : Bytes) (a : Answer) → allowed rs p (length buffer) ≡ a → get_of rs p buffer ≡ (a, if_granted a (get_or rs p []) buffer)
get_by rs p buffer a e = ap (λ (o : Answer). (o, if_granted o (get_or rs p []) buffer)) e

put_by : (rs : List Bytes) (p : ℕ) (bytes : Bytes) (a : Answer) → allowed rs p (length bytes) ≡ a → put_of rs p bytes ≡ (a, if_granted a (set rs p bytes) rs)
put_by rs p bytes a e = ap (λ (o : Answer). (o, if_granted o (set rs p bytes) rs)) e

pub get_granted : (rs : List Bytes) (p : ℕ) (buffer : Bytes) → p < length rs → length buffer ≡ 64 → get_of rs p buffer ≡ (Ok tt, get_or rs p [])
get_granted rs p buffer h e = get_by rs p buffer (Ok tt) (allows rs p (length buffer) h e)

pub get_beyond : (rs : List Bytes) (p : ℕ) (buffer : Bytes) → length rs ≤ p → get_of rs p buffer ≡ (Err (place_beyond p), buffer)
get_beyond rs p buffer h = get_by rs p buffer (Err (place_beyond p)) (denies_place rs p (length buffer) h)

pub get_wrong_size : (rs : List Bytes) (p : ℕ) (buffer : Bytes) → p < length rs → (length buffer ≡ 64 → ⊥) → get_of rs p buffer ≡ (Err (wrong_size Card), buffer)
get_wrong_size rs p buffer h e = get_by rs p buffer (Err (wrong_size Card)) (denies_size rs p (length buffer) h e)

pub put_granted : (rs : List Bytes) (p : ℕ) (bytes : Bytes) → p < length rs → length bytes ≡ 64 → put_of rs p bytes ≡ (Ok tt, set rs p bytes)
put_granted rs p bytes h e = put_by rs p bytes (Ok tt) (allows rs p (length bytes) h e)

pub put_beyond : (rs : List Bytes) (p : ℕ) (bytes : Bytes) → length rs ≤ p → put_of rs p bytes ≡ (Err (place_beyond p), rs)
put_beyond rs p bytes h = put_by rs p bytes (Err (place_beyond p)) (denies_place rs p (length bytes) h)

pub put_wrong_size : (rs : List Bytes) (p : ℕ) (bytes : Bytes) → p < length rs → (length bytes ≡ 64 → ⊥) → put_of rs p bytes ≡ (Err (wrong_size Card), rs)
put_wrong_size rs p bytes h e = put_by rs p bytes (Err (wrong_size Card)) (denies_size rs p (length bytes) h e)

-- ---- what an answer tells; after a `?` that hands a fault f up, d is `card_denial f`

-- the denial that comes, and why
abbrev pub Refused : List Bytes → ℕ → ℕ → Denial → Type 0
Refused rs p n d = ((length rs ≤ p) × (d ≡ place_beyond p)) ⊎ ((p < length rs) × (n ≡ 64 → ⊥) × (d ≡ wrong_size Card))

ok_or_err : (d : Denial) → ◌≡◌ {A = Answer} (Ok tt) (Err d) → ⊥
ok_or_err d e = let z : ◌≡◌ {A = ℕ} 0 1 = cc in omega arith

same_denial : (c d : Denial) → ◌≡◌ {A = Answer} (Err c) (Err d) → c ≡ d
same_denial c d e = cc

ok_tests : (s t : Bool) (c d : Denial) → ◌≡◌ {A = Answer} (Ok tt) (cond s (cond t (Ok tt) (Err c)) (Err d)) → (s ≡ true) × (t ≡ true)
ok_tests true true c d e = (refl, refl)
ok_tests true false c d e = absurd (ok_or_err c e)
ok_tests false t c d e = absurd (ok_or_err d e)

err_tests : (s t : Bool) (c d x : Denial) → ◌≡◌ {A = Answer} (Err x) (cond s (cond t (Ok tt) (Err c)) (Err d))
    → ((s ≡ false) × (x ≡ d)) ⊎ ((s ≡ true) × (t ≡ false) × (x ≡ c))
err_tests true true c d x e = absurd (ok_or_err x (sym e))
err_tests true false c d x e = inr (refl, refl, same_denial x c e)
err_tests false t c d x e = inl (refl, same_denial x d e)

tells_ok : (rs : List Bytes) (p n : ℕ) → Ok tt ≡ allowed rs p n → (p < length rs) × (n ≡ 64)
tells_ok rs p n e =
    let t = ok_tests (ltb p (length rs)) (eqb n 64) (wrong_size Card) (place_beyond p) e in
    (ltb-true p (length rs) t.0, eqb-true n 64 t.1)

tells_err : (rs : List Bytes) (p n : ℕ) (d : Denial) → Err d ≡ allowed rs p n → Refused rs p n d
tells_err rs p n d e =
    ⊎_elim
    (λ t. inl (ltb-false p (length rs) t.0, t.1))
    (λ t. inr (ltb-true p (length rs) t.0, eqb-false n 64 t.1, t.2))
    (err_tests (ltb p (length rs)) (eqb n 64) (wrong_size Card) (place_beyond p) d e)

answer_of : {X : Type 0} (o r : Answer × X) → o ≡ r → o.0 ≡ r.0
answer_of o r e = ap (λ (x : Answer × _). x.0) e

left_by : {X : Type 0} (a b : Answer) (x new old : X) → ◌≡◌ {A = Answer × X} (a, x) (b, if_granted b new old) → x ≡ if_granted a new old
left_by a b x new old e =
    ap (λ (o : Answer × _). o.1) e ∙ ap (λ (o : Answer). if_granted o new old) (sym (ap (λ (o : Answer × _). o.0) e))

pub got : (rs : List Bytes) (p : ℕ) (buffer after : Bytes) → (Ok tt, after) ≡ get_of rs p buffer
    → (p < length rs) × (length buffer ≡ 64) × (after ≡ get_or rs p [])
got rs p buffer after e =
    let a = allowed rs p (length buffer) in
    let t = tells_ok rs p (length buffer) (answer_of (Ok tt, after) (get_of rs p buffer) e) in
    (t.0, t.1, left_by (Ok tt) a after (get_or rs p []) buffer e)

pub not_got : (rs : List Bytes) (p : ℕ) (buffer after : Bytes) (d : Denial) → (Err d, after) ≡ get_of rs p buffer
    → (after ≡ buffer) × Refused rs p (length buffer) d
not_got rs p buffer after d e =
    let a = allowed rs p (length buffer) in
    (left_by (Err d) a after (get_or rs p []) buffer e, tells_err rs p (length buffer) d (answer_of (Err d, after) (get_of rs p buffer) e))

pub was_put : (rs : List Bytes) (p : ℕ) (bytes : Bytes) (after : List Bytes) → (Ok tt, after) ≡ put_of rs p bytes
    → (p < length rs) × (length bytes ≡ 64) × (after ≡ set rs p bytes)
was_put rs p bytes after e =
    let a = allowed rs p (length bytes) in
    let t = tells_ok rs p (length bytes) (answer_of (Ok tt, after) (put_of rs p bytes) e) in
    (t.0, t.1, left_by (Ok tt) a after (set rs p bytes) rs e)

pub not_put : (rs : List Bytes) (p : ℕ) (bytes : Bytes) (after : List Bytes) (d : Denial) → (Err d, after) ≡ put_of rs p bytes
    → (after ≡ rs) × Refused rs p (length bytes) d
not_put rs p bytes after d e =
    let a = allowed rs p (length bytes) in
    (left_by (Err d) a after (set rs p bytes) rs e, tells_err rs p (length bytes) d (answer_of (Err d, after) (put_of rs p bytes) e))

-- at a place of the card and with 64 bytes no denial comes
never_refused : (rs : List Bytes) (p n : ℕ) (d : Denial) → p < length rs → n ≡ 64 → Refused rs p n d → ⊥
never_refused rs p n d h e r = ⊎_elim (λ x. let l = x.0 in omega arith) (λ x. x.1 e) r

told_ok : (r : Result (Unit {0}) CardFault) (n : ℕ) (rs : List Bytes) (p : ℕ) → told card_denial r ≡ allowed rs p n → p < length rs → n ≡ 64 → r ≡ Ok tt
told_ok (Ok u) n rs p e h l = refl
told_ok (Err f) n rs p e h l = absurd (never_refused rs p n (card_denial f) h l (tells_err rs p n (card_denial f) e))

pub get_is_ok : (r : Result (Unit {0}) CardFault) (rs : List Bytes) (p : ℕ) (buffer after : Bytes) → (told card_denial r, after) ≡ get_of rs p buffer
    → p < length rs → length buffer ≡ 64 → (r ≡ Ok tt) × (after ≡ get_or rs p [])
get_is_ok r rs p buffer after e h l = (
  told_ok r (length buffer) rs p (answer_of (told card_denial r, after) (get_of rs p buffer) e) h l,
  ap (λ (o : Answer × Bytes). o.1) (e ∙ get_granted rs p buffer h l),
)

pub put_is_ok : (r : Result (Unit {0}) CardFault) (rs : List Bytes) (p : ℕ) (bytes : Bytes) (after : List Bytes) → (told card_denial r, after) ≡ put_of rs p bytes
    → p < length rs → length bytes ≡ 64 → (r ≡ Ok tt) × (after ≡ set rs p bytes)
put_is_ok r rs p bytes after e h l = (
  told_ok r (length bytes) rs p (answer_of (told card_denial r, after) (put_of rs p bytes) e) h l,
  ap (λ (o : Answer × List Bytes). o.1) (e ∙ put_granted rs p bytes h l),
)

-- a put never changes the count
pub put_keeps_count : (rs : List Bytes) (p : ℕ) (bytes : Bytes) (answer : Answer) (after : List Bytes) → (answer, after) ≡ put_of rs p bytes → length after ≡ length rs
put_keeps_count rs p bytes (Ok u) after e = ap length (was_put rs p bytes after e).2 ∙ length-set rs p bytes
put_keeps_count rs p bytes (Err d) after e = ap length (not_put rs p bytes after d e).0
