-- The loop of `seal_dummies`.
use Rattle.std.proofs.Common.{◌≡◌, ℕ, suc, ◌+◌, ◌<◌, ◌≤◌, Bool, true, false, cond, ◌&&◌, eqb, List, [], ◌∷◌, ◌++◌, length, get_or, take, drop, set, Ok, Err, Result, sym, refl, ap, ◌∙◌, ⊎_elim, arith}
use Rattle.std.proofs.lemmas.List.{append_assoc, length-append, length-drop, length-take-le, drop_more, set_at, take_more}
use Rattle.layout.specs.Numbers.{Bytes}
use Rattle.layout.specs.Layouts.{body_of, no_block, zeros, dummy_body}
use Rattle.denial.specs.Denials.{Denial, wrong_size}
use Rattle.denial.specs.declared.Layer.TheVariants.{Seal}
use Rattle.card.specs.Cards.{put_of}
use Rattle.card.proofs.Outcomes.{not_put, was_put}
use Rattle.seal.specs.Seals.{Rules, seal_of}
use Rattle.machine.specs.Makings.{dummies}

length_dummies : (rules : Rules) (j : ℕ) (rs : List Bytes) → length (dummies rules j rs) ≡ length rs
length_dummies rules j [] = refl
length_dummies rules j (r ∷ rs) = ap suc (length_dummies rules (suc j) rs)

dummies_push : (rules : Rules) (j : ℕ) (rs : List Bytes) (r : Bytes)
    → dummies rules j (rs ++ r ∷ []) ≡ dummies rules j rs ++ rules.sealed (j + length rs) ((j + length rs) + 1) dummy_body ∷ []
dummies_push rules j [] r = let e : j ≡ j + 0 = omega arith in ap (λ n. rules.sealed n (n + 1) dummy_body ∷ []) e
dummies_push rules j (x ∷ rs) r =
    let e : suc j + length rs ≡ j + suc (length rs) = omega arith in
    ap (λ z. rules.sealed j (j + 1) dummy_body ∷ z) (dummies_push rules (suc j) rs r ∙ ap (λ n. dummies rules (suc j) rs ++ rules.sealed n (n + 1) dummy_body ∷ []) e)

-- the card after i turns: dummies, then what lay there
abbrev pub half_done : Rules → List Bytes → ℕ → List Bytes
half_done rules rs i = dummies rules 0 (take i rs) ++ drop i rs

pub length_half : (rules : Rules) (rs : List Bytes) (i : ℕ) → i ≤ length rs → length (half_done rules rs i) ≡ length rs
length_half rules rs i h =
    let a = length-append (dummies rules 0 (take i rs)) (drop i rs) in
    let b = length_dummies rules 0 (take i rs) in
    let c = length-take-le i rs h in
    let d = length-drop i rs in
    omega arith

pub half_more : (rules : Rules) (rs : List Bytes) (i : ℕ) → i < length rs
    → set (half_done rules rs i) i (rules.sealed i (i + 1) dummy_body) ≡ half_done rules rs (i + 1)
half_more rules rs i h =
    let n = length-take-le i rs (omega arith) in
    let l : 0 + length (take i rs) ≡ i = omega arith in
    ap (λ z. set (dummies rules 0 (take i rs) ++ z) i (rules.sealed i (i + 1) dummy_body)) (drop_more rs i [] h)
    ∙ (set_at (dummies rules 0 (take i rs)) (get_or rs i []) (drop (i + 1) rs) (rules.sealed i (i + 1) dummy_body) i (length_dummies rules 0 (take i rs) ∙ n)
    ∙ (sym (append_assoc (dummies rules 0 (take i rs)) (rules.sealed i (i + 1) dummy_body ∷ []) (drop (i + 1) rs))
    ∙ ap (λ z. z ++ drop (i + 1) rs) (sym (ap (dummies rules 0) (take_more rs i [] h) ∙ (dummies_push rules 0 (take i rs) (get_or rs i []) ∙ ap (λ k. dummies rules 0 (take i rs) ++ rules.sealed k (k + 1) dummy_body ∷ []) l)))))

-- a put of a whole record on the card is never denied
pub put_granted_here : (rs after : List Bytes) (p : ℕ) (bytes : Bytes) (d : Denial) → (Err d, after) ≡ put_of rs p bytes → p < length rs → length bytes ≡ 64 → ⊥
put_granted_here rs after p bytes d e h l =
    ⊎_elim (λ a. let k = a.0 in omega arith) (λ b. b.1 l) (not_put rs p bytes after d e).1

-- a granted sealing gives the rule's record
pub sealed_is : (rules : Rules) (p n : ℕ) (body bytes buffer : Bytes) → (Ok tt, buffer) ≡ seal_of rules p n body bytes → buffer ≡ rules.sealed p n body
sealed_is rules p n body bytes buffer e = go (eqb (length body) 52 && eqb (length bytes) 64) e
  where
    go : (t : Bool) → ◌≡◌ {A = Result (Unit {0}) Denial × Bytes} (Ok tt, buffer) (cond t (Ok tt, rules.sealed p n body) (Err (wrong_size Seal), bytes)) → buffer ≡ rules.sealed p n body
    go true k = ap (λ (x : Result (Unit {0}) Denial × Bytes). x.1) k
    go false k = let z : ◌≡◌ {A = ℕ} 0 1 = (let f : ◌≡◌ {A = Result (Unit {0}) Denial} (Ok tt) (Err (wrong_size Seal)) = ap (λ (x : Result (Unit {0}) Denial × Bytes). x.0) k in cc) in absurd (omega arith)

-- one turn: the record is sealed and put
pub half_put : (rules : Rules) (rs now after : List Bytes) (i block : ℕ) (body bytes buffer value : Bytes) → now ≡ half_done rules rs i → i < length rs
    → body ≡ body_of block value → block ≡ no_block → value ≡ zeros
    → (Ok tt, buffer) ≡ seal_of rules i (i + 1) body bytes → (Ok tt, after) ≡ put_of now i buffer → after ≡ half_done rules rs (i + 1)
half_put rules rs now after i block body bytes buffer value e h b n v s p =
    let dummy : body ≡ dummy_body = b ∙ cc in
    (was_put now i buffer after p).2
    ∙ (ap (λ (z : List Bytes). set z i buffer) e
    ∙ (ap (set (half_done rules rs i) i) (sealed_is rules i (i + 1) body bytes buffer s ∙ ap (rules.sealed i (i + 1)) dummy) ∙ half_more rules rs i h))
