-- What a call leaves in its buffer.
use Rattle.std.proofs.Common.{◌≡◌, ℕ, eqb, leb, ltb, List, [], ◌∷◌, length, get_or, Some, None, Ok, Err, IsOkAnd, MatchResult, vec_items, vec_len, Option, Result, Vec, sym, refl, ap, ◌∙◌, arith}
use Rattle.std.specs.Vec.{with_items}
use Rattle.std.proofs.lemmas.List.{with_items_is}
use Rattle.std.proofs.lemmas.Bool.{cond_both}
use Rattle.layout.specs.Numbers.{Bytes}
use Rattle.denial.specs.Denials as table
use Rattle.denial.specs.Denials.{block_beyond, buffer_length}
use Rattle.seal.specs.Seals.{Rules}
use Rattle.machine.specs.Files.{file_length_of}
use Rattle.machine.specs.Machine.{Machine, Read, Save, Reason, Answer, Valued, Denied, Outcome, denied, opened_at, awaited, read_opened, read_landed, read_waiting, read_step, saved, save_waiting}
use Rattle.machine.specs.Makings.{Store, Open, Shut, Called, call}
use Rattle.answers.specs.declared.denials.Denial.{Denial}
use Rattle.answers.specs.Told.{reason_of}
use Rattle.engine.specs.Steps.{answer_by}
use Rattle.runs.specs.Told.{granted_told, granted_buffer}
use Rattle.runs.specs.Performed.{called_told}
use Rattle.runs.specs.declared.calls.Granted.{Granted}

-- a buffer of the caller's, filled by a call that began with it
pub into_buffer : {Z : Type 0} (d : List ℕ → Called) (a : Answer) (s : Store) (v : Vec ℕ Z) (xs given last : List ℕ)
    → given ≡ vec_items v → vec_items v ≡ xs → length last ≡ vec_len v
    → record { answer = a; buffer = last; store = s } ≡ d given
    → record { answer = a; buffer = vec_items (with_items v last); store = s } ≡ d xs
into_buffer d a s v xs given last e f l h =
    ap (λ (ws : List ℕ). record { answer = a; buffer = ws; store = s }) (with_items_is v last l) ∙ (h ∙ ap d (e ∙ f))

-- a denied read leaves its buffer
abbrev Kept : List ℕ → Answer → List ℕ → Type 0
Kept before a after = (r : Reason) → a ≡ Denied r → after ≡ before

granted : {P : Type 0} (a : Answer) (r : Reason) → a ≡ Valued → a ≡ Denied r → P
granted a r e f = let z : ◌≡◌ {A = ℕ} 0 1 = cc in absurd (omega arith)

kept_opened : (m : Machine) (buffer : Bytes) (x : Result Bytes table.Denial) → Kept buffer (read_opened m buffer x).answer (read_opened m buffer x).buffer
kept_opened m buffer (Ok body) r e = granted Valued r refl e
kept_opened m buffer (Err d) r e = refl

kept_landed : (rules : Rules) (m : Machine) (buffer : Bytes) (place : Option ℕ) → Kept buffer (read_landed rules m buffer place).answer (read_landed rules m buffer place).buffer
kept_landed rules m buffer None r e = granted Valued r refl e
kept_landed rules m buffer (Some p) r e = kept_opened m buffer (opened_at rules m.card p) r e

kept_waiting : (rules : Rules) (m : Machine) (buffer : Bytes) (place : Option ℕ) (value : Option Bytes)
    → Kept buffer (read_waiting rules m buffer place value).answer (read_waiting rules m buffer place value).buffer
kept_waiting rules m buffer place (Some v) r e = granted Valued r refl e
kept_waiting rules m buffer place None r e = kept_landed rules m buffer place r e

kept_read : (rules : Rules) (m : Machine) (b : ℕ) (buffer : Bytes) → Kept buffer (read_step rules m b buffer).answer (read_step rules m b buffer).buffer
kept_read rules m b buffer =
    let P : Outcome → Type 0 = λ o. Kept buffer o.answer o.buffer in
    let inner : Outcome = read_waiting rules m buffer (get_or m.places b None) (awaited m.waiting b) in
    cond_both (ltb b (length m.places)) _ _ P
    (λ _. cond_both (eqb (length buffer) 48) inner (denied m buffer buffer_length) P
    (λ _. kept_waiting rules m buffer (get_or m.places b None) (awaited m.waiting b)) (λ _ r e. refl))
    (λ _ r e. refl)

kept_save : (m : Machine) (buffer : Bytes) (ws : List (ℕ × Bytes)) → Kept buffer (save_waiting m buffer ws).answer (save_waiting m buffer ws).buffer
kept_save m buffer [] =
    cond_both (leb (file_length_of m.places) (length buffer)) (saved m buffer) (denied m buffer buffer_length) (λ o. Kept buffer o.answer o.buffer)
    (λ _ r e. let z : ◌≡◌ {A = ℕ} 0 1 = cc in absurd (omega arith)) (λ _ r e. refl)
kept_save m buffer (w ∷ ws) = λ r e. refl

pub kept_by_read : (rules : Rules) (s : Store) (b : ℕ) (buffer : Bytes) → Kept buffer (call rules s (Read b buffer)).answer (call rules s (Read b buffer)).buffer
kept_by_read rules (Open m) b buffer = kept_read rules m b buffer
kept_by_read rules (Shut why card tape) b buffer = λ r e. refl

pub kept_by_save : (rules : Rules) (s : Store) (buffer : Bytes) → Kept buffer (call rules s (Save buffer)).answer (call rules s (Save buffer)).buffer
kept_by_save rules (Open m) buffer = kept_save m buffer m.waiting
kept_by_save rules (Shut why card tape) buffer = λ r e. refl

-- a call into a buffer of its own that began as `zeros`, and what its answer tells: the call was `d`, on a buffer with the vector's items
pub into_own : {X Z : Type 0} (d : List ℕ → Called) (told : X → Answer) (s : Store) (v : Vec ℕ Z) (zeros given last : List ℕ)
    (r : Result X Denial) (m : Result Granted Denial) (P : X → Granted → Type 0)
    → given ≡ vec_items v → vec_items v ≡ zeros → length last ≡ vec_len v
    → record { answer = answer_by told r; buffer = last; store = s } ≡ d given
    → Kept zeros (d zeros).answer (d zeros).buffer
    → MatchResult r (λ x. IsOkAnd m (P x)) (λ e. m ≡ Err e)
    → ((x : X) (g : Granted) → P x g → (granted_told g ≡ told x) × (granted_buffer g ≡ vec_items (with_items v last)))
    → called_told zeros m s ≡ d zeros
into_own d told s v zeros given last (Ok x) (Ok g) P e f l h kept k shows =
    let is = shows x g k in
    rw (is.0, is.1) (into_buffer d (told x) s v zeros given last e f l h)
into_own d told s v zeros given last (Ok x) (Err why) P e f l h kept k shows = absurd k
into_own d told s v zeros given last (Err why) m P e f l h kept k shows =
    let r = reason_of why in
    let same = h ∙ ap d (e ∙ f) in
    let buffer = ap (λ (x : Called). x.buffer) same ∙ kept r (sym (ap (λ (x : Called). x.answer) same)) in
    rw k (ap (λ (xs : List ℕ). record { answer = Denied r; buffer = xs; store = s }) (sym buffer) ∙ same)
