-- A granted resume leaves a sound machine, with each listed block holding what its place opens to.
use Rattle.std.proofs.Common.{◌≡◌, ℕ, zero, suc, ◌*◌, ◌^◌, ◌<◌, ◌≤◌, Bool, true, false, cond, not, ◌&&◌, eqb, ltb, leb, ◌⊎◌, List, [], ◌∷◌, length, get_or, take, drop, set, replicate, Some, None, Ok, Err, Option, Result, sym, refl, ap, ◌∙◌, subst, inl, inr, ⊎_elim, arith}
use native.Mathlib.Nat.{pow-succ'}
use Rattle.std.specs.List.{AllByRecursion as All}
use Rattle.std.proofs.lemmas.List.{length-set, length-replicate, get_or-set_same, get_or-set_other}
use Rattle.std.proofs.ByRecursion.{All-drop}
use Rattle.std.proofs.lemmas.Bool.{cases_eq, ltb-true, leb-true, eqb-true, eqb-false, eq-eqb, ne_eqb, and_parts, or_parts, not-true, both_ways, cond-true, cond-false}
use Rattle.layout.specs.Numbers.{Bytes, number}
use Rattle.layout.specs.Layouts.{block_in, counter_in, face}
use Rattle.denial.specs.Denials.{Denial, entry_other}
use Rattle.seal.specs.Seals.{Rules}
use Rattle.machine.specs.Files.{file_blocks, file_last, entries}
use Rattle.machine.specs.Machine.{Machine, Reason, DenialOf, opened_at}
use Rattle.machine.specs.Makings.{among, entries_fit, above, entry_opened, first_of, entries_open, settled, resumed}
use Rattle.machine.specs.Runs.{listed, value_at}
use Rattle.machine.proofs.Lookups.{none_some, some_same}
use Rattle.machine.proofs.Invariant.{Opens, Sound, holds}
use Rattle.machine.proofs.Granted.{Resumed}
use Rattle.machine.proofs.Formats.{nowhere, vacant}

-- ---- the entries of a map file

record Entry (n count from : ℕ) (seen : List ℕ) (e : ℕ × ℕ) (es : List (ℕ × ℕ)) : Type 0 where
  pub from_on : from ≤ e.0
  pub block : e.0 < n
  pub new : among seen e.1 ≡ false
  pub rest : entries_fit n count (suc e.0) (e.1 ∷ seen) es ≡ true

entry : (n count from : ℕ) (seen : List ℕ) (e : ℕ × ℕ) (es : List (ℕ × ℕ)) → entries_fit n count from seen (e ∷ es) ≡ true → Entry n count from seen e es
entry n count from seen e es h =
    let a = and_parts (leb from e.0 && ltb e.0 n) ((ltb e.1 count && not (among seen e.1)) && entries_fit n count (suc e.0) (e.1 ∷ seen) es) h in
    let b = and_parts (leb from e.0) (ltb e.0 n) a.0 in
    let c = and_parts (ltb e.1 count && not (among seen e.1)) (entries_fit n count (suc e.0) (e.1 ∷ seen) es) a.1 in
    let d = and_parts (ltb e.1 count) (not (among seen e.1)) c.0 in
    record { from_on = leb-true _ _ b.0; block = ltb-true _ _ b.1; new = not-true _ d.1; rest = c.1 }

-- cases of a look-up in the entries
listed_cases : (e : ℕ × ℕ) (es : List (ℕ × ℕ)) (b p : ℕ) → listed (e ∷ es) b ≡ Some p
    → ((e.0 ≡ b) × (e.1 ≡ p)) ⊎ ((e.0 ≡ b → ⊥) × (listed es b ≡ Some p))
listed_cases e es b p h = go (eqb e.0 b) refl h
  where
    go : (t : Bool) → eqb e.0 b ≡ t → cond t (Some e.1) (listed es b) ≡ Some p
        → ((e.0 ≡ b) × (e.1 ≡ p)) ⊎ ((e.0 ≡ b → ⊥) × (listed es b ≡ Some p))
    go true g k = inl (eqb-true _ _ g, some_same _ _ k)
    go false g k = inr (eqb-false _ _ g, k)

-- a block below the first is not listed
unlisted : (n count from : ℕ) (seen : List ℕ) (es : List (ℕ × ℕ)) (b : ℕ) → entries_fit n count from seen es ≡ true → b < from → listed es b ≡ None
unlisted n count from seen [] b h l = refl
unlisted n count from seen (e ∷ es) b h l =
    let y = entry n count from seen e es h in
    cond-false (eqb e.0 b) (Some e.1) (listed es b) (ne_eqb e.0 b (λ g. omega (arith, y.from_on)))
    ∙ unlisted n count (suc e.0) (e.1 ∷ seen) es b y.rest (omega (arith, y.from_on))

-- a listed place was not seen before
unseen : (n count from : ℕ) (seen : List ℕ) (es : List (ℕ × ℕ)) (b p : ℕ) → entries_fit n count from seen es ≡ true → listed es b ≡ Some p → among seen p ≡ false
unseen n count from seen [] b p h g = absurd (none_some p g)
unseen n count from seen (e ∷ es) b p h g =
    let y = entry n count from seen e es h in
    ⊎_elim
    (λ z. ap (among seen) (sym z.1) ∙ y.new)
    (λ z. (or_parts (eqb e.1 p) (among seen p) (unseen n count (suc e.0) (e.1 ∷ seen) es b p y.rest z.1)).1)
    (listed_cases e es b p g)

later_other : (n count from : ℕ) (seen : List ℕ) (e : ℕ × ℕ) (es : List (ℕ × ℕ)) (b p : ℕ) → Entry n count from seen e es → listed es b ≡ Some p → e.1 ≡ p → ⊥
later_other n count from seen e es b p y g z =
    both_ways (eqb e.1 p) (or_parts (eqb e.1 p) (among seen p) (unseen n count (suc e.0) (e.1 ∷ seen) es b p y.rest g)).0 (eq-eqb _ _ z)

-- two blocks are not listed at one place
listed_apart : (n count from : ℕ) (seen : List ℕ) (es : List (ℕ × ℕ)) (b k p : ℕ) → entries_fit n count from seen es ≡ true
    → listed es b ≡ Some p → listed es k ≡ Some p → b ≡ k
listed_apart n count from seen [] b k p h g f = absurd (none_some p g)
listed_apart n count from seen (e ∷ es) b k p h g f =
    let y = entry n count from seen e es h in
    ⊎_elim
    (λ z. ⊎_elim (λ w. sym z.0 ∙ w.0) (λ w. absurd (later_other n count from seen e es k p y w.1 z.1)) (listed_cases e es k p f))
    (λ z. ⊎_elim (λ w. absurd (later_other n count from seen e es b p y z.1 w.1))
    (λ w. listed_apart n count (suc e.0) (e.1 ∷ seen) es b k p y.rest z.1 w.1) (listed_cases e es k p f))
    (listed_cases e es b p g)

-- ---- a listed place opens to its block

pub first_none : (o later : Option Reason) → first_of o later ≡ None → (o ≡ None) × (later ≡ None)
first_none None later h = (refl, h)
first_none (Some r) later h = absurd (none_some r (sym h))

pub entry_opens : (b p : ℕ) (r : Result Bytes Denial) → entry_opened b p r ≡ None → (body : Bytes) × (r ≡ Ok body) × (block_in body ≡ b)
entry_opens b p (Err d) h = absurd (none_some _ (sym h))
entry_opens b p (Ok body) h = go (eqb (block_in body) b) refl h
  where
    go : (t : Bool) → eqb (block_in body) b ≡ t → cond t None (Some (DenialOf (entry_other p))) ≡ None
        → (got : Bytes) × (◌≡◌ {A = Result Bytes Denial} (Ok body) (Ok got)) × (block_in got ≡ b)
    go true e k = (body, refl, eqb-true _ _ e)
    go false e k = absurd (none_some _ (sym k))

listed_opens : (rules : Rules) (card : List Bytes) (es : List (ℕ × ℕ)) (b p : ℕ) → entries_open rules card es ≡ None → listed es b ≡ Some p → Opens rules card b p
listed_opens rules card [] b p h g = absurd (none_some p g)
listed_opens rules card (e ∷ es) b p h g =
    let y = first_none (entry_opened e.0 e.1 (opened_at rules card e.1)) (entries_open rules card es) h in
    ⊎_elim
    (λ z. subst (Opens rules card b) z.1 (subst (λ (k : ℕ). Opens rules card k e.1) z.0 (entry_opens e.0 e.1 (opened_at rules card e.1) y.0)))
    (λ z. listed_opens rules card es b p y.1 z.1)
    (listed_cases e es b p g)

-- ---- the settled position map

abbrev pub or_else : Option ℕ → Option ℕ → Option ℕ
or_else (Some p) o = Some p
or_else None o = o

pub length_settled : (places : List (Option ℕ)) (es : List (ℕ × ℕ)) → length (settled places es) ≡ length places
length_settled places [] = refl
length_settled places (e ∷ es) = length_settled (set places e.0 (Some e.1)) es ∙ length-set places e.0 (Some e.1)

settled_over : (n count from : ℕ) (seen : List ℕ) (es : List (ℕ × ℕ)) (places : List (Option ℕ)) (b : ℕ) → length places ≡ n → entries_fit n count from seen es ≡ true
    → get_or (settled places es) b None ≡ or_else (listed es b) (get_or places b None)
settled_over n count from seen [] places b len h = refl
settled_over n count from seen (e ∷ es) places b len h =
    let y = entry n count from seen e es h in
    settled_over n count (suc e.0) (e.1 ∷ seen) es (set places e.0 (Some e.1)) b (length-set places e.0 (Some e.1) ∙ len) y.rest
    ∙ ⊎_elim
    (λ z.
    ap (λ (o : Option ℕ). or_else o (get_or (set places e.0 (Some e.1)) b None)) (unlisted n count (suc e.0) (e.1 ∷ seen) es b y.rest (omega arith))
    ∙ ap (λ (k : ℕ). get_or (set places e.0 (Some e.1)) k None) (sym z)
    ∙ get_or-set_same places e.0 (Some e.1) None (omega (arith, y.block))
    ∙ sym (ap (λ (o : Option ℕ). or_else o (get_or places b None)) (cond-true (eqb e.0 b) (Some e.1) (listed es b) (eq-eqb _ _ z))))
    (λ z.
    ap (or_else (listed es b)) (get_or-set_other places e.0 b (Some e.1) None (λ g. z (sym g)))
    ∙ sym (ap (λ (o : Option ℕ). or_else o (get_or places b None)) (cond-false (eqb e.0 b) (Some e.1) (listed es b) (ne_eqb _ _ z))))
    (cases_eq e.0 b)

or_none : (o : Option ℕ) → or_else o None ≡ o
or_none None = refl
or_none (Some p) = refl

-- a block has its listed place
pub settled_listed : (n count : ℕ) (es : List (ℕ × ℕ)) (b : ℕ) → entries_fit n count 0 [] es ≡ true → get_or (settled (replicate n nowhere) es) b None ≡ listed es b
settled_listed n count es b h =
    settled_over n count 0 [] es (replicate n nowhere) b (length-replicate n nowhere) h ∙ ap (or_else (listed es b)) (vacant n b) ∙ or_none (listed es b)

-- ---- the last counter

low_go : (last i : ℕ) (r : Bytes) (rs : List Bytes) (o : Option ℕ) (t : Bool) → leb (counter_in r) last ≡ t → (o ≡ None → All (λ c. c ≤ last) (face rs))
    → cond t o (Some i) ≡ None → All (λ c. c ≤ last) (face (r ∷ rs))
low_go last i r rs o true h later e = (leb-true _ _ h, later e)
low_go last i r rs o false h later e = absurd (none_some i (sym e))

pub low_above : (last i : ℕ) (rs : List Bytes) → above last i rs ≡ None → All (λ c. c ≤ last) (face rs)
low_above last i [] e = tt
low_above last i (r ∷ rs) e = low_go last i r rs (above last (suc i) rs) (leb (counter_in r) last) refl (low_above last (suc i) rs) e

-- a number of at most k bytes
number_fits : (k : ℕ) (s : Bytes) → All (λ b. b < 256) s → number (take k s) < 256 ^ k
number_fits zero s h = omega arith
number_fits (suc k) [] h = let w : 256 ^ suc k ≡ 256 * 256 ^ k = pow-succ' 256 k in omega (arith, number_fits k [] tt)
number_fits (suc k) (b ∷ s) h =
    let w : 256 ^ suc k ≡ 256 * 256 ^ k = pow-succ' 256 k in
    omega (arith, h.0, number_fits k s h.1)

-- ---- the machine

pub size_resumed : (card : List Bytes) (tape : List ℕ) (file : Bytes) → length (resumed card tape file).places ≡ file_blocks file
size_resumed card tape file = length_settled (replicate (file_blocks file) None) (entries file) ∙ length-replicate (file_blocks file) None

module _ (rules : Rules) (card : List Bytes) (tape : List ℕ) (file : Bytes) (m : Machine) (t : Resumed rules card tape file m) where
  pub placed : (b : ℕ) → get_or (resumed card tape file).places b None ≡ listed (entries file) b
  placed b = settled_listed (file_blocks file) (length card) (entries file) b t.fit

  pub sound_resumed : All (λ b. b < 256) file → Sound rules (resumed card tape file)
  sound_resumed bytes =
      let blocks = size_resumed card tape file in
      record {
        small = t.sizes.small;
        fits = number_fits 4 (drop 6 file) (All-drop (λ b. b < 256) 6 file bytes);
        low = low_above (file_last file) 0 card t.low;
        some = omega (arith, t.sizes.some);
        few = omega (arith, t.sizes.few);
        room = omega (arith, t.sizes.room);
        apart = λ b k p hb hk. listed_apart (file_blocks file) (length card) 0 [] (entries file) b k p t.fit (sym (placed b) ∙ hb) (sym (placed k) ∙ hk);
        opens = λ b p hb. listed_opens rules card (entries file) b p t.open_all (sym (placed b) ∙ hb);
        fitting = tt;
        once = tt;
      }

  pub held_resumed : (b : ℕ) → holds rules (resumed card tape file) b ≡ value_at rules card (listed (entries file) b)
  held_resumed b = ap (value_at rules card) (placed b)
