-- A sound machine with nobody waiting is what a resume of its map file gives.
use Rattle.std.proofs.Common.{◌≡◌, ℕ, zero, suc, ◌+◌, ◌*◌, ◌^◌, ◌<◌, ◌≤◌, true, false, not, ◌&&◌, eqb, ltb, leb, List, [], ◌∷◌, ◌++◌, length, get_or, drop, replicate, Some, None, Option, sym, refl, ap, ◌∙◌, subst, arith}
use Rattle.std.specs.List.{flat_map, AllByRecursion as All}
use Rattle.std.proofs.lemmas.List.{length-append, length-replicate, append-nil, drop_at, same_lists, get_or_default}
use Rattle.std.proofs.ByRecursion.{All-weaker}
use Rattle.std.proofs.lemmas.Bool.{cond-true, cond-false, lt-ltb, le-leb, eq-eqb, ne_eqb, and_from, or_from, not_from_false}
use Rattle.layout.specs.Numbers.{Bytes, little}
use Rattle.layout.specs.Layouts.{block_in, counter_in, face}
use Rattle.layout.proofs.Littles.{number_little}
use Rattle.seal.specs.Seals.{Rules, Lawful}
use Rattle.machine.specs.Files.{landed_from, landed_places, file_length_of, file_of, file_blocks, file_count, file_landed, file_last, numbers, paired, entries}
use Rattle.machine.specs.Machine.{Machine, Reason, opened_at}
use Rattle.machine.specs.Makings.{Open, blocks_fit, places_fit, among, entries_fit, above, entry_opened, first_of, entries_open, settled, resumed, resume_opened, resume_counted, file_long, resume}
use Rattle.machine.specs.Runs.{listed}
use Rattle.machine.proofs.Invariant.{Opens, Sound, opened_parts}
use Rattle.machine.proofs.Formats.{nowhere}
use Rattle.machine.proofs.Resumes.{settled_listed, length_settled}

-- ---- numbers of two bytes

length_joined : (xs : List ℕ) → length (flat_map (little 2) xs) ≡ 2 * length xs
length_joined [] = refl
length_joined (x ∷ xs) = omega (arith, length_joined xs)

numbers_joined : (xs : List ℕ) (rest : Bytes) → All (λ x. x < 65536) xs → numbers (length xs) (flat_map (little 2) xs ++ rest) ≡ xs
numbers_joined [] rest h = refl
numbers_joined (x ∷ xs) rest h =
    let one = number_little 2 x h.0 in
    let more = numbers_joined xs rest h.1 in
    cc

-- ---- the landed blocks and their places

length_landed : (i : ℕ) (places : List (Option ℕ)) → length (landed_from i places) ≡ length (landed_places places)
length_landed i [] = refl
length_landed i (None ∷ places) = length_landed (suc i) places
length_landed i (Some p ∷ places) = ap suc (length_landed (suc i) places)

landed_less : (places : List (Option ℕ)) → length (landed_places places) ≤ length places
landed_less [] = omega arith
landed_less (None ∷ places) = omega (arith, landed_less places)
landed_less (Some p ∷ places) = omega (arith, landed_less places)

blocks_small : (i n : ℕ) (places : List (Option ℕ)) → i + length places ≤ n → All (λ x. x < n) (landed_from i places)
blocks_small i n [] h = tt
blocks_small i n (None ∷ places) h = blocks_small (suc i) n places (omega arith)
blocks_small i n (Some p ∷ places) h = (omega arith, blocks_small (suc i) n places (omega arith))

places_small : (n : ℕ) (places : List (Option ℕ)) → ((b p : ℕ) → get_or places b None ≡ Some p → p < n) → All (λ x. x < n) (landed_places places)
places_small n [] h = tt
places_small n (None ∷ places) h = places_small n places (λ b p e. h (suc b) p e)
places_small n (Some p ∷ places) h = (h 0 p refl, places_small n places (λ b p e. h (suc b) p e))

abbrev pairs : ℕ → List (Option ℕ) → List (ℕ × ℕ)
pairs i places = paired (landed_from i places) (landed_places places)

-- ---- the file's parts

pub length_file : (count last : ℕ) (places : List (Option ℕ)) → length (file_of count last places) ≡ file_length_of places
unfolding file_of
length_file count last places = simp length-append (omega (arith, length_joined (landed_from 0 places), length_joined (landed_places places), length_landed 0 places))

pub record ReadBack (count last : ℕ) (places : List (Option ℕ)) (file : Bytes) : Type 0 where
  pub blocks_are : file_blocks file ≡ length places
  pub count_is : file_count file ≡ count
  pub landed_are : file_landed file ≡ length (landed_places places)
  pub last_is : file_last file ≡ last
  pub entries_are : entries file ≡ pairs 0 places

module _ (count last : ℕ) (places : List (Option ℕ)) (few : length places ≤ 512) (small : count ≤ 1024) (fits : last < 2 ^ 32) (lies : (b p : ℕ) → get_or places b None ≡ Some p → p < count) where
  landed_back : file_landed (file_of count last places) ≡ length (landed_places places)
  unfolding file_of
  landed_back = number_little 2 (length (landed_places places)) (omega (arith, landed_less places))

  pub blocks_part : numbers (length (landed_places places)) (drop 10 (file_of count last places)) ≡ landed_from 0 places
  unfolding file_of
  blocks_part = rw (← length_landed 0 places)
      (numbers_joined (landed_from 0 places) (flat_map (little 2) (landed_places places))
      (All-weaker (λ x. x < 512) (λ x. x < 65536) (λ x h. omega arith) (landed_from 0 places) (blocks_small 0 512 places (omega arith))))

  pub places_part : numbers (length (landed_places places)) (drop (10 + 2 * length (landed_places places)) (file_of count last places)) ≡ landed_places places
  unfolding file_of
  places_part =
      ap (numbers (length (landed_places places)))
      (drop_at (little 2 (length places) ++ little 2 count ++ little 2 (length (landed_places places)) ++ little 4 last ++ flat_map (little 2) (landed_from 0 places))
      (flat_map (little 2) (landed_places places)) (10 + 2 * length (landed_places places)) (omega (arith, length_joined (landed_from 0 places), length_landed 0 places))
      ∙ sym (append-nil (flat_map (little 2) (landed_places places))))
      ∙ numbers_joined (landed_places places) []
      (All-weaker (λ x. x < count) (λ x. x < 65536) (λ x h. omega arith) (landed_places places) (places_small count places lies))

  entries_back : entries (file_of count last places) ≡ pairs 0 places
  unfolding entries
  entries_back = rw (landed_back, blocks_part, places_part)

  pub read_back : ReadBack count last places (file_of count last places)
  unfolding file_of
  read_back = record {
    blocks_are = number_little 2 (length places) (omega arith);
    count_is = number_little 2 count (omega arith);
    landed_are = landed_back;
    last_is = number_little 4 last fits;
    entries_are = entries_back;
  }

-- ---- the file passes each test of a resume

pairs_fit : (n count from i : ℕ) (seen : List ℕ) (places : List (Option ℕ)) → from ≤ i → i + length places ≤ n
    → ((b q : ℕ) → get_or places b None ≡ Some q → q < count) → ((b k q : ℕ) → get_or places b None ≡ Some q → get_or places k None ≡ Some q → b ≡ k)
    → ((b q : ℕ) → get_or places b None ≡ Some q → among seen q ≡ false) → entries_fit n count from seen (pairs i places) ≡ true
pairs_fit n count from i seen [] h l lies apart new = refl
pairs_fit n count from i seen (None ∷ places) h l lies apart new =
    pairs_fit n count from (suc i) seen places (omega arith) (omega arith) (λ b q e. lies (suc b) q e) (λ b k q e f. omega (arith, apart (suc b) (suc k) q e f)) (λ b q e. new (suc b) q e)
pairs_fit n count from i seen (Some p ∷ places) h l lies apart new =
    and_from (leb from i && ltb i n) ((ltb p count && not (among seen p)) && entries_fit n count (suc i) (p ∷ seen) (pairs (suc i) places))
    (and_from (leb from i) (ltb i n) (le-leb from i h) (lt-ltb i n (omega arith)))
    (and_from (ltb p count && not (among seen p)) (entries_fit n count (suc i) (p ∷ seen) (pairs (suc i) places))
    (and_from (ltb p count) (not (among seen p)) (lt-ltb p count (lies 0 p refl)) (not_from_false (among seen p) (new 0 p refl)))
    (pairs_fit n count (suc i) (suc i) (p ∷ seen) places (omega arith) (omega arith) (λ b q e. lies (suc b) q e) (λ b k q e f. omega (arith, apart (suc b) (suc k) q e f))
    (λ b q e. or_from (eqb p q) (among seen q) (ne_eqb p q (λ z. let y : 0 ≡ suc b = apart 0 (suc b) q (ap Some z) e in absurd (omega arith))) (new (suc b) q e))))

above_none : (last i : ℕ) (rs : List Bytes) → All (λ c. c ≤ last) (face rs) → above last i rs ≡ None
above_none last i [] h = refl
above_none last i (r ∷ rs) h = cond-true (leb (counter_in r) last) (above last (suc i) rs) (Some i) (le-leb _ _ h.0) ∙ above_none last (suc i) rs h.1

entry_passes : (rules : Rules) (card : List Bytes) (b p : ℕ) → Opens rules card b p → entry_opened b p (opened_at rules card p) ≡ None
entry_passes rules card b p o = ap (entry_opened b p) o.1 ∙ cond-true (eqb (block_in o.0) b) None _ (eq-eqb _ _ o.2)

pairs_open : (rules : Rules) (card : List Bytes) (i : ℕ) (places : List (Option ℕ)) → ((b q : ℕ) → get_or places b None ≡ Some q → Opens rules card (i + b) q)
    → entries_open rules card (pairs i places) ≡ None
pairs_open rules card i [] h = refl
pairs_open rules card i (None ∷ places) h = pairs_open rules card (suc i) places (λ b q e. subst (λ (k : ℕ). Opens rules card k q) (omega arith) (h (suc b) q e))
pairs_open rules card i (Some p ∷ places) h =
    ap (λ (o : Option Reason). first_of o (entries_open rules card (pairs (suc i) places))) (entry_passes rules card i p (subst (λ (k : ℕ). Opens rules card k p) (omega arith) (h 0 p refl)))
    ∙ pairs_open rules card (suc i) places (λ b q e. subst (λ (k : ℕ). Opens rules card k q) (omega arith) (h (suc b) q e))

-- ---- the settled map is the saved one

listed_early : (i : ℕ) (places : List (Option ℕ)) (b : ℕ) → b < i → listed (pairs i places) b ≡ None
listed_early i [] b h = refl
listed_early i (None ∷ places) b h = listed_early (suc i) places b (omega arith)
listed_early i (Some p ∷ places) b h =
    cond-false (eqb i b) (Some p) (listed (pairs (suc i) places) b) (ne_eqb i b (λ z. omega arith)) ∙ listed_early (suc i) places b (omega arith)

listed_places : (i : ℕ) (places : List (Option ℕ)) (k b : ℕ) → b ≡ i + k → listed (pairs i places) b ≡ get_or places k None
listed_places i [] k b e = refl
listed_places i (None ∷ places) zero b e = listed_early (suc i) places b (omega arith)
listed_places i (None ∷ places) (suc k) b e = listed_places (suc i) places k b (omega arith)
listed_places i (Some p ∷ places) zero b e = cond-true (eqb i b) (Some p) (listed (pairs (suc i) places) b) (eq-eqb i b (omega arith))
listed_places i (Some p ∷ places) (suc k) b e =
    cond-false (eqb i b) (Some p) (listed (pairs (suc i) places) b) (ne_eqb i b (λ z. omega arith)) ∙ listed_places (suc i) places k b (omega arith)

settled_is : (count : ℕ) (places : List (Option ℕ)) → entries_fit (length places) count 0 [] (pairs 0 places) ≡ true → settled (replicate (length places) nowhere) (pairs 0 places) ≡ places
settled_is count places h =
    let len : length (settled (replicate (length places) nowhere) (pairs 0 places)) ≡ length places =
    length_settled (replicate (length places) nowhere) (pairs 0 places) ∙ length-replicate (length places) nowhere in
    same_lists (settled (replicate (length places) nowhere) (pairs 0 places)) places len
    (λ b d l.
    get_or_default (settled (replicate (length places) nowhere) (pairs 0 places)) b d None l
    ∙ settled_listed (length places) count (pairs 0 places) b h
    ∙ listed_places 0 places b b (omega arith)
    ∙ get_or_default places b None d (omega arith))

-- ---- the resume

pub resumes : (rules : Rules) → Lawful rules → (m : Machine) → Sound rules m → m.waiting ≡ []
    → resume rules m.card m.tape (file_of (length m.card) m.last m.places) ≡ Open m
resumes rules lawful m s w =
    let lies : (b p : ℕ) → get_or m.places b None ≡ Some p → p < length m.card =
    λ b p e. let g = s.opens b p e in (opened_parts rules lawful m.card p g.0 g.1).0 in
    let f = file_of (length m.card) m.last m.places in
    let back = read_back (length m.card) m.last m.places s.few s.small s.fits lies in
    let long = length_file (length m.card) m.last m.places in
    let fit : entries_fit (length m.places) (length m.card) 0 [] (pairs 0 m.places) ≡ true =
    pairs_fit (length m.places) (length m.card) 0 0 [] m.places (omega arith) (omega arith) lies s.apart (λ b q e. refl) in
    let low : above (file_last f) 0 m.card ≡ None = rw back.last_is (above_none m.last 0 m.card s.low) in
    let open_all : entries_open rules m.card (entries f) ≡ None =
    rw back.entries_are (pairs_open rules m.card 0 m.places (λ b q e. subst (λ (k : ℕ). Opens rules m.card k q) (omega arith) (s.opens b q e))) in
    cond-true (file_long f) _ _
    (and_from (leb 10 (length f)) (eqb (length f) (10 + 4 * file_landed f)) (le-leb 10 (length f) (omega arith)) (eq-eqb (length f) (10 + 4 * file_landed f) (omega (arith, back.landed_are))))
    ∙ cond-true (blocks_fit (file_blocks f)) _ _
    (and_from (ltb 0 (file_blocks f)) (leb (file_blocks f) 512) (lt-ltb 0 (file_blocks f) (omega (arith, back.blocks_are, s.some))) (le-leb (file_blocks f) 512 (omega (arith, back.blocks_are, s.few))))
    ∙ cond-true (places_fit (file_blocks f) (length m.card) && eqb (length m.card) (file_count f)) _ _
    (and_from (places_fit (file_blocks f) (length m.card)) (eqb (length m.card) (file_count f))
    (and_from (leb (2 * file_blocks f) (length m.card)) (leb (length m.card) 1024) (le-leb (2 * file_blocks f) (length m.card) (omega (arith, back.blocks_are, s.room))) (le-leb (length m.card) 1024 s.small))
    (eq-eqb (length m.card) (file_count f) (sym back.count_is)))
    ∙ cond-true (entries_fit (file_blocks f) (length m.card) 0 [] (entries f)) _ _ (rw (back.blocks_are, back.entries_are) fit)
    ∙ ap (resume_counted rules m.card m.tape f) low
    ∙ ap (resume_opened (resumed m.card m.tape f)) open_all
    ∙ rw (back.last_is, back.blocks_are, back.entries_are, settled_is (length m.card) m.places fit)
    (ap (λ (ws : List (ℕ × Bytes)). Open (record { card = m.card; tape = m.tape; last = m.last; places = m.places; waiting = ws })) (sym w))
