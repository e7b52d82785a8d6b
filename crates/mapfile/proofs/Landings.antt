-- The landed blocks and their places, block by block.
use Rattle.std.proofs.Common.{◌≡◌, ℕ, suc, ◌+◌, ◌*◌, ◌<◌, ◌≤◌, List, [], ◌∷◌, ◌++◌, length, get_or, take, drop, is_some, Some, None, Option, sym, refl, ap, ◌∙◌, arith}
use Rattle.std.specs.List.{flat_map, filter}
use Rattle.std.proofs.lemmas.List.{append-nil, length-append, length_push, length-take-le, take-append-drop, take_more}
use Rattle.std.proofs.lemmas.Bool.{cond-true, le-leb}
use Rattle.layout.specs.Numbers.{Bytes, little}
use Rattle.layout.specs.declared.names.Place.{Place}
use Rattle.machine.specs.Files.{landed_from, landed_places, file_of, file_length_of}
use Rattle.tables.specs.Views.{placed}
use Rattle.mapfile.specs.Encodes.{put_at, encode_of}
use Rattle.mapfile.proofs.Puts.{put_more, put_front, length_joined}

-- a place for each landed block
pub as_many : (i : ℕ) (places : List (Option ℕ)) → length (landed_from i places) ≡ length (landed_places places)
as_many i [] = refl
as_many i (None ∷ places) = as_many (suc i) places
as_many i (Some p ∷ places) = ap suc (as_many (suc i) places)

places_append : (xs ys : List (Option ℕ)) → landed_places (xs ++ ys) ≡ landed_places xs ++ landed_places ys
places_append [] ys = refl
places_append (None ∷ xs) ys = places_append xs ys
places_append (Some p ∷ xs) ys = ap (λ (z : List ℕ). p ∷ z) (places_append xs ys)

blocks_append : (i j : ℕ) (xs ys : List (Option ℕ)) → j ≡ i + length xs → landed_from i (xs ++ ys) ≡ landed_from i xs ++ landed_from j ys
blocks_append i j [] ys e = let s : i ≡ j = omega arith in ap (λ (k : ℕ). landed_from k ys) s
blocks_append i j (None ∷ xs) ys e = blocks_append (suc i) j xs ys (omega arith)
blocks_append i j (Some p ∷ xs) ys e = ap (λ (z : List ℕ). i ∷ z) (blocks_append (suc i) j xs ys (omega arith))

-- the first blocks have landed at no more places than all
pub fewer : (b : ℕ) (places : List (Option ℕ)) → length (landed_places (take b places)) ≤ length (landed_places places)
fewer b places =
    let e = ap (λ (z : List (Option ℕ)). length (landed_places z)) (take-append-drop b places) in
    let s = ap length (places_append (take b places) (drop b places)) in
    let l = length-append (landed_places (take b places)) (landed_places (drop b places)) in
    omega arith

-- one more block that has not landed
pub places_past : (b : ℕ) (places : List (Option ℕ)) → b < length places → get_or places b None ≡ None
    → landed_places (take (b + 1) places) ≡ landed_places (take b places)
places_past b places h e =
    ap landed_places (take_more places b None h ∙ ap (λ (o : Option ℕ). take b places ++ o ∷ []) e)
    ∙ (places_append (take b places) (None ∷ []) ∙ append-nil (landed_places (take b places)))

pub blocks_past : (b : ℕ) (places : List (Option ℕ)) → b < length places → get_or places b None ≡ None
    → landed_from 0 (take (b + 1) places) ≡ landed_from 0 (take b places)
blocks_past b places h e =
    let l = length-take-le b places (omega arith) in
    ap (landed_from 0) (take_more places b None h ∙ ap (λ (o : Option ℕ). take b places ++ o ∷ []) e)
    ∙ (blocks_append 0 b (take b places) (None ∷ []) (omega arith) ∙ append-nil (landed_from 0 (take b places)))

-- and one more that has
pub places_more : (b p : ℕ) (places : List (Option ℕ)) → b < length places → get_or places b None ≡ Some p
    → landed_places (take (b + 1) places) ≡ landed_places (take b places) ++ p ∷ []
places_more b p places h e =
    ap landed_places (take_more places b None h ∙ ap (λ (o : Option ℕ). take b places ++ o ∷ []) e) ∙ places_append (take b places) (Some p ∷ [])

pub blocks_more : (b p : ℕ) (places : List (Option ℕ)) → b < length places → get_or places b None ≡ Some p
    → landed_from 0 (take (b + 1) places) ≡ landed_from 0 (take b places) ++ b ∷ []
blocks_more b p places h e =
    let l = length-take-le b places (omega arith) in
    ap (landed_from 0) (take_more places b None h ∙ ap (λ (o : Option ℕ). take b places ++ o ∷ []) e)
    ∙ blocks_append 0 b (take b places) (Some p ∷ []) (omega arith)

-- there is room for one more
pub one_more : (b p : ℕ) (places : List (Option ℕ)) → b < length places → get_or places b None ≡ Some p
    → length (landed_places (take (b + 1) places)) ≡ length (landed_places (take b places)) + 1
one_more b p places h e = ap length (places_more b p places h e) ∙ length_push (landed_places (take b places)) p

pub room : (b p : ℕ) (places : List (Option ℕ)) → b < length places → get_or places b None ≡ Some p
    → length (landed_places (take b places)) + 1 ≤ length (landed_places places)
room b p places h e = let l = one_more b p places h e in let f = fewer (b + 1) places in omega arith

-- the places that are given, counted
pub landed_counted : (xs : List (Option Place)) → length (filter (λ o. is_some o) xs) ≡ length (landed_places (placed xs))
landed_counted [] = refl
landed_counted (None ∷ xs) = landed_counted xs
landed_counted (Some p ∷ xs) = ap suc (landed_counted xs)

-- a file is as long as it says
pub length_file_of : (count last : ℕ) (places : List (Option ℕ)) → length (file_of count last places) ≡ file_length_of places
unfolding file_of
length_file_of count last places =
    let a = length_joined (landed_from 0 places) in
    let b = length_joined (landed_places places) in
    let c = as_many 0 places in
    simp length-append (omega arith)

-- the header, and the entries behind it, are the file
pub encoded : (count last : ℕ) (places : List (Option ℕ)) (old front whole : Bytes) (n l : ℕ)
    → n ≡ length places → l ≡ length (landed_places places) → file_length_of places ≤ length old
    → front ≡ put_at old 0 (little 2 n ++ little 2 count ++ little 2 l ++ little 4 last)
    → whole ≡ put_at (put_at front 10 (flat_map (little 2) (landed_from 0 places))) (10 + 2 * l) (flat_map (little 2) (landed_places places))
    → ◌≡◌ {A = Option ℕ × Bytes} (Some (10 + 4 * l), whole) (encode_of count last places old)
unfolding file_of
encoded count last places old front whole n l en el fits ef ew =
    let head : Bytes = little 2 (length places) ++ little 2 count ++ little 2 (length (landed_places places)) ++ little 4 last in
    let blocks : Bytes = flat_map (little 2) (landed_from 0 places) in
    let rest : Bytes = flat_map (little 2) (landed_places places) in
    let one : front ≡ put_at old 0 head =
    ef ∙ (ap (λ (k : ℕ). put_at old 0 (little 2 k ++ little 2 count ++ little 2 l ++ little 4 last)) en
    ∙ ap (λ (k : ℕ). put_at old 0 (little 2 (length places) ++ little 2 count ++ little 2 k ++ little 4 last)) el) in
    let two : put_at front 10 blocks ≡ put_at old 0 (head ++ blocks) =
    ap (λ (u : Bytes). put_at u 10 blocks) one ∙ put_more old head blocks 0 10 (omega arith) (omega arith) in
    let lb = length_joined (landed_from 0 places) in
    let many = as_many 0 places in
    let next : 10 + 2 * l ≡ 0 + length (head ++ blocks) = simp length-append (omega arith) in
    let three : whole ≡ put_at old 0 (head ++ blocks ++ rest) =
    ew ∙ (ap (λ (u : Bytes). put_at u (10 + 2 * l) rest) two ∙ put_more old (head ++ blocks) rest 0 (10 + 2 * l) (omega arith) next) in
    let all : whole ≡ file_of count last places ++ drop (file_length_of places) old =
    three ∙ put_front old (file_of count last places) (file_length_of places) (length_file_of count last places) in
    let long : 10 + 4 * l ≡ file_length_of places = omega arith in
    let pair : ◌≡◌ {A = Option ℕ × Bytes} (Some (10 + 4 * l), whole) (Some (file_length_of places), file_of count last places ++ drop (file_length_of places) old) =
    ap (λ (k : ℕ). (let r : Option ℕ × Bytes = (Some k, whole) in r)) long
    ∙ ap (λ (u : Bytes). (let r : Option ℕ × Bytes = (Some (file_length_of places), u) in r)) all in
    pair ∙ sym (cond-true _ _ _ (le-leb (file_length_of places) (length old) fits))
