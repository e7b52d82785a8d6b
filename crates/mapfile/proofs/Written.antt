-- The entries as they are written, block by block.
use Rattle.std.proofs.Common.{◌≡◌, ℕ, ◌+◌, ◌*◌, ◌<◌, ◌≤◌, List, [], ◌∷◌, ◌++◌, length, get_or, take, Some, None, Option, sym, ap, ◌∙◌, arith}
use Rattle.std.specs.List.{flat_map}
use Rattle.std.proofs.lemmas.List.{take_all, length-map, get_or-map}
use Rattle.layout.specs.Numbers.{Bytes, little}
use Rattle.layout.specs.declared.names.Place.{Place}
use Rattle.machine.specs.Files.{landed_from, landed_places, file_length_of}
use Rattle.tables.specs.Views.{placed, place_of}
use Rattle.mapfile.specs.Encodes.{put_at}
use Rattle.mapfile.proofs.Landings.{as_many, room, one_more, places_past, blocks_past, places_more, blocks_more}
use Rattle.mapfile.proofs.Puts.{put_none, put_both_more}

-- a buffer with the entries of some blocks written over it
abbrev pub with_entries : Bytes → ℕ → List (Option ℕ) → Bytes
with_entries old apart places = put_at (put_at old 10 (flat_map (little 2) (landed_from 0 places))) (10 + apart) (flat_map (little 2) (landed_places places))

-- the entries of the first i blocks are written, and the next go to `at`
pub record Written (old : Bytes) (apart : ℕ) (places : List (Option ℕ)) (i at : ℕ) (buffer : Bytes) : Type 0 where
  pub next : at ≡ 10 + 2 * length (landed_places (take i places))
  pub so_far : buffer ≡ with_entries old apart (take i places)

pub written_none : (old : Bytes) (apart : ℕ) (places : List (Option ℕ)) → Written old apart places 0 10 old
written_none old apart places = record { next = omega arith; so_far = put_none old 10 ∙ put_none (put_at old 10 []) (10 + apart) }

pub written_past : (old : Bytes) (apart : ℕ) (places : List (Option ℕ)) (i at : ℕ) (buffer : Bytes) → i < length places → get_or places i None ≡ None
    → Written old apart places i at buffer → Written old apart places (i + 1) at buffer
written_past old apart places i at buffer h e w =
    let p = places_past i places h e in
    record {
      next = w.next ∙ ap (λ (z : List ℕ). 10 + 2 * length z) (sym p);
      so_far = w.so_far
          ∙ (ap (λ (z : List ℕ). put_at (put_at old 10 (flat_map (little 2) z)) (10 + apart) (flat_map (little 2) (landed_places (take i places)))) (sym (blocks_past i places h e))
          ∙ ap (λ (z : List ℕ). put_at (put_at old 10 (flat_map (little 2) (landed_from 0 (take (i + 1) places)))) (10 + apart) (flat_map (little 2) z)) (sym p));
    }

pub written_more : (old : Bytes) (apart : ℕ) (places : List (Option ℕ)) (i at p : ℕ) (buffer one two : Bytes) → i < length places → get_or places i None ≡ Some p
    → apart ≡ 2 * length (landed_places places) → file_length_of places ≤ length old → Written old apart places i at buffer
    → one ≡ put_at buffer at (little 2 i) → two ≡ put_at one (at + apart) (little 2 p) → Written old apart places (i + 1) (at + 2) two
written_more old apart places i at p buffer one two h e a f w g k =
    let n = w.next in
    let many = as_many 0 (take i places) in
    let more = one_more i p places h e in
    let r = room i p places h e in
    record {
      next = omega arith;
      so_far = put_both_more old buffer one two 10 (10 + apart) at (at + apart) i p (landed_from 0 (take i places)) (landed_places (take i places))
          (omega arith) (omega arith) (omega arith) (omega arith) w.so_far g k
          ∙ (ap (λ (z : List ℕ). put_at (put_at old 10 (flat_map (little 2) z)) (10 + apart) (flat_map (little 2) (landed_places (take i places) ++ p ∷ []))) (sym (blocks_more i p places h e))
          ∙ ap (λ (z : List ℕ). put_at (put_at old 10 (flat_map (little 2) (landed_from 0 (take (i + 1) places)))) (10 + apart) (flat_map (little 2) z)) (sym (places_more i p places h e)));
    }

pub written_all : (old : Bytes) (apart : ℕ) (places : List (Option ℕ)) (i at : ℕ) (buffer : Bytes) → length places ≤ i → Written old apart places i at buffer
    → buffer ≡ with_entries old apart places
written_all old apart places i at buffer h w = w.so_far ∙ ap (with_entries old apart) (take_all i places h)

-- what an entry of the table says of the map
pub placed_at : (places : List (Option Place)) (map : List (Option ℕ)) (i : ℕ) (o : Option Place) → placed places ≡ map → i < length places → get_or places i None ≡ o
    → (i < length map) × (get_or map i None ≡ place_of o)
placed_at places map i o e h k =
    let l = length-map places place_of in
    let n = ap length e in
    (omega arith, ap (λ (z : List (Option ℕ)). get_or z i None) (sym e) ∙ (get_or-map place_of places i None None h ∙ ap place_of k))

-- there is room for the entry of a block that landed
pub entry_room : (old : Bytes) (apart : ℕ) (places : List (Option Place)) (map : List (Option ℕ)) (i at : ℕ) (p : Place) (buffer : Bytes)
    → placed places ≡ map → i < length places → get_or places i None ≡ Some p
    → apart ≡ 2 * length (landed_places map) → file_length_of map ≤ length old → Written old apart map i at buffer → at + apart + 2 ≤ length old
entry_room old apart places map i at p buffer e h k a f w =
    let is = placed_at places map i (Some p) e h k in
    let n = w.next in
    let r = room i p.0 map is.0 is.1 in
    omega arith

pub moved : (old : Bytes) (apart : ℕ) (places : List (Option ℕ)) (i at next : ℕ) (buffer after : Bytes) → next ≡ at → after ≡ buffer
    → Written old apart places i at buffer → Written old apart places i next after
moved old apart places i at next buffer after e f w = record { next = e ∙ w.next; so_far = f ∙ w.so_far }
