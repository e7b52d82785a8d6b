-- Lists that grow by pushes.
use Rattle.std.proofs.Common.{◌≡◌, refl, ℕ, zero, suc, ◌+◌, List, [], ◌∷◌, ◌++◌, map, replicate, sym, ap, ◌∙◌, add-zero, add-one, arith}
use Rattle.std.proofs.lemmas.List.{map-append}
use Rattle.machine.specs.Machine.{Call, Read}
use Rattle.bookings.specs.Days.{reads_from}

-- a list to which others are added, as told
pub added : {X Y : Type 0} (f : X → Y) (xs more ys : List X) (told : List Y) → ys ≡ xs ++ more → map f more ≡ told → map f ys ≡ map f xs ++ told
added f xs more ys told e h = ap (map f) e ∙ (map-append f xs more ∙ ap (λ zs. map f xs ++ zs) h)

pub map_replicate : {X Y : Type 0} (f : X → Y) (n : ℕ) (x : X) → map f (replicate n x) ≡ replicate n (f x)
map_replicate f zero x = refl
map_replicate f (suc n) x = ap (λ ys. f x ∷ ys) (map_replicate f n x)

reads_suc : (b n : ℕ) → reads_from b (suc n) ≡ reads_from b n ++ Read (b + n) (replicate 48 0) ∷ []
reads_suc b zero = rw add-zero
reads_suc b (suc n) =
    let e : suc b + n ≡ b + suc n = omega arith in
    ap (λ (cs : List Call). Read b (replicate 48 0) ∷ cs)
    (reads_suc (suc b) n ∙ ap (λ (k : ℕ). reads_from (suc b) n ++ Read k (replicate 48 0) ∷ []) e)

pub reads_more : (n : ℕ) → reads_from 0 n ++ Read n (replicate 48 0) ∷ [] ≡ reads_from 0 (n + 1)
reads_more n =
    let e : 0 + n ≡ n = omega arith in
    sym (ap (reads_from 0) (add-one n) ∙ (reads_suc 0 n ∙ ap (λ (k : ℕ). reads_from 0 n ++ Read k (replicate 48 0) ∷ []) e))
