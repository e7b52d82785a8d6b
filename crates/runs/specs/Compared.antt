-- What a comparison of two transcripts tells.
use Rattle.std.specs.Prelude.{◌≡◌, ℕ, ◌↔◌, List, map, Some, None, vec_items, Option, ◌≢◌}
use Rattle.denial.specs.Denials.{place_number}
use Rattle.runs.specs.Shown.{Beginning, begun_told}
use Rattle.runs.specs.declared.compare.Verdict.{Verdict}
use Rattle.runs.specs.declared.compare.Verdict.TheVariants.{BegunApart, SameFaces, OtherFaces}
use Rattle.runs.specs.declared.transcript.Transcript.{Transcript}

-- two runs begin with one face and one last counter
abbrev pub OneBeginning : Option Beginning → Option Beginning → Type 0
OneBeginning (Some a) (Some b) = (a.face ≡ b.face) × (a.counter ≡ b.counter)
OneBeginning (Some a) None = ⊥
OneBeginning None o = ⊥

abbrev pub BegunAlike : Transcript → Transcript → Type 0
BegunAlike t u = OneBeginning (begun_told t.notes.begun) (begun_told u.notes.begun)

abbrev pub faces_of : Transcript → List (List ℕ)
faces_of t = map vec_items (vec_items t.notes.faces)

abbrev pub places_of : Transcript → List ℕ
places_of t = map place_number (vec_items t.notes.places)

-- the verdict says whether two lists are equal
abbrev pub Tells : {X : Type 0} → Verdict → X → X → Type 0
Tells v xs ys = ((v ≡ SameFaces) ↔ (xs ≡ ys)) × ((v ≡ OtherFaces) ↔ (xs ≢ ys))

pub record Compared (t u : Transcript) (v : Verdict) : Type 0 where
  -- the two are called apart exactly when they do not begin alike
  pub begun_alike : (v ≡ BegunApart) ↔ (BegunAlike t u → ⊥)
  -- of two that begin alike the verdict tells whether their faces are equal,
  pub faces : BegunAlike t u → Tells v (faces_of t) (faces_of u)
  -- and whether the places of their beats are
  pub places : BegunAlike t u → Tells v (places_of t) (places_of u)
  -- so that, by the law of runs, the one is so exactly when the other is
  pub equal_faces_when_equal_places : BegunAlike t u → (faces_of t ≡ faces_of u) ↔ (places_of t ≡ places_of u)
