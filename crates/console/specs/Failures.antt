-- Which failures a file can bring, each with the path that was given, and which come with no file.
use Rattle.std.specs.Prelude.{◌≡◌, ℕ, List}
use Rattle.console.specs.declared.failure.Failure.{Failure}
use Rattle.console.specs.declared.failure.Failure.TheVariants.{Memory, Io, Read, Write}

abbrev pub CannotRead : List ℕ → Failure → Type 0
CannotRead path (Read p _) = p.now ≡ path
CannotRead path (Write _ _) = ⊥
CannotRead path (Memory _) = ⊥
CannotRead path (Io _) = ⊥

abbrev pub CannotWrite : List ℕ → Failure → Type 0
CannotWrite path (Read _ _) = ⊥
CannotWrite path (Write p _) = p.now ≡ path
CannotWrite path (Memory _) = Unit {0}
CannotWrite path (Io _) = ⊥

abbrev pub OfNoFile : Failure → Type 0
OfNoFile (Read _ _) = ⊥
OfNoFile (Write _ _) = ⊥
OfNoFile (Memory _) = Unit {0}
OfNoFile (Io _) = Unit {0}
