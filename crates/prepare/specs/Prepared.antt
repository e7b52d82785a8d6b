-- What a making prepares, before the ends and the memory are put together.
use Rattle.std.specs.Prelude.{◌≡◌, ℕ, ◌⊎◌, List, Ok, Err, Result}
use Rattle.layout.specs.Numbers.{Bytes}
use Rattle.machine.specs.Machine.{OutOfMemory}
use Rattle.machine.specs.Makings.{Store, Open, Shut}
use Rattle.answers.specs.declared.denials.Denial.{Denial}
use Rattle.answers.specs.Told.{reason_of}
use Rattle.prepare.specs.Sizes.{SizesFit}
use Rattle.engine.specs.declared.state.Memory.{Memory}
use Rattle.engine.specs.View.{machine_of}

-- at any tape: the machine that the making defines, or its reason with the card as it was, or want of memory where the sizes fit
abbrev pub Prepared : (List ℕ → Store) → List Bytes → List Bytes → Result Memory Denial → Type 0
Prepared make before after (Ok m) = (tape : List ℕ) → Open (machine_of after tape m) ≡ make tape
Prepared make before after (Err d) =
    (after ≡ before) × (((tape : List ℕ) → Shut (reason_of d) before tape ≡ make tape) ⊎ ((reason_of d ≡ OutOfMemory) × ((tape : List ℕ) → SizesFit (make tape))))
