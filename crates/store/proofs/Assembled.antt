-- What was prepared makes the store that the definition makes.
use Rattle.std.proofs.Common.{ℕ, List, Ok, Err, Result, ap, ◌∙◌, inl, inr, ⊎_elim}
use Rattle.layout.specs.Numbers.{Bytes}
use Rattle.machine.specs.Makings.{Store, Shut}
use Rattle.answers.specs.declared.denials.Denial.{Denial}
use Rattle.answers.specs.Told.{reason_of}
use Rattle.engine.specs.declared.state.Memory.{Memory}
use Rattle.prepare.specs.Prepared.{Prepared}
use Rattle.store.specs.Made.{MadeBy}
use Rattle.store.specs.View.{assembled}

pub made_by : (make : List ℕ → Store) (before after : List Bytes) (tape : List ℕ) (prepared : Result Memory Denial)
    → Prepared make before after prepared → MadeBy (assembled after tape prepared) before tape (make tape)
made_by make before after tape (Ok m) p = inl (p tape)
made_by make before after tape (Err d) p =
    let stays = ap (λ (card : List Bytes). Shut (reason_of d) card tape) p.0 in
    ⊎_elim (λ h. inl (stays ∙ h tape)) (λ e. inr (stays ∙ ap (λ r. Shut r before tape) e.0, e.1 tape)) p.1
