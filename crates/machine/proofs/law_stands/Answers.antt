use Rattle.std.proofs.Common.{refl}
use Rattle.machine.proofs.LawOfRuns.{law_of_runs}
use Rattle.machine.proofs.WorkedRun.{worked, worked_is_a_run}
use Rattle.machine.proofs.law_stands.Goals as goal

pub returns : goal.returns
returns c = record { zero = refl; law = law_of_runs; worked_run = worked; worked_run_is_a_run = worked_is_a_run }
