use Rattle.layout.specs.Layouts.{counter_in}
use Rattle.layout.proofs.records.clear_counter.Goals as goal

pub returns : goal.returns
unfolding counter_in
returns c = c.first_number.ensures
