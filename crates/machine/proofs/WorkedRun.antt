-- The worked run computes, and is a run.
use Rattle.std.proofs.Common.{[], ◌∷◌, replicate, refl}
use Rattle.layout.specs.Layouts.{body_of, block_in, value_in, filled, record_of, counter_in, sealed_in, tag_in}
use Rattle.seal.specs.Schemes.{bench_cover, bench_tag}
use Rattle.seal.specs.Schemed.{Fit, lawful}
use Rattle.machine.specs.Files.{file_of, entries}
use Rattle.machine.specs.Makings.{Format, formatted}
use Rattle.machine.specs.Runs.{Run}
use Rattle.machine.specs.Worked.{bench, worked_calls, Worked, WorkedIsARun}

pub worked : Worked
unfolding body_of block_in value_in record_of counter_in sealed_in tag_in file_of entries filled
worked = refl

bench_fit : Fit bench_cover bench_tag
bench_fit = record { uncovers = λ p c body h. refl; covers_all = λ p c body h. h; tags_eight = λ p c covered. refl }

the_run : Run
the_run = record {
  rules = bench;
  lawful = lawful bench_cover bench_tag bench_fit;
  card = replicate 4 (replicate 64 0);
  tape = 5 ∷ 1 ∷ 6 ∷ 3 ∷ 2 ∷ [];
  making = Format 2;
  of_bytes = tt;
  made = formatted bench (replicate 4 (replicate 64 0)) (5 ∷ 1 ∷ 6 ∷ 3 ∷ 2 ∷ []) 2;
  granted = refl;
  calls = worked_calls;
}

pub worked_is_a_run : WorkedIsARun
unfolding the_run
worked_is_a_run = (the_run, (refl, (refl, (refl, refl))))
