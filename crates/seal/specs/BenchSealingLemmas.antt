use Rattle.std.specs.Prelude.{refl}
use Rattle.seal.specs.Schemes.{bench_cover, bench_tag}
use Rattle.seal.specs.Schemed.{Fit}

pub fit : Fit bench_cover bench_tag
fit = record { uncovers = λ p c body h. refl; covers_all = λ p c body h. h; tags_eight = λ p c covered. refl }
