use Rattle.std.proofs.Common.{◌≡◌, map, ap, sym, ◌∙◌}
use Rattle.std.proofs.lemmas.List.{map-id}
use Rattle.std.proofs.lemmas.Iterator.Consumers.{YieldsList-at}
use Rattle.std.proofs.lemmas.Iterator.Adapters.{fact_from_extend, YieldsList-from_repeat_n}
use Rattle.runs.specs.Told.{call_told}
use Rattle.bookings.proofs.Adding.{added, map_replicate}
use Rattle.bookings.proofs.calls.push_beats.Goals as goal

pub returns : goal.returns
returns c =
    fact_from_extend (λ y. y) c.extend.result c.extend.ensures.ran
    (λ it same. YieldsList-at same (YieldsList-from_repeat_n (λ x y. y ≡ x) c.args.count _ c.repeat_n.ensures.count c.repeat_n.ensures.item (λ y e. e)))
    (λ xs all gives. added call_told _ _ _ _ gives.0 (ap (map call_told) (sym (map-id xs) ∙ all) ∙ map_replicate call_told c.args.count _))
