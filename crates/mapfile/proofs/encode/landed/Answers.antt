use Rattle.std.proofs.Common.{◌≡◌, length, Option, is_some, ap, ◌∙◌, rules}
use borrow.Author.Tests.{tests}
use Rattle.std.specs.List.{filter}
use Rattle.std.proofs.lemmas.Iterator.{YieldsList-from_slice}
use Rattle.std.proofs.lemmas.Iterator.Consumers.{count_from_yields_List, YieldsList-from_filter}
use Rattle.layout.specs.declared.names.Place.{Place}
use Rattle.machine.specs.Files.{landed_places}
use Rattle.mapfile.proofs.Landings.{landed_counted}
use Rattle.mapfile.proofs.encode.landed.Goals as goal

pub returns : goal.returns
returns c =
    let places = c.places.result.now in
    let e : c.count.result ≡ length (filter (λ (o : Option Place). is_some o) places) =
    count_from_yields_List c.filter.result c.count.result c.count.ensures.ran (YieldsList-from_filter _ (λ (o : Option Place). is_some o) (YieldsList-from_slice places (cc)) c.filter.ensures.closure (λ x r q k. search (rules, tests))) in
    e ∙ (landed_counted places ∙ ap (λ z. length (landed_places z)) c.places.ensures.by_block)
