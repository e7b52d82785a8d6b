use Rattle.std.proofs.Common.{vec_items, sym, refl, true≢false, ◌∙◌}
use Rattle.runs.proofs.Compares.{same_faces, other_faces, places_tell}
use Rattle.runs.proofs.compare.compare.Goals as goal

pub returns-then-eq : goal.returns-then-eq
returns-then-eq c =
    let t = c.args.one.now in
    let u = c.args.other.now in
    same_faces t u t.shown u.shown (c.if-not-begun_alike.ensures.0 refl)
    ((places_tell (vec_items t.notes.places) (vec_items u.notes.places) c.eq.result c.eq.ensures).0 c.if-eq.true)

pub returns-else-eq : goal.returns-else-eq
returns-else-eq c =
    let t = c.args.one.now in
    let u = c.args.other.now in
    other_faces t u t.shown u.shown (c.if-not-begun_alike.ensures.0 refl)
    (λ h. true≢false (sym ((places_tell (vec_items t.notes.places) (vec_items u.notes.places) c.eq.result c.eq.ensures).1 h) ∙ c.if-eq.false))
