use Rattle.std.proofs.Common.{◌≡◌, ℕ, true, List, [], length, Some, Ok, Err, Result, sym, refl, ap, ◌∙◌, subst, inl, inr}
use Rattle.std.proofs.lemmas.Result.{err_from_is_err_and}
use Rattle.layout.specs.Numbers.{Bytes}
use Rattle.denial.specs.Denials.{Denial}
use Rattle.seal.specs.Seals.{Rules}
use Rattle.machine.specs.Files.{file_blocks, file_count, file_last, entries}
use Rattle.machine.specs.Machine.{Reason}
use Rattle.machine.specs.Makings.{Shut, above, entries_fit, resume}
use Rattle.answers.specs.Told.{store_reason, reason_of}
use Rattle.answers.specs.declared.denials.Denial as code
use Rattle.answers.specs.declared.denials.Denial.TheVariants.{ByStore, NoMemory}
use Rattle.answers.specs.declared.fault.StoreFault.{StoreFault}
use Rattle.mapfile.specs.Reads.{parse_of}
use Rattle.mapfile.proofs.Listed.{parse_some}
use Rattle.prepare.specs.Checks.{size_check, entry_check, counter_check}
use Rattle.prepare.specs.Sizes.{SizesFit}
use Rattle.engine.specs.declared.state.Memory.{Memory}
use Rattle.prepare.specs.Prepared.{Prepared}
use Rattle.prepare.proofs.Resumed.{misfit_told, fit_told, entries_shut, counters_shut, sizes_fit}
use Rattle.prepare.proofs.prepare.prepare_resume.Goals as goal

-- a denial that resume defines, handed up
shut_so : (rules : Rules) (card : List Bytes) (file : Bytes) (r : Result Memory code.Denial) (y d : code.Denial) → r ≡ Err y → y ≡ d
    → ((tape : List ℕ) → Shut (reason_of d) card tape ≡ resume rules card tape file) → Prepared (λ tape. resume rules card tape file) card card r
shut_so rules card file r y d e f h =
    subst (Prepared (λ tape. resume rules card tape file) card card) (sym (e ∙ ap (λ (x : code.Denial). Err x) f)) (refl, inl h)

-- want of memory where the sizes fit, handed up
memory_so : (rules : Rules) (card : List Bytes) (file : Bytes) (r : Result Memory code.Denial) (y : code.Denial) → r ≡ Err y → y ≡ NoMemory
    → ((tape : List ℕ) → SizesFit (resume rules card tape file)) → Prepared (λ tape. resume rules card tape file) card card r
memory_so rules card file r y e f h =
    subst (Prepared (λ tape. resume rules card tape file) card card) (sym (e ∙ ap (λ (x : code.Denial). Err x) f)) (refl, inr (refl, h))

-- the sizes that were checked are those of the file and the card
sizes_so : (card : List Bytes) (file held : Bytes) (n count : ℕ) (r : Result (Unit {0}) Denial) → held ≡ file → n ≡ file_blocks held → count ≡ length card
    → r ≡ size_check n count → r ≡ size_check (file_blocks file) (length card)
sizes_so card file held n count r same a b e = e ∙ (ap (λ (z : ℕ). size_check z count) (a ∙ ap file_blocks same) ∙ ap (size_check (file_blocks file)) b)

fits_so : (rules : Rules) (card : List Bytes) (file held : Bytes) (n count told : ℕ) → Some held ≡ parse_of file → n ≡ file_blocks held → count ≡ length card
    → ◌≡◌ {A = Result (Unit {0}) Denial} (Ok tt) (size_check n count) → count ≡ told → told ≡ file_count held → (tape : List ℕ) → SizesFit (resume rules card tape file)
fits_so rules card file held n count told p a b e q t tape =
    let s = parse_some file held p in
    sizes_fit rules card tape file s.0 (sizes_so card file held n count (Ok tt) s.1 a b e) (sym b ∙ (q ∙ (t ∙ ap file_count s.1)))

by_entries : (rules : Rules) (card : List Bytes) (file held : Bytes) (n count told : ℕ) (f : StoreFault) → Some held ≡ parse_of file → n ≡ file_blocks held → count ≡ length card
    → ◌≡◌ {A = Result (Unit {0}) Denial} (Ok tt) (size_check n count) → count ≡ told → told ≡ file_count held
    → ◌≡◌ {A = Result (Unit {0}) StoreFault} (Err f) (entry_check (entries_fit (file_blocks held) count 0 [] (entries held)))
    → (tape : List ℕ) → Shut (store_reason f) card tape ≡ resume rules card tape file
by_entries rules card file held n count told f p a b e q t h tape =
    let s = parse_some file held p in
    let same = s.1 in
    let u = misfit_told (entries_fit (file_blocks held) count 0 [] (entries held)) f h in
    ap (λ (x : StoreFault). Shut (store_reason x) card tape) u.1
    ∙ entries_shut rules card tape file s.0
    (sizes_so card file held n count (Ok tt) same a b e)
    (sym b ∙ (q ∙ (t ∙ ap file_count same)))
    (sym (ap (λ (z : Bytes). entries_fit (file_blocks z) count 0 [] (entries z)) same ∙ ap (λ (z : ℕ). entries_fit (file_blocks file) z 0 [] (entries file)) b) ∙ u.0)

by_counters : (rules : Rules) (card : List Bytes) (file held : Bytes) (n count told last : ℕ) (r : Reason) → Some held ≡ parse_of file → n ≡ file_blocks held → count ≡ length card
    → ◌≡◌ {A = Result (Unit {0}) Denial} (Ok tt) (size_check n count) → count ≡ told → told ≡ file_count held → true ≡ entries_fit (file_blocks held) count 0 [] (entries held) → last ≡ file_last held
    → ◌≡◌ {A = Result (Unit {0}) Reason} (Err r) (counter_check (above last 0 card)) → (tape : List ℕ) → Shut r card tape ≡ resume rules card tape file
by_counters rules card file held n count told last r p a b e q t f l k tape =
    let s = parse_some file held p in
    let same = s.1 in
    counters_shut rules card tape file s.0 r
    (sizes_so card file held n count (Ok tt) same a b e)
    (sym b ∙ (q ∙ (t ∙ ap file_count same)))
    (f ∙ (ap (λ (z : Bytes). entries_fit (file_blocks z) count 0 [] (entries z)) same ∙ ap (λ (z : ℕ). entries_fit (file_blocks file) z 0 [] (entries file)) b))
    (k ∙ ap (λ (z : ℕ). counter_check (above z 0 card)) (l ∙ ap file_last same))

pub returns-in_err-map : goal.returns-in_err-map
returns-in_err-map g c =
    let rules = g.S.Seal.rules c.args.seal.now in
    let card = g.C.Card.records c.args.card.now in
    let file = c.args.file.now in
    let p = err_from_is_err_and c.from_residual-in_err-map.result c.from_residual-in_err-map.ensures.1 in
    memory_so rules card file c.from_residual-in_err-map.result p.0 p.1 p.2
    (fits_so rules card file c.in-Some.file.bytes.now _ _ _ c.in-Some.ensures c.blocks-2.ensures c.count-count.ensures c.in_ok-check_sizes.ensures c.if-count.false c.count.ensures)

pub returns-in_err-waiting : goal.returns-in_err-waiting
returns-in_err-waiting g c =
    let rules = g.S.Seal.rules c.args.seal.now in
    let card = g.C.Card.records c.args.card.now in
    let file = c.args.file.now in
    let p = err_from_is_err_and c.from_residual-in_err-waiting.result c.from_residual-in_err-waiting.ensures.1 in
    memory_so rules card file c.from_residual-in_err-waiting.result p.0 p.1 p.2
    (fits_so rules card file c.in-Some.file.bytes.now _ _ _ c.in-Some.ensures c.blocks-2.ensures c.count-count.ensures c.in_ok-check_sizes.ensures c.if-count.false c.count.ensures)

pub returns-in_err-settle_entries : goal.returns-in_err-settle_entries
returns-in_err-settle_entries g c =
    let rules = g.S.Seal.rules c.args.seal.now in
    let card = g.C.Card.records c.args.card.now in
    let file = c.args.file.now in
    let p = err_from_is_err_and c.from_residual-in_err-settle_entries.result c.from_residual-in_err-settle_entries.ensures.1 in
    shut_so rules card file c.from_residual-in_err-settle_entries.result p.0 (ByStore c.in_err-settle_entries.field-0.0) p.1 p.2
    (by_entries rules card file c.in-Some.file.bytes.now _ _ _ c.in_err-settle_entries.field-0.0 c.in-Some.ensures c.blocks-2.ensures c.count-count.ensures c.in_ok-check_sizes.ensures
    c.if-count.false c.count.ensures c.in_err-settle_entries.ensures.fit)

pub returns-in_err-check_counters : goal.returns-in_err-check_counters
returns-in_err-check_counters g c =
    let rules = g.S.Seal.rules c.args.seal.now in
    let card = g.C.Card.records c.args.card.now in
    let file = c.args.file.now in
    let p = err_from_is_err_and c.from_residual-in_err-check_counters.result c.from_residual-in_err-check_counters.ensures.1 in
    shut_so rules card file c.from_residual-in_err-check_counters.result p.0 c.in_err-check_counters.field-0.0 p.1 p.2
    (by_counters rules card file c.in-Some.file.bytes.now _ _ _ _ _ c.in-Some.ensures c.blocks-2.ensures c.count-count.ensures c.in_ok-check_sizes.ensures
    c.if-count.false c.count.ensures (fit_told _ c.in_ok-settle_entries.ensures.fit) c.last.ensures c.in_err-check_counters.ensures)
