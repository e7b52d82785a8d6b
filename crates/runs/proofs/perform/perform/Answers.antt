use Rattle.std.proofs.Common.{ℕ, List, replicate, ◌∙◌, rules}
use Rattle.machine.specs.Machine.{Read, Save, Valued, Saved}
use Rattle.machine.specs.Makings.{call}
use Rattle.runs.proofs.Buffers.{kept_by_read, kept_by_save, into_own}
use Rattle.runs.proofs.perform.perform.Goals as goal

pub returns-in_ok-buffer-in-Read-clause-step : goal.returns-in_ok-buffer-in-Read-clause-step
returns-in_ok-buffer-in-Read-clause-step g c =
    let s = c.args.store.now.store in
    let by = g.S.Seal.rules c.args.store.now.seal in
    let b = c.in-Read.block.0 in
    let zeros : List ℕ = replicate c.in-Read.size 0 in
    rw c.in-Read.is (into_own (λ xs. call by s (Read b xs)) (λ _. Valued) s c.in_ok-buffer-in-Read.buffer zeros c.deref_mut.result.now c.read-read.new.buffer c.read-read.result c.map-in-Read.result _
    c.deref_mut.ensures.value (c.in_ok-buffer-in-Read.ensures.items_if_clones_equal (λ y e. e)) (c.read-read.auto.buffer ∙ c.deref_mut.ensures.len) c.read-read.ensures.step
    (kept_by_read by s b zeros) c.map-in-Read.ensures.cases (λ x g p. (search rules, search rules)))

pub returns-in_ok-buffer-in-Save-clause-step : goal.returns-in_ok-buffer-in-Save-clause-step
returns-in_ok-buffer-in-Save-clause-step g c =
    let s = c.args.store.now.store in
    let by = g.S.Seal.rules c.args.store.now.seal in
    let zeros : List ℕ = replicate c.in-Save.size 0 in
    rw c.in-Save.is (into_own (λ xs. call by s (Save xs)) (λ n. Saved n) s c.in_ok-buffer-in-Save.buffer zeros c.deref_mut-in-Save.result.now c.save-saved.new.buffer c.save-saved.result c.map-in-Save.result _
    c.deref_mut-in-Save.ensures.value (c.in_ok-buffer-in-Save.ensures.items_if_clones_equal (λ y e. e)) (c.save-saved.auto.buffer ∙ c.deref_mut-in-Save.ensures.len) c.save-saved.ensures.step
    (kept_by_save by s zeros) c.map-in-Save.ensures.cases (λ x g p. (search rules, search rules)))
