-- A worked run on a card of four places, call by call: answer, buffer and face.
use Rattle.std.specs.Prelude.{◌≡◌, List, [], ◌∷◌, replicate}
use Rattle.denial.specs.Denials.{tape_spent}
use Rattle.seal.specs.Schemes.{rules_by, bench_cover, bench_tag}
use Rattle.seal.specs.Seals.{Rules}
use Rattle.machine.specs.Machine.{Call, Write, Read, Beat, Save, Landed, Resealed, DenialOf, Written, Valued, Beaten, Saved, Denied}
use Rattle.machine.specs.Makings.{Format, make}
use Rattle.machine.specs.Runs.{Seen, seen_on, Run, transcript}

abbrev pub bench : Rules
bench = rules_by bench_cover bench_tag

abbrev pub worked_calls : List Call
worked_calls =
    Write 0 (65 ∷ 66 ∷ []) ∷ Read 0 (replicate 48 9) ∷ Beat
    ∷ Write 1 (67 ∷ []) ∷ Beat
    ∷ Write 0 (68 ∷ []) ∷ Beat
    ∷ Beat ∷ Read 0 (replicate 48 9)
    ∷ Beat
    ∷ Beat
    ∷ Save (replicate 20 7) ∷ []

-- two blocks on four places, and the words 5, 1, 6, 3 and 2
abbrev pub worked_run : List Seen
worked_run = seen_on bench (make bench (replicate 4 (replicate 64 0)) (5 ∷ 1 ∷ 6 ∷ 3 ∷ 2 ∷ []) (Format 2)) worked_calls

abbrev pub Worked : Type 0
Worked =
    worked_run ≡
    record { answer = Written; buffer = []; face_after = 1 ∷ 2 ∷ 3 ∷ 4 ∷ [] }
    ∷ record { answer = Valued; buffer = 65 ∷ 66 ∷ replicate 46 0; face_after = 1 ∷ 2 ∷ 3 ∷ 4 ∷ [] }
    ∷ record { answer = Beaten 1 5 (Landed 0); buffer = []; face_after = 1 ∷ 5 ∷ 3 ∷ 4 ∷ [] }
    ∷ record { answer = Written; buffer = []; face_after = 1 ∷ 5 ∷ 3 ∷ 4 ∷ [] }
    ∷ record { answer = Beaten 1 6 (Resealed 0); buffer = []; face_after = 1 ∷ 6 ∷ 3 ∷ 4 ∷ [] }
    ∷ record { answer = Written; buffer = []; face_after = 1 ∷ 6 ∷ 3 ∷ 4 ∷ [] }
    ∷ record { answer = Beaten 2 7 (Landed 1); buffer = []; face_after = 1 ∷ 6 ∷ 7 ∷ 4 ∷ [] }
    ∷ record { answer = Beaten 3 8 (Landed 0); buffer = []; face_after = 1 ∷ 6 ∷ 7 ∷ 8 ∷ [] }
    ∷ record { answer = Valued; buffer = 68 ∷ replicate 47 0; face_after = 1 ∷ 6 ∷ 7 ∷ 8 ∷ [] }
    ∷ record { answer = Beaten 2 9 (Resealed 1); buffer = []; face_after = 1 ∷ 6 ∷ 9 ∷ 8 ∷ [] }
    ∷ record { answer = Denied (DenialOf tape_spent); buffer = []; face_after = 1 ∷ 6 ∷ 9 ∷ 8 ∷ [] }
    ∷ record { answer = Saved 18; buffer = 2 ∷ 0 ∷ 4 ∷ 0 ∷ 2 ∷ 0 ∷ 9 ∷ 0 ∷ 0 ∷ 0 ∷ 0 ∷ 0 ∷ 1 ∷ 0 ∷ 3 ∷ 0 ∷ 2 ∷ 0 ∷ 7 ∷ 7 ∷ []; face_after = 1 ∷ 6 ∷ 9 ∷ 8 ∷ [] }
    ∷ []

-- the worked run is one of the runs of which the law speaks
abbrev pub WorkedIsARun : Type 0
WorkedIsARun = (x : Run) × ((x.rules ≡ bench) × ((x.making ≡ Format 2) × ((x.calls ≡ worked_calls) × (transcript x ≡ worked_run))))
