-- The two rules of a seal, and what a sealing and an opening answer by them.
use Rattle.std.specs.Prelude.{◌≡◌, ℕ, ◌^◌, ◌<◌, cond, ◌&&◌, length, take, Some, None, Ok, Err, Option, Result, ◌==◌}
use Rattle.layout.specs.Numbers.{Bytes, little}
use Rattle.denial.specs.Denials.{Denial, wrong_size, wrong_tag}
use Rattle.denial.specs.declared.Layer.TheVariants.{Seal}

-- One rule gives the record for a place, a counter and a body; the other opens a record at a place, to a counter and a body, or not.
pub record Rules : Type 0 where
  pub sealed : ℕ → ℕ → Bytes → Bytes
  pub opened : ℕ → Bytes → Option (ℕ × Bytes)

-- The laws that every seal shows of its rules.
pub record Lawful (rules : Rules) : Type 0 where
  -- opening at a place what was sealed for that place gives back the counter and the body
  pub opens : (p c : ℕ) (body : Bytes) → p < 2 ^ 32 → c < 2 ^ 32 → length body ≡ 52 → rules.opened p (rules.sealed p c body) ≡ Some (c, body)
  -- the first four bytes of a sealed record are its counter
  pub counted : (p c : ℕ) (body : Bytes) → c < 2 ^ 32 → length body ≡ 52 → take 4 (rules.sealed p c body) ≡ little 4 c
  -- a sealed record is 64 bytes
  pub sealed_long : (p c : ℕ) (body : Bytes) → length body ≡ 52 → length (rules.sealed p c body) ≡ 64
  -- an opened body is 52 bytes
  pub opened_long : (p c : ℕ) (bytes body : Bytes) → rules.opened p bytes ≡ Some (c, body) → length body ≡ 52

-- a sealing: its answer, and the buffer after
abbrev pub seal_of : Rules → ℕ → ℕ → Bytes → Bytes → Result (Unit {0}) Denial × Bytes
seal_of rules p counter body buffer =
    cond (length body == 52 && length buffer == 64) (Ok tt, rules.sealed p counter body) (Err (wrong_size Seal), buffer)

-- an opening of 64 bytes into 52: the counter and the body, or 17 and nothing written
abbrev pub opening : ℕ → Bytes → Option (ℕ × Bytes) → Result ℕ Denial × Bytes
opening p buffer (Some got) = (Ok got.0, got.1)
opening p buffer None = (Err (wrong_tag p), buffer)

-- an opening: its answer, and the buffer after
abbrev pub open_of : Rules → ℕ → Bytes → Bytes → Result ℕ Denial × Bytes
open_of rules p bytes buffer =
    cond (length bytes == 64 && length buffer == 52) (opening p buffer (rules.opened p bytes)) (Err (wrong_size Seal), buffer)
