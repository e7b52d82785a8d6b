-- What writing a map file answers and leaves.
use Rattle.std.specs.Prelude.{ℕ, cond, List, ◌++◌, length, drop, Some, None, Option, nat_le}
use Rattle.std.proofs.Math.Seq.{paste}
use Rattle.layout.specs.Numbers.{Bytes}
use Rattle.machine.specs.Files.{file_of, file_length_of}

-- a buffer with a piece written over it, from a byte on
unfoldable pub put_at : Bytes → ℕ → Bytes → Bytes
put_at buffer at piece = paste buffer at piece (length piece)

-- the file's length and the file in front of the buffer; none, and the buffer as it was, where the file is longer
abbrev pub encode_of : ℕ → ℕ → List (Option ℕ) → Bytes → Option ℕ × Bytes
encode_of count last places buffer =
    cond (nat_le (file_length_of places) (length buffer))
    (Some (file_length_of places), file_of count last places ++ drop (file_length_of places) buffer)
    (None, buffer)
