-- What reading a map file answers.
use Rattle.std.specs.Prelude.{cond, Some, None, Option}
use Rattle.layout.specs.Numbers.{Bytes}
use Rattle.machine.specs.Makings.{file_long}

-- bytes that are a map file, or none
abbrev pub parse_of : Bytes → Option Bytes
parse_of bytes = cond (file_long bytes) (Some bytes) None
