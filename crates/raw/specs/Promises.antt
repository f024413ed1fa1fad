-- The laws of this crate, each proved in proofs/Kept.antt under the name in lower case.
use Rattle.std.specs.Prelude.{ℕ, List, length}
use Rattle.rows.specs.Rules.{AllGood}
use Rattle.rows.specs.Runs.{EndsWithin}
use Rattle.raw.specs.declared.reader.Format.{Format}
use Rattle.raw.specs.Reader.{reading_of}

-- 01, demand 2 and "Rows": every row that the reader gives is a good row by the row rules
abbrev pub ReadGood : Type 0
ReadGood = (format : Format) (bytes : List ℕ) (room : ℕ) → AllGood (reading_of format bytes room).rows

-- 01, "Refusal numbers": a refusal's place lies in the file, or at its end
abbrev pub ReadWithin : Type 0
ReadWithin = (format : Format) (bytes : List ℕ) (room : ℕ) → EndsWithin (reading_of format bytes room).ending (length bytes)
