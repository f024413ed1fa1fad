-- The text header of RAW and DAT files: what any bytes give. 01, "Files".
use Rattle.std.specs.Prelude.{ℕ, zero, suc, ◌+◌, ◌-◌, cond, List, length, take, drop, ltb, Option, Some, None, Result, Ok, Err, unwrap_or}
use Rattle.rows.specs.declared.fault.Fault.{Fault}
use Rattle.rows.specs.declared.fault.Fault.TheVariants.{TooLong, BadHeader}
use Rattle.rows.specs.declared.fault.ReadError.{ReadError}
use Rattle.rows.specs.Fault.{number_of}
use Rattle.rows.specs.Runs.{refused, Run, stopped}
use Rattle.header.specs.declared.reader.Header.{Header}
use Rattle.header.specs.declared.reader.HeaderError.{HeaderError}
use Rattle.header.specs.declared.reader.HeaderNumbers.{HeaderNumbers}
use Rattle.header.specs.declared.reader.Line.{Line}
use Rattle.header.specs.declared.side.Sides.{Sides}
use Rattle.header.specs.Lines.{is_line, line_end}
use Rattle.header.specs.Sides.{judged_of, unsaid}

-- what the line at the front says: a refusal, nothing where no line stands there, or the length of a good one and what is known after it
abbrev pub Step : Type 0
Step = Result (Option Line) Fault

-- a line with its newline at i, by its text: bad 9, or good and what is known after it
abbrev pub judged_step : ℕ → Option Sides → Step
judged_step i (Some s) = Ok (Some (record { length = i + 1; sides = s }))
judged_step i None = Err BadHeader

-- the line at the front of b: cut by the end of the input 4, without an end 9, else as its text says, which lies between the first two
-- bytes and the newline
abbrev pub line_step : Result ℕ Fault → ℕ → List ℕ → Sides → Step
line_step (Ok i) limit b s = judged_step i (judged_of limit (take (i - 2) (drop 2 b)) s)
line_step (Err f) limit b s = Err f

-- where no line stands at the front the header is over
unfoldable pub step_of : ℕ → List ℕ → Sides → Step
step_of limit b s = cond (is_line b) (line_step (line_end 256 b 0) limit b s) (Ok None)

-- the data begin at a place; a side that no line said is the limit
abbrev pub data_at : ℕ → ℕ → Sides → Result Header HeaderError
data_at limit place s = Ok (record { at = place; width = unwrap_or s.width limit; height = unwrap_or s.height limit })

-- a refusal is at the line's first byte
abbrev pub step_then : Step → ℕ → ℕ → Sides → (ℕ → Sides → Result Header HeaderError) → Result Header HeaderError
step_then (Ok None) limit place s rest = data_at limit place s
step_then (Err f) limit place s rest = Err (record { fault = f; place = place })
step_then (Ok (Some l)) limit place s rest = rest l.length l.sides

-- the lines in order, from a place on; there are no more of them than bytes
unfoldable pub header_from : ℕ → ℕ → List ℕ → ℕ → Sides → Result Header HeaderError
header_from zero limit b place s = data_at limit place s
header_from (suc most) limit b place s = step_then (step_of limit b s) limit place s (λ long s'. header_from most limit (drop long b) (place + long) s')

-- 1 first, and then the lines
unfoldable pub header_of : ℕ → List ℕ → Result Header HeaderError
header_of limit bytes = cond (ltb 1073741824 (length bytes)) (Err (record { fault = TooLong; place = 0 })) (header_from (length bytes) limit bytes 0 unsaid)

-- the answer as numbers: refusal 0 stands for none, and a refusal has no sides
abbrev pub header_numbers : Result Header HeaderError → HeaderNumbers
header_numbers (Ok h) = record { refusal = 0; place = h.at; width = h.width; height = h.height }
header_numbers (Err e) = record { refusal = number_of e.fault; place = e.place; width = 0; height = 0 }

-- a refusal as that of a reader: it gives no rows
abbrev pub no_rows : HeaderError → ReadError
no_rows e = record { fault = e.fault; rows = 0; place = e.place }

-- a file that begins with a header: refused, it gives no rows; else what is read from where the data begin, in a picture of its sides
abbrev pub after_header : {S : Type 0} → Result Header HeaderError → (ℕ → ℕ → ℕ → Run S) → Run S
after_header (Ok h) rest = rest h.at h.width h.height
after_header (Err e) rest = stopped (refused e.fault e.place)
