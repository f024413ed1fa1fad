-- The lines that a file begins with. 01, "Files": the version, the format, and then lines that start with # up to the end line.
use Rattle.std.specs.Prelude.{ℕ, zero, suc, ◌+◌, ◌-◌, Bool, cond, ◌&&◌, List, [], ◌∷◌, length, take, drop, get_or, leb, eqb}
use Rattle.std.specs.Prelude.{Option, Some, None, Result, Ok, Err}
use Rattle.std.specs.Cmp.Lexicographic.{pointwise}
use Rattle.rows.specs.declared.fault.Fault.{Fault}
use Rattle.rows.specs.declared.fault.Fault.TheVariants.{Cut, BadHeader}
use Rattle.header.specs.declared.reader.HeaderError.{HeaderError}
use Rattle.header.specs.Lines.{line_end}
use Rattle.aedat.specs.declared.lines.Line.{Line}
use Rattle.aedat.specs.declared.lines.Stage.{Stage}
use Rattle.aedat.specs.declared.lines.Stage.TheVariants.{Version, Format, Further}

-- "#!AER-DAT3.1", "#Format: RAW" and "#!END-HEADER"
abbrev pub version_text : List ℕ
version_text = 35 ∷ 33 ∷ 65 ∷ 69 ∷ 82 ∷ 45 ∷ 68 ∷ 65 ∷ 84 ∷ 51 ∷ 46 ∷ 49 ∷ []

abbrev pub format_text : List ℕ
format_text = 35 ∷ 70 ∷ 111 ∷ 114 ∷ 109 ∷ 97 ∷ 116 ∷ 58 ∷ 32 ∷ 82 ∷ 65 ∷ 87 ∷ []

abbrev pub end_text : List ℕ
end_text = 35 ∷ 33 ∷ 69 ∷ 78 ∷ 68 ∷ 45 ∷ 72 ∷ 69 ∷ 65 ∷ 68 ∷ 69 ∷ 82 ∷ []

-- whether two texts are the same
abbrev pub same : List ℕ → List ℕ → Bool
same t u = pointwise eqb t u

-- whether a text starts with #
abbrev pub starts_line : List ℕ → Bool
starts_line t = eqb (get_or t 0 0) 35

-- a good text, and which line comes next
abbrev pub good_if : Bool → Stage → Result (Option Stage) Fault
good_if test next = cond test (Ok (Some next)) (Err BadHeader)

-- what a line says by its text, and which line comes next: the first has the version, the second the format, a further one starts with # and
-- may be the last
unfoldable pub text_step : Stage → List ℕ → Result (Option Stage) Fault
text_step Version t = good_if (same t version_text) Format
text_step Format t = good_if (same t format_text) Further
text_step Further t = cond (same t end_text) (Ok None) (good_if (starts_line t) Further)

-- whether a CR stands just before the newline at i
abbrev pub has_return : ℕ → List ℕ → Bool
has_return i b = leb 1 i && eqb (get_or b (i - 1) 0) 13

-- a line of some length that is as good as its text
abbrev pub line_as : ℕ → Result (Option Stage) Fault → Result Line Fault
line_as long (Ok next) = Ok (record { length = long; next = next })
line_as long (Err f) = Err f

-- the line at the front of b, by where it ends: its text lies before the CR
abbrev pub line_step : Result ℕ Fault → Stage → List ℕ → Result Line Fault
line_step (Ok i) stage b = cond (has_return i b) (line_as (i + 1) (text_step stage (take (i - 1) b))) (Err BadHeader)
line_step (Err f) stage b = Err f

-- it ends at its first newline, among its first 1,024 bytes: cut by the end of the input 4, otherwise bad 9
unfoldable pub step_of : Stage → List ℕ → Result Line Fault
step_of stage b = line_step (line_end 1024 b 0) stage b

-- a refusal is at the line's first byte, and the packets begin after the last line
abbrev pub next_then : Option Stage → ℕ → (Stage → Result ℕ HeaderError) → Result ℕ HeaderError
next_then (Some stage) after rest = rest stage
next_then None after rest = Ok after

abbrev pub step_then : Result Line Fault → ℕ → (ℕ → Stage → Result ℕ HeaderError) → Result ℕ HeaderError
step_then (Ok l) place rest = next_then l.next (place + l.length) (rest l.length)
step_then (Err f) place rest = Err (record { fault = f; place = place })

-- the lines in order, from a place on; there are no more of them than bytes. Where the input ends before the last line it is cut there
unfoldable pub lines_from : ℕ → Stage → List ℕ → ℕ → Result ℕ HeaderError
lines_from zero stage b place = Err (record { fault = Cut; place = place })
lines_from (suc most) stage b place = step_then (step_of stage b) place (λ long next. lines_from most next (drop long b) (place + long))

-- from the first byte of the file on
unfoldable pub lines_of : List ℕ → Result ℕ HeaderError
lines_of bytes = lines_from (length bytes) Version bytes 0
