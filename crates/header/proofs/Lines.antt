-- The lines of a header: how long a good one is, and how they are read.
use Rattle.std.proofs.Common.{◌≡◌, refl, ℕ, zero, suc, ◌+◌, ◌-◌, ◌≤◌, ◌<◌, List, [], length, take, drop, arith, Option, Some, None, Result, Ok, Err}
use borrow.Author.Tests.{le-ltb, lt-ltb}
use Rattle.rows.specs.declared.fault.Fault.{Fault}
use Rattle.rows.specs.declared.fault.Fault.TheVariants.{TooLong}
use Rattle.rows.proofs.Chosen.{cond_holds}
use Rattle.header.specs.declared.reader.Header.{Header}
use Rattle.header.specs.declared.reader.HeaderError.{HeaderError}
use Rattle.header.specs.declared.reader.Line.{Line}
use Rattle.header.specs.declared.side.Sides.{Sides}
use Rattle.header.specs.Lines.{is_line, line_end}
use Rattle.header.specs.Sides.{judged_of, unsaid}
use Rattle.header.specs.Header.{Step, judged_step, line_step, step_of, step_then, header_from, header_of}
use Rattle.header.proofs.LineEnds.{EndIn, line_ends}
use Rattle.header.proofs.LineRules.{LineRule, LinesRead, none_read, line_is, line_more}

-- a good line lies in the bytes, and is not empty
abbrev pub StepIn : ℕ → Step → Type 0
StepIn most (Ok None) = Unit {0}
StepIn most (Err f) = Unit {0}
StepIn most (Ok (Some l)) = (1 ≤ l.length) × (l.length ≤ most)

judged_in : (most i : ℕ) → i < most → (j : Option Sides) → StepIn most (judged_step i j)
judged_in most i h (Some s) = (omega arith, omega arith)
judged_in most i h None = tt

line_step_in : (limit : ℕ) (b : List ℕ) (s : Sides) (l : Result ℕ Fault) → EndIn 0 (length b) l → StepIn (length b) (line_step l limit b s)
line_step_in limit b s (Ok i) h = judged_in (length b) i h.1 (judged_of limit (take (i - 2) (drop 2 b)) s)
line_step_in limit b s (Err f) h = tt

pub step_in : (limit : ℕ) (b : List ℕ) (s : Sides) → StepIn (length b) (step_of limit b s)
unfolding step_of
step_in limit b s = cond_holds (StepIn (length b)) (is_line b) (λ e. line_step_in limit b s (line_end 256 b 0) (line_ends 256 b)) (λ e. tt)

-- how the lines of a header are read
pub rule_end : (limit : ℕ) (s : Sides) (place : ℕ) (rest : ℕ → Sides → Result Header HeaderError)
    → header_from zero limit [] place s ≡ step_then (step_of limit [] s) limit place s rest
unfolding header_from step_of is_line
rule_end limit s place rest = refl

pub rule_next : (limit most : ℕ) (s : Sides) (b : List ℕ) (place : ℕ)
    → header_from (suc most) limit b place s
    ≡ step_then (step_of limit b s) limit place s (λ long s'. header_from most limit (drop long b) (place + long) s')
unfolding header_from
rule_next limit most s b place = refl

abbrev pub rule : ℕ → LineRule (Result Header HeaderError) Sides Step
rule limit =
    record {
      step = λ s b. step_of limit b s;
      then = λ r s place rest. step_then r limit place s rest;
      from = λ most s b place. header_from most limit b place s;
      end = rule_end limit;
      next = rule_next limit;
    }

-- the loop over them
pub header_start : {limit : ℕ} {bytes : List ℕ} → length bytes ≤ 1073741824 → LinesRead (rule limit) bytes (header_of limit bytes) unsaid 0
unfolding header_of
header_start {limit} h = none_read (rule limit) (simp (le-ltb _ _ h))

pub header_long : (limit : ℕ) (bytes : List ℕ) → 1073741824 < length bytes → Err (record { fault = TooLong; place = 0 }) ≡ header_of limit bytes
unfolding header_of
header_long limit bytes h = simp (lt-ltb _ _ h)

module _ {limit : ℕ} {bytes : List ℕ} {whole : Result Header HeaderError} {s : Sides} {at : ℕ} (h : LinesRead (rule limit) bytes whole s at) {r : Step}
    (e : r ≡ step_of limit (take (length bytes - at) (drop at bytes)) s) {l : Line} (f : r ≡ Ok (Some l)) where
  pub good_line_in : (1 ≤ l.length) × (l.length ≤ length bytes - at)
  good_line_in = line_is h e f StepIn (λ b. step_in limit b s)

  pub good_line_read : LinesRead (rule limit) bytes whole l.sides (at + l.length)
  good_line_read = line_more h e f (λ rest. refl) good_line_in
