-- The verdict of a list of rows whatever one row is judged by, and rows in any order of time. 01, "Refusal numbers", and 02, R-6.
use Rattle.std.specs.Prelude.{ℕ, suc, Bool, cond, List, [], ◌∷◌, length, Result, Ok, Err}
use Rattle.rows.specs.declared.fault.Fault.{Fault}
use Rattle.rows.specs.declared.fault.Fault.TheVariants.{BadRow, BadList}
use Rattle.rows.specs.declared.row.Row.{Row}
use Rattle.rows.specs.Row.{time_of, rows_of}
use Rattle.rows.specs.Rules.{Verdict, accepted, refused, verdict_then, good_length}

-- the rows from index i on, after a last time; `judged` is what one row gets after the time of the row before it
unfoldable pub verdict_by : (Row → ℕ → Result ℕ Fault) → List Row → ℕ → ℕ → Verdict
verdict_by judged [] i last = accepted
verdict_by judged (r ∷ rs) i last = verdict_then (judged r last) i (verdict_by judged rs (suc i))

-- 13 first, then row by row
unfoldable pub verdict_on : (Row → ℕ → Result ℕ Fault) → List ℕ → Verdict
verdict_on judged l = cond (good_length (length l)) (verdict_by judged (rows_of l) 0 0) (refused BadList 0)

-- a list in any order, each row 12 where it does not pass a test
abbrev pub in_any_order : (Row → Bool) → Row → ℕ → Result ℕ Fault
in_any_order test r last = cond (test r) (Ok (time_of r)) (Err BadRow)
