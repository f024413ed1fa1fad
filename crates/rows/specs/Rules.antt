-- The row rules: which rows are good, and the verdict of a list that is to be written. 01, "Rows" and "Refusal numbers".
use Rattle.std.specs.Prelude.{◌≡◌, ℕ, suc, ◌/◌, ◌%◌, ◌≤◌, Bool, true, false, cond, ◌&&◌, List, [], ◌∷◌, length, leb, ltb, eqb, Result, Ok, Err}
use Rattle.rows.specs.declared.fault.Fault.{Fault}
use Rattle.rows.specs.declared.fault.Fault.TheVariants.{BadTime, BadRow, BadList}
use Rattle.rows.specs.declared.row.Row.{Row}
use Rattle.rows.specs.declared.rules.Kind.{Kind}
use Rattle.rows.specs.declared.rules.Kind.TheVariants.{Pixel, Trigger, ImuCounts, ImuSingles, Special, Other}
use Rattle.rows.specs.Row.{time_of, rows_of, All}

-- the kinds 1 to 4 and 6. 02, R-11: 5 was the USB packet; the number is not given to another kind
unfoldable pub kind_of : ℕ → Kind
kind_of n =
    cond (eqb n 1) Pixel
    (cond (eqb n 2) Trigger
    (cond (eqb n 3) ImuCounts
    (cond (eqb n 4) ImuSingles
    (cond (eqb n 6) Special Other))))

-- unused data are 0
abbrev pub unused : List ℕ → Bool
unused [] = true
unused (n ∷ ns) = eqb n 0 && unused ns

-- every one of some numbers is below a limit
abbrev pub below : ℕ → List ℕ → Bool
below limit [] = true
below limit (n ∷ ns) = ltb n limit && below limit ns

-- time is 0 to 2^34 - 1
abbrev pub timely : Row → Bool
timely r = ltb (time_of r) 17179869184

-- two data numbers below their limits
abbrev pub good_pair : ℕ → ℕ → Row → Bool
good_pair first second r = timely r && ltb r.a first && ltb r.b second && unused (r.c ∷ r.d ∷ r.e ∷ r.f ∷ r.g ∷ [])

-- what each kind asks of its row
unfoldable pub good_as : Kind → Row → Bool
-- x and y to 32,767, polarity 0 or 1; 02, R-9: camera 0 or 1
good_as Pixel r = timely r && below 32768 (r.a ∷ r.b ∷ []) && below 2 (r.c ∷ r.d ∷ []) && unused (r.e ∷ r.f ∷ r.g ∷ [])
-- channel to 31, edge 0 or 1
good_as Trigger r = good_pair 32 2 r
-- six counts to 65,535
good_as ImuCounts r = timely r && below 65536 (r.a ∷ r.b ∷ r.c ∷ r.d ∷ r.e ∷ r.f ∷ []) && unused (r.g ∷ [])
-- the bits of seven singles: any
good_as ImuSingles r = timely r
-- type to 127, data below 2^24
good_as Special r = good_pair 128 16777216 r
-- no other kind is good
good_as Other r = false

-- a good row; any other is refused 12
unfoldable pub good_row : Row → Bool
good_row r = good_as (kind_of r.kind) r

-- rows that are all good
abbrev pub AllGood : List Row → Type 0
AllGood rs = All good_row rs

-- 02, R-9: a row as the formats other than EVT3 have them: good, and of camera 0 if it is a pixel
unfoldable pub plain_row : Row → Bool
plain_row r = good_row r && cond (eqb r.kind 1) (eqb r.d 0) true

-- one row of a list to be written, after a last time: 12 where it is bad or unwritable, then 5 where its time goes back
abbrev pub judged_by : Bool → Bool → Row → ℕ → Result ℕ Fault
judged_by good writable r last =
    cond (good && writable)
    (cond (ltb (time_of r) last) (Err BadTime) (Ok (time_of r)))
    (Err BadRow)

-- by the rules of a kind, and by those of its own
unfoldable pub judged_as : Kind → Bool → Row → ℕ → Result ℕ Fault
judged_as kind writable r last = judged_by (good_as kind r) writable r last

unfoldable pub judged_of : Bool → Row → ℕ → Result ℕ Fault
judged_of writable r last = judged_by (good_row r) writable r last

-- the verdict of a list: none refused, or a refusal and the index of the first bad row
pub data Verdict : Type 0 where
  accepted : Verdict
  refused : Fault → ℕ → Verdict

-- the first refusal decides; else the rest is judged after this row's time
abbrev pub verdict_then : Result ℕ Fault → ℕ → (ℕ → Verdict) → Verdict
verdict_then (Ok t) i rest = rest t
verdict_then (Err f) i rest = refused f i

-- the rows from index i on, after a last time; `writable` is what a format can write
unfoldable pub verdict_from : (Row → Bool) → List Row → ℕ → ℕ → Verdict
verdict_from writable [] i last = accepted
verdict_from writable (r ∷ rs) i last = verdict_then (judged_of (writable r) r last) i (verdict_from writable rs (suc i))

-- a list length that is a multiple of ten, and at most 16,777,216 rows
unfoldable pub good_length : ℕ → Bool
good_length n = eqb (n % 10) 0 && leb (n / 10) 16777216

-- 13 first, then row by row 12 or 5
unfoldable pub verdict_of : (Row → Bool) → List ℕ → Verdict
verdict_of writable l = cond (good_length (length l)) (verdict_from writable (rows_of l) 0 0) (refused BadList 0)

-- 01, "Spelling": good rows that the format can write, times not decreasing
abbrev pub Writable : (Row → Bool) → ℕ → List Row → Type 0
Writable writable last [] = Unit {0}
Writable writable last (r ∷ rs) = (good_row r ≡ true) × (writable r ≡ true) × (last ≤ time_of r) × Writable writable (time_of r) rs
