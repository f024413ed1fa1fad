-- The lines of a file: what one says, and how they are read.
use mathlib.Core.Path.{◌≡◌, refl, sym, ◌∙◌, ap, subst}
use Prim.Native.Nat.{ℕ, zero, suc, ◌+◌, ◌-◌, ◌≤◌, ◌<◌}
use native.Mathlib.Omega.{arith}
use mathlib.Core.Bool.{Bool, true, false, ◌&&◌}
use mathlib.Core.List.{List, [], ◌∷◌}
use lib.Dec.{eqb}
use lib.ListN.{length, take, drop, get_or, length-drop}
use lib.Seq.{length-take-le, take-take, drop-cons}
use borrow.Author.Tests.{le-leb}
use Rattle.std.proofs.lemmas.List.{drop-take}
use Rattle.std.specs.Cmp.Lexicographic.{pointwise}
use Rattle.std.specs.Prelude.{Option, Some, None, Result, Ok, Err}
use Rattle.rows.specs.declared.fault.Fault.{Fault}
use Rattle.rows.specs.declared.fault.Fault.TheVariants.{BadHeader}
use Rattle.rows.proofs.Chosen.{cond_holds}
use Rattle.header.specs.declared.reader.HeaderError.{HeaderError}
use Rattle.header.specs.Lines.{line_end}
use Rattle.header.proofs.LineEnds.{EndIn, line_ends}
use Rattle.header.proofs.LineRules.{LineRule, LinesRead, none_read, line_is, line_then, line_more}
use Rattle.aedat.specs.declared.lines.Line.{Line}
use Rattle.aedat.specs.declared.lines.Stage.{Stage}
use Rattle.aedat.specs.declared.lines.Stage.TheVariants.{Version}
use Rattle.aedat.specs.Lines.{text_step, has_return, line_as, line_step, step_of, next_then, step_then, lines_from, lines_of}

-- a newline that the code found lies in the input
pub line_in : (b : List ℕ) {l : Result ℕ Fault} {i : ℕ} → l ≡ line_end 1024 b 0 → l ≡ Ok i → i < length b
line_in b e f = (subst (EndIn 0 (length b)) (sym e ∙ f) (line_ends 1024 b)).1

one : (i : ℕ) (b : List ℕ) → pointwise eqb (get_or b i 0 ∷ []) (13 ∷ []) ≡ has_return (suc i) b
one i b =
    let some : 1 ≤ suc i = omega arith in
    let place : suc i - 1 ≡ i = omega arith in
    rw (le-leb _ _ some, place) (both (eqb (get_or b i 0) 13))
  where
    both : (t : Bool) → t && true ≡ true && t
    both true = refl
    both false = refl

-- the text of a line stands before the CR, which is the last byte before the newline
last_byte : (i : ℕ) (b : List ℕ) → i < length b → pointwise eqb (drop (length (take i b) - 1) (take i b)) (13 ∷ []) ≡ has_return i b
last_byte zero b h = refl
last_byte (suc i) b h =
    let long : length (take (suc i) b) - 1 ≡ i = omega (arith, length-take-le (suc i) b (omega arith)) in
    let next : suc i ≡ i + 1 = omega arith in
    let last : drop i (take (suc i) b) ≡ get_or b i 0 ∷ [] =
    ap (λ (n : ℕ). drop i (take n b)) next ∙ drop-take i 1 b ∙ ap (take 1) (drop-cons b i 0 (omega arith)) in
    ap (λ (n : ℕ). pointwise eqb (drop n (take (suc i) b)) (13 ∷ [])) long ∙ ap (λ (t : List ℕ). pointwise eqb t (13 ∷ [])) last ∙ one i b

-- what the code found of the line at the front: l is where it ends
module _ (stage : Stage) (b : List ℕ) {l : Result ℕ Fault} (e : l ≡ line_end 1024 b 0) where
  pub step_unended : {f : Fault} → l ≡ Err f → Err f ≡ step_of stage b
  unfolding step_of
  step_unended f = rw (sym e ∙ f)

  module _ {i : ℕ} (f : l ≡ Ok i) where
    pub step_bare : pointwise eqb (drop (length (take i b) - 1) (take i b)) (13 ∷ []) ≡ false → Err BadHeader ≡ step_of stage b
    unfolding step_of
    step_bare z = rw (sym e ∙ f, sym (last_byte i b (line_in b e f)) ∙ z)

    pub step_returned : pointwise eqb (drop (length (take i b) - 1) (take i b)) (13 ∷ []) ≡ true → {t : List ℕ} → t ≡ take (length (take i b) - 1) (take i b)
        → {r : Result (Option Stage) Fault} → r ≡ text_step stage t → line_as (i + 1) r ≡ step_of stage b
    unfolding step_of
    step_returned z {t} g {r} h =
        let long : length (take i b) - 1 ≡ i - 1 = omega (arith, length-take-le i b (omega (arith, line_in b e f))) in
        let text : t ≡ take (i - 1) b = g ∙ ap (λ (n : ℕ). take n (take i b)) long ∙ take-take (i - 1) i b (omega arith) in
        rw (sym e ∙ f, sym (last_byte i b (line_in b e f)) ∙ z) (ap (line_as (i + 1)) (h ∙ ap (text_step stage) text))

-- a good line has a byte at least, and lies in the input
abbrev StepIn : ℕ → Result Line Fault → Type 0
StepIn bytes (Ok l) = (1 ≤ l.length) × (l.length ≤ bytes)
StepIn bytes (Err f) = Unit {0}

line_as_in : (bytes long : ℕ) → (1 ≤ long) × (long ≤ bytes) → (r : Result (Option Stage) Fault) → StepIn bytes (line_as long r)
line_as_in bytes long h (Ok next) = h
line_as_in bytes long h (Err f) = tt

line_step_in : (stage : Stage) (b : List ℕ) (l : Result ℕ Fault) → EndIn 0 (length b) l → StepIn (length b) (line_step l stage b)
line_step_in stage b (Ok i) h =
    cond_holds (StepIn (length b)) (has_return i b)
    (λ e. line_as_in (length b) (i + 1) (omega arith, omega (arith, h.1)) (text_step stage (take (i - 1) b))) (λ e. tt)
line_step_in stage b (Err f) h = tt

step_in : (stage : Stage) (b : List ℕ) → StepIn (length b) (step_of stage b)
unfolding step_of
step_in stage b = line_step_in stage b (line_end 1024 b 0) (line_ends 1024 b)

-- how the lines of a file are read
pub rule_end : (stage : Stage) (place : ℕ) (rest : ℕ → Stage → Result ℕ HeaderError)
    → lines_from zero stage [] place ≡ step_then (step_of stage []) place rest
unfolding lines_from step_of line_end
rule_end stage place rest = refl

pub rule_next : (most : ℕ) (stage : Stage) (b : List ℕ) (place : ℕ)
    → lines_from (suc most) stage b place ≡ step_then (step_of stage b) place (λ long next. lines_from most next (drop long b) (place + long))
unfolding lines_from
rule_next most stage b place = refl

abbrev pub rule : LineRule (Result ℕ HeaderError) Stage (Result Line Fault)
rule = record { step = step_of; then = λ r stage place rest. step_then r place rest; from = lines_from; end = rule_end; next = rule_next }

-- the loop over them
pub lines_start : (bytes : List ℕ) → LinesRead rule bytes (lines_of bytes) Version 0
unfolding lines_of
lines_start bytes = none_read rule refl

module _ {bytes : List ℕ} {whole : Result ℕ HeaderError} {stage : Stage} {at : ℕ} (h : LinesRead rule bytes whole stage at) {r : Result Line Fault}
    (e : r ≡ step_of stage (take (length bytes - at) (drop at bytes))) where
  -- the next line is refused
  pub line_refused : {f : Fault} → r ≡ Err f → whole ≡ Err (record { fault = f; place = at })
  line_refused f = line_then h e f

  -- or good: it is the last, or not
  module _ {l : Line} (f : r ≡ Ok l) where
    pub good_line_in : (1 ≤ l.length) × (l.length ≤ length bytes - at)
    good_line_in = line_is h e f StepIn (step_in stage)

    pub last_line_read : l.next ≡ None → whole ≡ Ok (at + l.length)
    last_line_read g = line_then h e f ∙ rw g

    pub good_line_read : {stage' : Stage} → l.next ≡ Some stage' → LinesRead rule bytes whole stage' (at + l.length)
    good_line_read g = line_more h e f (λ rest. ap (λ (next : Option Stage). next_then next (at + l.length) (rest l.length)) g) good_line_in

-- the packets begin in the input or at its end, and a refused line too
abbrev pub LinesIn : ℕ → Result ℕ HeaderError → Type 0
LinesIn bytes (Ok at) = at ≤ bytes
LinesIn bytes (Err e) = e.place ≤ bytes

lines_in : (bytes most : ℕ) (stage : Stage) (b : List ℕ) (place : ℕ) → place + length b ≤ bytes
    → LinesIn bytes (lines_from most stage b place)
unfolding lines_from
lines_in bytes zero stage b place h = omega arith
lines_in bytes (suc most) stage b place h =
    go (step_of stage b) (step_in stage b)
    (λ long next i. lines_in bytes most next (drop long b) (place + long) (omega (arith, length-drop long b)))
  where
    rest : ℕ → Stage → Result ℕ HeaderError
    rest long next = lines_from most next (drop long b) (place + long)

    more : (long : ℕ) → long ≤ length b → ((next : Stage) → LinesIn bytes (rest long next)) → (next : Option Stage)
        → LinesIn bytes (next_then next (place + long) (rest long))
    more long i ih (Some next) = ih next
    more long i ih None = omega arith

    go : (r : Result Line Fault) → StepIn (length b) r → ((long : ℕ) (next : Stage) → long ≤ length b → LinesIn bytes (rest long next))
        → LinesIn bytes (step_then r place rest)
    go (Ok l) i ih = more l.length i.1 (λ next. ih l.length next i.1) l.next
    go (Err f) i ih = omega arith

pub lines_within : (bytes : List ℕ) → LinesIn (length bytes) (lines_of bytes)
unfolding lines_of
lines_within bytes = lines_in (length bytes) (length bytes) Version bytes 0 (omega arith)

-- where the code found that they begin
pub data_within : (bytes : List ℕ) {l : Result ℕ HeaderError} {at : ℕ} → l ≡ lines_of bytes → l ≡ Ok at → at ≤ length bytes
data_within bytes e f = subst (LinesIn (length bytes)) (sym e ∙ f) (lines_within bytes)
