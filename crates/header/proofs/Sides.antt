-- What a line says of the picture, by its keyword and what follows it.
use Rattle.std.proofs.Common.{Result, Bool, true, sym, ◌∙◌, Ok, Err, Some, None, ◌+◌, ◌≡◌, refl, ℕ, List, take, drop, Option}
use Rattle.std.specs.Option.{ok_or}
use Rattle.rows.specs.declared.fault.Fault.{Fault}
use Rattle.rows.specs.declared.fault.Fault.TheVariants.{BadHeader}
use Rattle.header.specs.declared.side.Side.{Side}
use Rattle.header.specs.declared.side.Sides.{Sides}
use Rattle.header.specs.Lines.{is_line, line_end}
use Rattle.header.specs.Header.{judged_step, line_step, step_of}
use Rattle.header.specs.Sides.{keyword_length, side_of, judged_by, judged_of}

pub judged : (limit : ℕ) (text : List ℕ) (s : Sides) {n : ℕ} {keyword value : List ℕ} {side : Option Side} → n ≡ keyword_length text
    → keyword ≡ take n text → value ≡ drop n text → side ≡ side_of keyword → judged_of limit text s ≡ judged_by side limit value s
unfolding judged_of
judged limit text s e f g h = rw (h, f, g, e) refl

-- the line at the front of b, by what the code found of it
pub line_says : (limit : ℕ) (b : List ℕ) (s : Sides) {t : Bool} {l : Result ℕ Fault} → t ≡ is_line b → t ≡ true → l ≡ line_end 256 b 0
    → line_step l limit b s ≡ step_of limit b s
unfolding step_of
line_says limit b s e f g = rw (sym e ∙ f, g) refl

-- a bad line is a bad header, and a good one has its length
pub judged_bad : (i : ℕ) (j : Option Sides) {f : Fault} → ok_or j BadHeader ≡ Err f → Err f ≡ judged_step i j
judged_bad i (Some s) e = absurd cc
judged_bad i None e = cc

pub judged_good : (i : ℕ) (j : Option Sides) {s : Sides} → ok_or j BadHeader ≡ Ok s → Ok (Some (record { length = i + 1; sides = s })) ≡ judged_step i j
judged_good i (Some s) e = cc
judged_good i None e = absurd cc
