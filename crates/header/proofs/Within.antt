-- The data begin in the input, and the sides are from 1 to the limit.
use Rattle.std.proofs.Common.{ℕ, zero, suc, ◌+◌, ◌-◌, ◌≤◌, ◌<◌, cond, ◌&&◌, List, length, take, drop, length-drop, leb, arith, Option, Some, None, Result, Ok, Err}
use Rattle.std.specs.Option.{unwrap_or}
use borrow.Author.Tests.{leb-true}
use Rattle.rows.specs.declared.fault.Fault.{Fault}
use Rattle.rows.proofs.Chosen.{cond_holds}
use Rattle.rows.proofs.GoodRows.{and_first, and_second}
use Rattle.header.specs.declared.side.Side.{Side}
use Rattle.header.specs.declared.side.Side.TheVariants.{Width, Height}
use Rattle.header.specs.declared.side.Sides.{Sides}
use Rattle.header.specs.Lines.{is_line, line_end}
use Rattle.header.specs.Sides.{keyword_length, side_of, value_of, may_be, said, with_side, with_value, judged_by, judged_of}
use Rattle.header.specs.Header.{Step, judged_step, line_step, step_of, data_at, step_then, header_from}
use Rattle.header.specs.Promises.{Within}
use Rattle.header.proofs.Lines.{StepIn, step_in}

module _ (limit : ℕ) where
  -- what is known of a side is from 1 to the limit
  abbrev pub Few : Option ℕ → Type 0
  Few (Some n) = (1 ≤ n) × (n ≤ limit)
  Few None = Unit {0}

  pub record Small (s : Sides) : Type 0 where
    pub width : Few s.width
    pub height : Few s.height

  abbrev JudgedSmall : Option Sides → Type 0
  JudgedSmall (Some s) = Small s
  JudgedSmall None = Unit {0}

  -- a side that a line gives
  with_small : (side : Side) (n : ℕ) (s : Sides) → Small s → Few (Some n) → Small (with_side side n s)
  with_small Width n s h k = record { width = k; height = h.height }
  with_small Height n s h k = record { width = h.width; height = k }

  may_be_small : (before : Option ℕ) (n : ℕ) (s : Sides) → (Few (Some n) → Small s) → JudgedSmall (cond (may_be limit before n) (Some s) None)
  may_be_small (Some m) n s h = tt
  may_be_small None n s h =
      cond_holds JudgedSmall (leb 1 n && leb n limit)
      (λ e. h (leb-true 1 n (and_first (leb 1 n) (leb n limit) e), leb-true n limit (and_second (leb 1 n) (leb n limit) e))) (λ e. tt)

  value_small : (side : Side) (v : Option ℕ) (s : Sides) → Small s → JudgedSmall (with_value side limit v s)
  value_small side (Some n) s h = may_be_small (said side s) n (with_side side n s) (with_small side n s h)
  value_small side None s h = tt

  by_small : (side : Option Side) (value : List ℕ) (s : Sides) → Small s → JudgedSmall (judged_by side limit value s)
  by_small (Some side) value s h = value_small side (value_of value) s h
  by_small None value s h = h

  judged_small : (text : List ℕ) (s : Sides) → Small s → JudgedSmall (judged_of limit text s)
  unfolding judged_of
  judged_small text s h = by_small (side_of (take (keyword_length text) text)) (drop (keyword_length text) text) s h

  -- a good line keeps the sides within the limit
  abbrev StepSmall : Step → Type 0
  StepSmall (Ok None) = Unit {0}
  StepSmall (Err f) = Unit {0}
  StepSmall (Ok (Some l)) = Small l.sides

  step_judged : (i : ℕ) (j : Option Sides) → JudgedSmall j → StepSmall (judged_step i j)
  step_judged i (Some s) h = h
  step_judged i None h = tt

  line_small : (b : List ℕ) (s : Sides) → Small s → (l : Result ℕ Fault) → StepSmall (line_step l limit b s)
  line_small b s h (Ok i) = step_judged i (judged_of limit (take (i - 2) (drop 2 b)) s) (judged_small (take (i - 2) (drop 2 b)) s h)
  line_small b s h (Err f) = tt

  step_small : (b : List ℕ) (s : Sides) → Small s → StepSmall (step_of limit b s)
  unfolding step_of
  step_small b s h = cond_holds StepSmall (is_line b) (λ e. line_small b s h (line_end 256 b 0)) (λ e. tt)

  side_within : (some : 0 < limit) (o : Option ℕ) → Few o → (1 ≤ unwrap_or o limit) × (unwrap_or o limit ≤ limit)
  side_within some (Some n) h = h
  side_within some None h = (omega arith, omega arith)

  -- all of a header that begins at a place, before so many bytes
  module _ (some : 0 < limit) (bytes : ℕ) where
    over_within : (place : ℕ) (s : Sides) → Small s → place ≤ bytes → Within limit bytes (data_at limit place s)
    over_within place s k h =
        let w : (1 ≤ unwrap_or s.width limit) × (unwrap_or s.width limit ≤ limit) = side_within some s.width k.width in
        let v : (1 ≤ unwrap_or s.height limit) × (unwrap_or s.height limit ≤ limit) = side_within some s.height k.height in
        (h, w.0, w.1, v.0, v.1)

    pub lines_within : (most : ℕ) (b : List ℕ) (place : ℕ) (s : Sides) → Small s → place + length b ≤ bytes
        → Within limit bytes (header_from most limit b place s)
    unfolding header_from
    lines_within zero b place s k h = over_within place s k (omega arith)
    lines_within (suc most) b place s k h =
        go (step_of limit b s) (step_in limit b s) (step_small b s k)
        (λ long s' p q. lines_within most (drop long b) (place + long) s' q (omega (arith, length-drop long b)))
      where
        go : (r : Step) → StepIn (length b) r → StepSmall r
            → ((long : ℕ) (s' : Sides) → long ≤ length b → Small s' → Within limit bytes (header_from most limit (drop long b) (place + long) s'))
            → Within limit bytes (step_then r limit place s (λ long s'. header_from most limit (drop long b) (place + long) s'))
        go (Ok None) i m ih = over_within place s k (omega arith)
        go (Err f) i m ih = omega arith
        go (Ok (Some l)) i m ih = ih l.length l.sides i.1 m
