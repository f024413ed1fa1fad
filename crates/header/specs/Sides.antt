-- What a line says of the picture. 01, "Files": keywords, and the values of width and height.
use Rattle.std.specs.Prelude.{ℕ, suc, ◌+◌, ◌-◌, ◌*◌, Bool, true, false, cond, ◌&&◌, ◌||◌, List, [], ◌∷◌, length, get_or, take, drop, leb, eqb, Option, Some, None}
use Rattle.header.specs.declared.side.Side.{Side}
use Rattle.header.specs.declared.side.Side.TheVariants.{Width, Height}
use Rattle.header.specs.declared.side.Sides.{Sides}
use Rattle.header.specs.Texts.{same_as}

-- a keyword runs up to a space, a colon or the end of the line's text
abbrev pub ends_keyword : ℕ → Bool
ends_keyword c = eqb c 32 || eqb c 58

unfoldable pub keyword_length : List ℕ → ℕ
keyword_length [] = 0
keyword_length (c ∷ t) = cond (ends_keyword c) 0 (suc (keyword_length t))

-- a letter in lower case; another byte as it is
unfoldable pub lower : ℕ → ℕ
lower c = cond (leb 65 c && leb c 90) (c + 32) c

-- whether a keyword is a name, in any letter case; the name is in lower case
abbrev pub named : List ℕ → List ℕ → Bool
named k name = same_as lower k name

-- "width" and "height"
abbrev pub width_name : List ℕ
width_name = 119 ∷ 105 ∷ 100 ∷ 116 ∷ 104 ∷ []

abbrev pub height_name : List ℕ
height_name = 104 ∷ 101 ∷ 105 ∷ 103 ∷ 104 ∷ 116 ∷ []

-- a keyword that is no name names no side
unfoldable pub side_of : List ℕ → Option Side
side_of k = cond (named k width_name) (Some Width) (cond (named k height_name) (Some Height) None)

-- digits 0 to 9, and the number that they make after what stands before them
abbrev pub is_digit : ℕ → Bool
is_digit c = leb 48 c && leb c 57

abbrev pub digit_of : ℕ → Option ℕ
digit_of c = cond (is_digit c) (Some (c - 48)) None

unfoldable pub are_digits : List ℕ → Bool
are_digits [] = true
are_digits (c ∷ d) = is_digit c && are_digits d

unfoldable pub decimal : ℕ → List ℕ → ℕ
decimal before [] = before
decimal before (c ∷ d) = decimal (before * 10 + (c - 48)) d

-- one to five digits, up to the newline
unfoldable pub number_of : List ℕ → Option ℕ
number_of d = cond (leb 1 (length d) && leb (length d) 5 && are_digits d) (Some (decimal 0 d)) None

-- one space before them
unfoldable pub spaced : List ℕ → Option ℕ
spaced t = cond (eqb (get_or t 0 0) 32) (number_of (drop 1 t)) None

-- and before it a colon, or none: what follows the keyword
unfoldable pub value_of : List ℕ → Option ℕ
value_of t = cond (eqb (get_or t 0 0) 58) (spaced (drop 1 t)) (spaced t)

-- before the first line nothing is known of the picture
abbrev pub unsaid : Sides
unsaid = record { width = None; height = None }

-- what is known of a side, and with the value that a line says
abbrev pub said : Side → Sides → Option ℕ
said Width s = s.width
said Height s = s.height

abbrev pub with_side : Side → ℕ → Sides → Sides
with_side Width n s = record { width = Some n; height = s.height }
with_side Height n s = record { width = s.width; height = Some n }

-- a side that is said for the first time, from 1 to the limit
abbrev pub may_be : ℕ → Option ℕ → ℕ → Bool
may_be limit None n = leb 1 n && leb n limit
may_be limit (Some before) n = false

-- a line of a side's keyword; malformed, 0, too large or said before: bad, which is None
abbrev pub with_value : Side → ℕ → Option ℕ → Sides → Option Sides
with_value side limit (Some n) s = cond (may_be limit (said side s) n) (Some (with_side side n s)) None
with_value side limit None s = None

abbrev pub judged_as : Side → ℕ → List ℕ → Sides → Option Sides
judged_as side limit value s = with_value side limit (value_of value) s

-- a line by what its keyword names; any other is passed over, whatever it holds
abbrev pub judged_by : Option Side → ℕ → List ℕ → Sides → Option Sides
judged_by (Some side) limit value s = judged_as side limit value s
judged_by None limit value s = Some s

unfoldable pub judged_of : ℕ → List ℕ → Sides → Option Sides
judged_of limit text s = judged_by (side_of (take (keyword_length text) text)) limit (drop (keyword_length text) text) s
