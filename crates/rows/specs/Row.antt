-- Rows: ten numbers each, one after the other in a list of numbers. 01, "Rows".
use Rattle.std.specs.Prelude.{◌≡◌, ℕ, zero, suc, ◌+◌, ◌*◌, ◌/◌, ◌%◌, ◌<◌, Bool, true, cond, List, [], ◌∷◌, ◌++◌, length, drop, get_or, ltb, Option, Some, None}
use Rattle.std.proofs.lemmas.List.Edits.{sets}
use Rattle.rows.specs.declared.row.Row.{Row}

-- a row's ten numbers: kind, time mod 2^32, time div 2^32, seven data numbers
abbrev pub numbers : Row → List ℕ
numbers r = r.kind ∷ r.low ∷ r.high ∷ r.a ∷ r.b ∷ r.c ∷ r.d ∷ r.e ∷ r.f ∷ r.g ∷ []

-- the numbers of rows, one row after the other
abbrev pub flat : List Row → List ℕ
flat [] = []
flat (r ∷ rs) = numbers r ++ flat rs

-- `new` over the front of `old`: nothing past `new` is touched
abbrev pub over : List ℕ → List ℕ → List ℕ
over new old = new ++ drop (length new) old

-- the whole time in microseconds
unfoldable pub time_of : Row → ℕ
time_of r = r.high * 4294967296 + r.low

-- room: the buffer's length divided by ten, rounded down
abbrev pub room_of : List ℕ → ℕ
room_of l = length l / 10

-- the row whose numbers begin at a place
unfoldable pub row_from : List ℕ → ℕ → Row
row_from l at =
    record {
      kind = get_or l at 0;
      low = get_or l (at + 1) 0;
      high = get_or l (at + 2) 0;
      a = get_or l (at + 3) 0;
      b = get_or l (at + 4) 0;
      c = get_or l (at + 5) 0;
      d = get_or l (at + 6) 0;
      e = get_or l (at + 7) 0;
      f = get_or l (at + 8) 0;
      g = get_or l (at + 9) 0;
    }

-- row i of a list, where the list has one
abbrev pub row_at : List ℕ → ℕ → Option Row
row_at l i = cond (ltb i (room_of l)) (Some (row_from l (i * 10))) None

-- n rows of a list from row i on, and all the rows of a list
unfoldable pub rows_from : List ℕ → ℕ → ℕ → List Row
rows_from l i zero = []
rows_from l i (suc n) = row_from l (i * 10) ∷ rows_from l (suc i) n

unfoldable pub rows_of : List ℕ → List Row
rows_of l = rows_from l 0 (room_of l)

-- those rows of a list that a test holds of, in order
abbrev pub only : (Row → Bool) → List Row → List Row
only test [] = []
only test (r ∷ rs) = cond (test r) (r ∷ only test rs) (only test rs)

-- every row of a list passes a test
abbrev pub All : (Row → Bool) → List Row → Type 0
All test [] = Unit {0}
All test (r ∷ rs) = (test r ≡ true) × All test rs

-- numbers of 32 bits, as every slice of them holds
abbrev pub Narrow : List ℕ → Type 0
Narrow l = (i : ℕ) → get_or l i 0 < 4294967296

-- `row` was stored as row i where there is room for it, and else nothing was touched
pub record PutRow (old : List ℕ) (i : ℕ) (row : Row) (new : List ℕ) (r : Bool) : Type 0 where
  pub fits : r ≡ ltb i (room_of old)
  pub wrote : new ≡ cond (ltb i (room_of old)) (sets old (i * 10) (numbers row)) old

-- a row of a kind at a time
unfoldable pub timed : (kind time a b c d e f g : ℕ) → Row
timed kind time a b c d e f g =
    record { kind = kind; low = time % 4294967296; high = time / 4294967296; a = a; b = b; c = c; d = d; e = e; f = f; g = g }

-- the five kinds, each with its numbers in order; 5 was the USB packet, and is not given to another kind
-- 02, R-9: a pixel of one of two cameras; and that of camera 0, as every format but EVT3 has it
abbrev pub camera_row : (time x y polarity camera : ℕ) → Row
camera_row time x y polarity camera = timed 1 time x y polarity camera 0 0 0

abbrev pub pixel_row : (time x y polarity : ℕ) → Row
pixel_row time x y polarity = camera_row time x y polarity 0

abbrev pub trigger_row : (time channel edge : ℕ) → Row
trigger_row time channel edge = timed 2 time channel edge 0 0 0 0 0

abbrev pub counts_row : (time ax ay az rx ry rz : ℕ) → Row
counts_row time ax ay az rx ry rz = timed 3 time ax ay az rx ry rz 0

abbrev pub singles_row : (time ax ay az rx ry rz temperature : ℕ) → Row
singles_row time ax ay az rx ry rz temperature = timed 4 time ax ay az rx ry rz temperature

abbrev pub special_row : (time code content : ℕ) → Row
special_row time code content = timed 6 time code content 0 0 0 0 0
