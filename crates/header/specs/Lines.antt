-- Where a line of the header begins and ends. 01, "Files": a leading line starts with 0x25 0x20, its newline among its first 256 bytes.
use Rattle.std.specs.Prelude.{ℕ, zero, suc, ◌+◌, Bool, cond, ◌&&◌, List, [], ◌∷◌, length, get_or, leb, eqb, Result, Ok, Err}
use Rattle.rows.specs.declared.fault.Fault.{Fault}
use Rattle.rows.specs.declared.fault.Fault.TheVariants.{Cut, BadHeader}

-- whether a line of the header stands at the front
unfoldable pub is_line : List ℕ → Bool
is_line b = leb 2 (length b) && eqb (get_or b 0 0) 0x25 && eqb (get_or b 1 0) 0x20

-- where the first newline stands among the first `most` bytes, counted from k on. Cut: the input ends before it and before so many
-- bytes; a bad header: it is none of them
unfoldable pub line_end : ℕ → List ℕ → ℕ → Result ℕ Fault
line_end zero b k = Err BadHeader
line_end (suc most) [] k = Err Cut
line_end (suc most) (c ∷ b) k = cond (eqb c 10) (Ok k) (line_end most b (k + 1))
