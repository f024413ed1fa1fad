-- Words of a stream of bytes, the low byte first. 01, "What the box reads and writes".
use Rattle.std.specs.Prelude.{ℕ, zero, suc, ◌+◌, ◌*◌, ◌/◌, ◌%◌, cond, List, [], ◌∷◌, ◌++◌, length, take, drop, ltb, eqb, Option, Some, None, Result, Ok, Err}
use Rattle.rows.specs.declared.fault.Fault.{Fault}
use Rattle.rows.specs.declared.fault.Fault.TheVariants.{Cut}

-- the number that bytes make
abbrev pub value : List ℕ → ℕ
value [] = 0
value (b ∷ r) = b + 256 * value r

-- the words of a stream, which ends after a whole word or within one
pub data Words : Type 0 where
  word : ℕ → Words → Words
  whole : Words
  part : Words

-- the first `most` words of `size` bytes each
unfoldable pub cut_by : ℕ → ℕ → List ℕ → Words
cut_by zero size l = whole
cut_by (suc most) size l =
    cond (eqb (length l) 0) whole
    (cond (ltb (length l) size) part
    (word (value (take size l)) (cut_by most size (drop size l))))

-- all of them: there are no more words than bytes
unfoldable pub words_of : ℕ → List ℕ → Words
words_of size l = cut_by (length l) size l

-- what a stream begins with, a word, nothing, or a part, which is cut; and what stands at a place of the bytes
abbrev pub first_of : Words → Option (Result ℕ Fault)
first_of (word w r) = Some (Ok w)
first_of whole = None
first_of part = Some (Err Cut)

abbrev pub next_at : ℕ → List ℕ → ℕ → Option (Result ℕ Fault)
next_at size l at = first_of (words_of size (drop at l))

-- the lowest `size` bytes of a word
unfoldable pub bytes_of : ℕ → ℕ → List ℕ
bytes_of zero w = []
bytes_of (suc size) w = w % 256 ∷ bytes_of size (w / 256)

-- the bytes of words, one after the other
abbrev pub bytes_of_all : ℕ → List ℕ → List ℕ
bytes_of_all size [] = []
bytes_of_all size (w ∷ ws) = bytes_of size w ++ bytes_of_all size ws
