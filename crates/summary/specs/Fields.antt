-- What any bytes hold: fields one after the other, and the summary that these are, or that they are none (refusal 17). 02, R-6 and R-11.
use Rattle.std.specs.Prelude.{ℕ, zero, suc, ◌+◌, ◌-◌, ◌*◌, min, Bool, cond, ◌&&◌, List, [], ◌∷◌, length, take, drop, get_or, eqb, ltb}
use Rattle.words.specs.Words.{value}
use Rattle.summary.specs.declared.Block.{Block}
use Rattle.summary.specs.Blocks.{block_count}

-- the number at a place of some contents, and the block that 56 bytes hold
abbrev pub number_at : List ℕ → ℕ → ℕ → ℕ
number_at contents at size = value (take size (drop at contents))

unfoldable pub block_from : List ℕ → Block
block_from c =
    record {
      first = number_at c 0 8;
      last = number_at c 8 8;
      smallest = number_at c 16 8;
      largest = number_at c 24 8;
      pixels = number_at c 32 4;
      triggers = number_at c 36 4;
      counts = number_at c 40 4;
      singles = number_at c 44 4;
      packets = number_at c 48 4;
      specials = number_at c 52 4;
    }

-- the fields of known tags: row counts and blocks. They end with the bytes, or at a fault: a field that is cut, or a wrong length of tag 1 or 2
pub data Fields : Type 0 where
  count : ℕ → Fields → Fields
  block : Block → Fields → Fields
  whole : Fields
  faulty : Fields

-- a field's contents by its tag: 4 bytes of tag 1, 56 of tag 2; any other tag is passed over
abbrev pub tagged : ℕ → List ℕ → Fields → Fields
tagged tag contents rest =
    cond (eqb tag 1) (cond (eqb (length contents) 4) (count (value contents) rest) faulty)
    (cond (eqb tag 2) (cond (eqb (length contents) 56) (block (block_from contents) rest) faulty)
    rest)

-- the length that stands at the front of a field, after its tag, and the bytes of the whole field
abbrev pub size_of : List ℕ → ℕ
size_of l = get_or l 1 0 + 256 * get_or l 2 0

abbrev pub span_of : List ℕ → ℕ
span_of l = 3 + size_of l

-- the first `most` fields; a field that is longer than what is left is cut
unfoldable pub fields_by : ℕ → List ℕ → Fields
fields_by zero l = whole
fields_by (suc most) l =
    cond (eqb (length l) 0) whole
    (cond (ltb (length l) (span_of l)) faulty
    (tagged (get_or l 0 0) (take (size_of l) (drop 3 l)) (fields_by most (drop (span_of l) l))))

-- all of them: there are no more fields than bytes
unfoldable pub fields_of : List ℕ → Fields
fields_of l = fields_by (length l) l

-- the rows of block j of a list of n rows
abbrev pub rows_in : ℕ → ℕ → ℕ
rows_in n j = min 256 (n - j * 256)

-- the kinds' numbers add up to the block's rows; R-11: and there is none of kind 5
unfoldable pub adds_up : ℕ → Block → Bool
adds_up rows b = eqb (b.pixels + b.triggers + b.counts + b.singles + b.packets + b.specials) rows && eqb b.packets 0

-- the row count and the blocks of a summary, or none
pub data Held : Type 0 where
  held : ℕ → List Block → Held
  none : Held

abbrev pub before : Block → Held → Held
before b (held n bs) = held n (b ∷ bs)
before b none = none

-- after the row count n: block j and on. None where tag 1 is repeated, where a block does not add up, and where their number is wrong
unfoldable pub blocks_from : ℕ → ℕ → Fields → Held
blocks_from n j (count m rest) = none
blocks_from n j (block b rest) = cond (adds_up (rows_in n j) b) (before b (blocks_from n (suc j) rest)) none
blocks_from n j whole = cond (eqb j (block_count n)) (held n []) none
blocks_from n j faulty = none

-- the row count comes first: none where it is missing or after a block
unfoldable pub held_in : Fields → Held
held_in (count n rest) = blocks_from n 0 rest
held_in (block b rest) = none
held_in whole = none
held_in faulty = none
