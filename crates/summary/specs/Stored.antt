-- A summary as bytes: fields of a tag, a length and contents. 02, R-6.
use Rattle.std.specs.Prelude.{ℕ, length}
use mathlib.Core.List.{List, ◌++◌, flat_map}
use Rattle.rows.specs.declared.row.Row.{Row}
use Rattle.words.specs.Words.{bytes_of, bytes_of_all}
use Rattle.summary.specs.declared.Block.{Block}
use Rattle.summary.specs.Blocks.{summary_of, times_of, kinds_of}

-- a tag of one byte, the length of the contents in two, the low byte first, and the contents
unfoldable pub field : ℕ → List ℕ → List ℕ
field tag contents = bytes_of 1 tag ++ bytes_of 2 (length contents) ++ contents

-- the contents of a block: the four times of 8 bytes each, the six numbers of 4
unfoldable pub block_bytes : Block → List ℕ
block_bytes b = bytes_of_all 8 (times_of b) ++ bytes_of_all 4 (kinds_of b)

-- tag 2 for each block
abbrev pub block_field : Block → List ℕ
block_field b = field 2 (block_bytes b)

abbrev pub block_fields : List Block → List ℕ
block_fields bs = flat_map block_field bs

-- tag 1 with the row count in 4 bytes, and then the blocks
abbrev pub stored_as : ℕ → List Block → List ℕ
stored_as rows bs = field 1 (bytes_of 4 rows) ++ block_fields bs

-- the stored summary of rows
unfoldable pub stored_of : List Row → List ℕ
stored_of rs = stored_as (length rs) (summary_of rs)
