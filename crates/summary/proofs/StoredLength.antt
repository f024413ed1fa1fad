-- How many bytes the stored form takes.
use mathlib.Core.Path.{◌≡◌, refl}
use Prim.Native.Nat.{ℕ, ◌+◌, ◌*◌}
use native.Mathlib.Omega.{arith}
use mathlib.Core.List.{List}
use lib.ListN.{length, length-append}
use Rattle.rows.specs.declared.row.Row.{Row}
use Rattle.words.specs.Words.{bytes_of}
use Rattle.words.proofs.Bytes.{bytes_length}
use Rattle.summary.specs.declared.Block.{Block}
use Rattle.summary.specs.Blocks.{block_count, summary_of}
use Rattle.summary.specs.Stored.{field, block_bytes, block_field, block_fields, stored_of}
use Rattle.summary.proofs.EachOf.{each_length}
use Rattle.summary.proofs.ListCut.{summary_length}

pub block_length : (b : Block) → length (block_bytes b) ≡ 56
unfolding block_bytes bytes_of
block_length b = refl

field_length : (tag : ℕ) (contents : List ℕ) → length (field tag contents) ≡ 3 + length contents
unfolding field bytes_of
field_length tag contents = omega arith

pub block_field_length : (b : Block) → length (block_field b) ≡ 59
block_field_length b = omega (arith, field_length 2 (block_bytes b), block_length b)

pub stored_length : (rs : List Row) → length (stored_of rs) ≡ 7 + block_count (length rs) * 59
unfolding stored_of
stored_length rs =
    omega (
      arith,
      length-append (field 1 (bytes_of 4 (length rs))) (block_fields (summary_of rs)),
      field_length 1 (bytes_of 4 (length rs)),
      bytes_length 4 (length rs),
      each_length block_field 59 block_field_length (summary_of rs),
      summary_length rs,
    )
