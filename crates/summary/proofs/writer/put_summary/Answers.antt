-- `summary::writer::put_summary` meets its contract.
use Rattle.std.proofs.Common.{ℕ, List, ◌++◌, refl, ap, ◌∙◌, sym, arith}
use Rattle.rows.specs.Row.{rows_of}
use Rattle.rows.proofs.Lists.{rows_of_length}
use Rattle.std.proofs.lemmas.List.Edits.{sets}
use Rattle.words.specs.Words.{bytes_of}
use Rattle.words.proofs.Writes.{put_length}
use Rattle.summary.specs.Blocks.{summary_of}
use Rattle.summary.specs.Stored.{field, block_fields, stored_of}
use Rattle.summary.proofs.Putting.{puts_long, puts_word, puts_then, head_length}
use Rattle.summary.proofs.writer.put_summary.Goals as goal

pub put_number-blocks-requires : goal.put_number-blocks-requires
put_number-blocks-requires c = omega (arith, head_length 1 4, puts_long c.put_head-count.ensures, c.put_head-count.ensures.place)

pub put_blocks-requires : goal.put_blocks-requires
put_blocks-requires c = omega (arith, head_length 1 4, puts_long c.put_head-count.ensures, put_length c.put_number-blocks.ensures, c.put_head-count.ensures.place, c.put_number-blocks.ensures.place, c.requires)

pub returns : goal.returns
unfolding field stored_of bytes_of
returns c =
    let rows : List ℕ = c.args.rows.now in
    let blocks : List ℕ = block_fields (summary_of (rows_of rows)) in
    let count = puts_then c.put_head-count.ensures (puts_word c.put_number-blocks.ensures) in
    (puts_then {b = blocks} count (record { place = refl; wrote = c.put_blocks.ensures })).wrote
    ∙ ap (λ (n : ℕ). sets c.args.out.now 0 (field 1 (bytes_of 4 n) ++ blocks)) (c.room.ensures ∙ sym (rows_of_length rows))
