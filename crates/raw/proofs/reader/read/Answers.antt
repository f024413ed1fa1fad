-- `raw::reader::read` meets its contract.
use Rattle.std.proofs.Common.{◌+◌, ◌≤◌, length, arith, rules, lit<}
use Rattle.raw.proofs.Words.{place_within}
use Rattle.header.proofs.Files.{data_within}
use Rattle.raw.proofs.reader.read.Goals as goal
use Rattle.raw.proofs.reader.read.Goals.{In_ok-header}

there : (c : In_ok-header) → c.in_ok-header.header.at ≤ length c.args.bytes.now
there c = data_within 2048 (lit< tt) c.args.bytes.now c.read.ensures c.in_ok-header.was

pub slice_bounds-data-count : goal.slice_bounds-data-count
slice_bounds-data-count c = there c

pub slice_bounds-data-start : goal.slice_bounds-data-start
slice_bounds-data-start c = omega (arith, there (goal.at.slice_bounds-data-start c).In_ok-header)

pub map_err-requires : goal.map_err-requires
map_err-requires c = λ e f.
    let w : c.in_ok-header.header.at + e.place ≤ length c.args.bytes.now
    = place_within _ _ _ c.args.bytes.now _ _ (there (goal.at.map_err-requires c).In_ok-header) c.read_words.ensures f in
    search rules
