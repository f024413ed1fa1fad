-- Rows judged one after the other, whatever the order of their times.
use mathlib.Core.Path.{◌≡◌, sym, ◌∙◌, ap}
use Prim.Native.Nat.{ℕ, ◌+◌, ◌*◌, ◌≤◌, ◌<◌}
use mathlib.Core.Bool.{Bool, true, false, cond}
use mathlib.Core.List.{List}
use lib.ListN.{length}
use Rattle.std.specs.Prelude.{Ok, Err}
use Rattle.rows.specs.declared.fault.Fault.TheVariants.{BadRow}
use Rattle.rows.specs.declared.row.Row.{Row}
use Rattle.rows.specs.Row.{time_of, room_of, row_from, rows_of}
use Rattle.rows.specs.Rules.{good_row, Verdict}
use Rattle.rows.proofs.Lists.{rows_of_length}
use Rattle.words.specs.Writer.{writing_of}
use Rattle.summary.specs.Blocks.{block_count}
use Rattle.summary.specs.Stored.{stored_of}
use Rattle.summary.specs.Verdicts.{verdict_by, in_any_order}
use Rattle.summary.proofs.Judging.{Judging, judging_start, judging_done, judging_next, judging_refused}
use Rattle.summary.proofs.StoredLength.{stored_length}

-- the rows before row i are good, and the last of them has some time
pub record GoodSofar (l : List ℕ) (i : ℕ) : Type 0 where
  pub last : ℕ
  pub judging : Judging (in_any_order good_row) l i last

pub good_start : (l : List ℕ) → GoodSofar l 0
good_start l = record { last = 0; judging = judging_start (in_any_order good_row) l }

pub stored_bytes : (l : List ℕ) → length (stored_of (rows_of l)) ≡ 7 + block_count (room_of l) * 59
stored_bytes l = stored_length (rows_of l) ∙ ap (λ (n : ℕ). 7 + block_count n * 59) (rows_of_length l)

module _ {l : List ℕ} {i : ℕ} (g : GoodSofar l i) where
  abbrev row : Row
  row = row_from l (i * 10)

  pub good_next : i < room_of l → good_row row ≡ true → GoodSofar l (i + 1)
  good_next h e =
      record {
        last = time_of row;
        judging = judging_next (in_any_order good_row) g.judging h (sym (ap (λ (t : Bool). cond t (Ok (time_of row)) (Err BadRow)) e));
      }

  pub bad_found : i < room_of l → good_row row ≡ false → Err (record { fault = BadRow; row = i }) ≡ writing_of (verdict_by (in_any_order good_row) (rows_of l) 0 0) (length (stored_of (rows_of l)))
  bad_found h e =
      let refused = judging_refused (in_any_order good_row) g.judging h (sym (ap (λ (t : Bool). cond t (Ok (time_of row)) (Err BadRow)) e)) in
      sym (ap (λ (v : Verdict). writing_of v (length (stored_of (rows_of l)))) refused)

  pub all_good : room_of l ≤ i → Ok (7 + block_count (room_of l) * 59) ≡ writing_of (verdict_by (in_any_order good_row) (rows_of l) 0 0) (length (stored_of (rows_of l)))
  all_good h =
      ap Ok (sym (stored_bytes l)) ∙ sym (ap (λ (v : Verdict). writing_of v (length (stored_of (rows_of l)))) (judging_done (in_any_order good_row) g.judging h))
