-- `summary::writer::write` meets its contract.
use Rattle.std.proofs.Common.{◌≡◌, ◌∙◌, sym, true, length, arith}
use Rattle.std.proofs.lemmas.Result.{err_from_is_err_and}
use Rattle.rows.specs.Row.{rows_of}
use Rattle.rows.specs.Rules.{good_row, good_length}
use Rattle.summary.specs.Stored.{stored_of}
use Rattle.summary.specs.Verdicts.{in_any_order}
use Rattle.summary.proofs.RowsJudged.{stored_bytes}
use Rattle.summary.proofs.Writers.{wrote_bad_list, wrote_refused, count_same, wrote_full, wrote_all}
use Rattle.summary.proofs.writer.write.Goals as goal
use Rattle.summary.proofs.writer.write.Goals.{In_ok-bytes}

pub returns-then-not-good_length : goal.returns-then-not-good_length
returns-then-not-good_length c = wrote_bad_list (in_any_order good_row) _ _ _ _ _ (sym c.good_length.ensures ∙ c.if-not-good_length.true)

pub returns-in_err-bytes : goal.returns-in_err-bytes
returns-in_err-bytes c =
    let p = err_from_is_err_and c.from_residual.result c.from_residual.ensures.1 in
    rw (p.1, p.2) (wrote_refused (in_any_order good_row) _ _ _ _ _ (sym c.good_length.ensures ∙ c.if-not-good_length.false) c.in_err-bytes.ensures)

-- the bytes that were counted are those of the summary
good : (c : In_ok-bytes) → good_length (length c.args.rows.now) ≡ true
good c = sym c.good_length.ensures ∙ c.if-not-good_length.false

counted : (c : In_ok-bytes) → c.in_ok-bytes.bytes ≡ length (stored_of (rows_of c.args.rows.now))
counted c =
    let stored = stored_of (rows_of c.args.rows.now) in
    count_same (in_any_order good_row) c.args.rows.now (length stored) (length stored) stored c.args.out.now (good c) c.in_ok-bytes.ensures

pub returns-then-out-bytes : goal.returns-then-out-bytes
returns-then-out-bytes c =
    let d = (goal.at.returns-then-out-bytes c).In_ok-bytes in
    wrote_full (in_any_order good_row) _ _ _ _ _ (good d) c.in_ok-bytes.ensures (omega (arith, counted d))

pub put_summary-requires : goal.put_summary-requires
put_summary-requires c = omega (arith, counted (goal.at.put_summary-requires c).In_ok-bytes, stored_bytes c.args.rows.now)

pub returns : goal.returns
returns c =
    let d = (goal.at.returns c).In_ok-bytes in
    wrote_all (in_any_order good_row) _ _ _ _ _ (good d) c.in_ok-bytes.ensures (omega (arith, counted d)) (omega arith) c.put_summary.ensures
