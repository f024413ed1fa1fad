-- `summary::reader::read` meets its contract.
use Rattle.std.proofs.Common.{◌≡◌, Err, refl, ap}
use Rattle.std.proofs.lemmas.Result.{err_from_is_err_and}
use Rattle.summary.specs.Fields.{fields_of, blocks_from, held_in}
use Rattle.summary.proofs.FieldByField.{next_found, next_none}
use Rattle.summary.proofs.Answered.{front_held, read_long, read_none, read_full, read_all}
use Rattle.summary.proofs.reader.read.Goals as goal
use Rattle.summary.proofs.reader.read.Goals.{In-Some-Count-default}

pub returns-then-bytes-gt1073741824 : goal.returns-then-bytes-gt1073741824
returns-then-bytes-gt1073741824 c = read_long c.args.bytes.now c.args.blocks.now c.if-bytes-gt1073741824.true

pub returns-in_err-rows : goal.returns-in_err-rows
unfolding held_in
returns-in_err-rows c =
    let p = err_from_is_err_and c.from_residual.result c.from_residual.ensures.1 in
    rw (p.1, p.2) (read_none c.args.bytes.now c.args.blocks.now c.if-bytes-gt1073741824.false _ (ap held_in c.in_err-rows.ensures.same) (ap Err c.in_err-rows.ensures.refused))

-- what the bytes hold is of the row count that was found
counted : (c : In-Some-Count-default) → held_in (fields_of c.args.bytes.now) ≡ blocks_from c.in-Some-Count-default.rows 0 (fields_of c.in-Some-Count-default.fields.now)
unfolding held_in
counted c = ap held_in (next_found c.in_ok-rows.ensures.same c.in-Some-Count-default.is c.in-Some-Count-default.field-0-0-is)

pub returns-in_err-many-in-Some-Count-default : goal.returns-in_err-many-in-Some-Count-default
returns-in_err-many-in-Some-Count-default c =
    let r = c.from_residual-in_err-many-in-Some-Count-default in
    let p = err_from_is_err_and r.result r.ensures.1 in
    rw (p.1, p.2) (read_none c.args.bytes.now c.args.blocks.now c.if-bytes-gt1073741824.false _ (counted (goal.at.returns-in_err-many-in-Some-Count-default c).In-Some-Count-default) c.in_err-many-in-Some-Count-default.ensures)

pub returns-then-blocks-many : goal.returns-then-blocks-many
returns-then-blocks-many c =
    read_full c.args.bytes.now c.args.blocks.now c.if-bytes-gt1073741824.false _ (counted (goal.at.returns-then-blocks-many c).In-Some-Count-default) c.in_ok-many-in-Some-Count-default.ensures c.if-blocks-many.true

pub returns-else-blocks-many : goal.returns-else-blocks-many
returns-else-blocks-many c =
    read_all c.args.bytes.now c.args.blocks.now c.in-Some-Count-default.rows (fields_of c.in-Some-Count-default.fields.now) c.if-bytes-gt1073741824.false _
    (counted (goal.at.returns-else-blocks-many c).In-Some-Count-default) (front_held c.in-Some-Count-default.rows 0 (fields_of c.in-Some-Count-default.fields.now)) c.in_ok-many-in-Some-Count-default.ensures c.if-blocks-many.false c.hand_out.ensures

pub returns-in-Some-Block-default : goal.returns-in-Some-Block-default
unfolding held_in
returns-in-Some-Block-default c =
    read_none c.args.bytes.now c.args.blocks.now c.if-bytes-gt1073741824.false _ (ap held_in (next_found c.in_ok-rows.ensures.same c.in-Some-Block-default.is c.in-Some-Block-default.field-0-0-is)) refl

pub returns-in-None : goal.returns-in-None
unfolding held_in
returns-in-None c = read_none c.args.bytes.now c.args.blocks.now c.if-bytes-gt1073741824.false _ (ap held_in (next_none c.in_ok-rows.ensures.same c.in-None.is)) refl
