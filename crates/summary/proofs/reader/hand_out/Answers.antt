-- `summary::reader::hand_out` meets its contract: the numbers of the blocks so far are put, and with the others the buffer becomes what it is to be.
use Rattle.std.proofs.Common.{◌∙◌, ◌*◌, ap, arith}
use Rattle.std.proofs.lemmas.List.Edits.{sets}
use Rattle.summary.specs.Reader.{front_blocks}
use Rattle.summary.proofs.HandedOut.{hand_next, hand_full, hand_done, front_found, front_none}
use Rattle.summary.proofs.reader.hand_out.Goals as goal

pub returns-in_default : goal.returns-in_default
returns-in_default c = hand_done c.loop-j.invariant (front_none _ c.next_field.ensures.same c.in_default.ensures)

pub returns-in_default-field : goal.returns-in_default-field
returns-in_default-field c = hand_done c.loop-j.invariant (ap front_blocks (front_found _ c.next_field.ensures.same c.in-Some.ensures c.in_default-field.is))

pub loop-j-preserved : goal.loop-j-preserved
loop-j-preserved c =
    hand_next c.loop-j.invariant c.in-Some.after.now (front_found _ c.next_field.ensures.same c.in-Some.ensures c.in-Block.is)
    (c.put_ten.ensures ∙ ap (sets c.loop-j.out (c.loop-j.j * 10)) c.numbers.ensures)

pub returns : goal.returns
returns c = hand_full c.loop-j.invariant (omega arith)
