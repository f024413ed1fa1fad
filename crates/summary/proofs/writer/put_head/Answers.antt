-- `summary::writer::put_head` meets its contract.
use native.Mathlib.Omega.{arith}
use Rattle.summary.proofs.Putting.{puts_byte, puts_word, puts_then}
use Rattle.summary.proofs.writer.put_head.Goals as goal

pub returns : goal.returns
returns c = puts_then (puts_byte c.args.out.now c.args.at c.args.tag (omega arith)) (puts_word c.put_number.ensures)
