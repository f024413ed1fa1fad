-- `summary::reader::put_ten` meets its contract: the numbers before k are pasted, the rest is as it was.
use Rattle.std.proofs.Common.{◌∙◌, arith}
use Rattle.std.proofs.lemmas.List.Edits.{paste_none, paste_more}
use Rattle.rows.proofs.Stored.{paste_all}
use Rattle.summary.proofs.reader.put_ten.Goals as goal

pub loop-k-init : goal.loop-k-init
loop-k-init c = paste_none c.args.out.now c.args.at c.args.ten

pub loop-k-preserved : goal.loop-k-preserved
loop-k-preserved c = rw c.loop-k.invariant (paste_more c.args.out.now c.args.at c.args.ten c.loop-k.k 0 (omega arith) (omega arith))

pub returns : goal.returns
returns c = c.loop-k.invariant ∙ paste_all c.args.out.now c.args.at c.args.ten c.loop-k.k (omega arith) (omega arith) (omega arith)
