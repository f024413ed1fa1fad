-- `rows::rules::are_unused` meets its contract. The loop's invariant: all of the numbers are 0 where those passed and those left are.
use Rattle.std.proofs.Common.{◌≡◌}
use Rattle.std.specs.Prelude.{◌&&◌, drop}
use Rattle.rows.specs.Rules.{unused}
use Rattle.rows.proofs.rules.are_unused.Given as goal

abbrev pub invariant-loop-n : goal.invariant-loop-n
invariant-loop-n g l = unused l.n-items ≡ (l.all && unused (drop l.n-index l.n-items))
