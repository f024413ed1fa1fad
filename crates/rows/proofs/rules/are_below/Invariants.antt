-- `rows::rules::are_below` meets its contract. The loop's invariant: all of the numbers are below the limit where those passed and those left are.
use Rattle.std.proofs.Common.{◌≡◌}
use Rattle.std.specs.Prelude.{◌&&◌, drop}
use Rattle.rows.specs.Rules.{below}
use Rattle.rows.proofs.rules.are_below.Given as goal

abbrev pub invariant-loop-n : goal.invariant-loop-n
invariant-loop-n g l = below l.limit l.n-items ≡ (l.all && below l.limit (drop l.n-index l.n-items))
