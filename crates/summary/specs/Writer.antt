-- What the writer's functions promise: `WroteSummary`, and what the private ones do towards it. 02, R-6.
use Rattle.std.specs.Prelude.{◌≡◌, ℕ, ◌+◌, ◌≤◌, ◌<◌, min, max, List, length, Result}
use Rattle.std.proofs.lemmas.List.Edits.{sets}
use Rattle.rows.specs.declared.fault.WriteError.{WriteError}
use Rattle.rows.specs.declared.fault.WritingNumbers.{WritingNumbers}
use Rattle.rows.specs.declared.row.Row.{Row}
use Rattle.rows.specs.Row.{time_of, rows_of}
use Rattle.rows.specs.Rules.{good_row, Verdict}
use Rattle.summary.specs.declared.Block.{Block}
use Rattle.summary.specs.Blocks.{of_kind}
use Rattle.summary.specs.Stored.{stored_of}
use Rattle.summary.specs.Verdicts.{in_any_order}
use Rattle.summary.specs.Writers.{verdict_in, WroteBytes, WroteBytesNumbers}

-- 13, then 12 at the first row that is not good, whatever the order of times, then 2
abbrev pub summary_verdict : List ℕ → ℕ → Verdict
summary_verdict l bytes = verdict_in (in_any_order good_row) l (length (stored_of (rows_of l))) bytes

-- the writer's promise, of every list and every buffer: it answers the number of bytes
abbrev pub WroteSummary : (l old new : List ℕ) → Result ℕ WriteError → Type 0
WroteSummary l old new r = WroteBytes (summary_verdict l (length old)) (length (stored_of (rows_of l))) (stored_of (rows_of l)) old new r

-- the same promise of an answer as numbers
abbrev pub WroteSummaryNumbers : (l old new : List ℕ) → WritingNumbers → Type 0
WroteSummaryNumbers l old new r = WroteBytesNumbers (summary_verdict l (length old)) (length (stored_of (rows_of l))) (stored_of (rows_of l)) old new r

-- each number of rows is at most so many
pub record Few (most : ℕ) (b : Block) : Type 0 where
  pub pixels : b.pixels ≤ most
  pub triggers : b.triggers ≤ most
  pub counts : b.counts ≤ most
  pub singles : b.singles ≤ most
  pub packets : b.packets ≤ most
  pub specials : b.specials ≤ most

-- a block with one row more
unfoldable pub add_row : Block → Row → Block
add_row b r =
    record {
      first = b.first;
      last = time_of r;
      smallest = min b.smallest (time_of r);
      largest = max b.largest (time_of r);
      pixels = b.pixels + of_kind 1 r;
      triggers = b.triggers + of_kind 2 r;
      counts = b.counts + of_kind 3 r;
      singles = b.singles + of_kind 4 r;
      packets = b.packets + of_kind 5 r;
      specials = b.specials + of_kind 6 r;
    }

-- rows from one up to another: at least one, at most 256, of a list that has them
pub record Within (rows from to : ℕ) : Type 0 where
  pub some : from < to
  pub few : to ≤ from + 256
  pub inside : to ≤ rows

-- bytes are put at a place, and the place after them is answered
pub record Puts (bytes old : List ℕ) (at : ℕ) (new : List ℕ) (r : ℕ) : Type 0 where
  pub place : r ≡ at + length bytes
  pub wrote : new ≡ sets old at bytes
