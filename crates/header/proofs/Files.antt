-- Files that begin with a header: what a reader of them promises, and what holds of all that it gives.
use mathlib.Core.Path.{◌≡◌, sym, ◌∙◌, subst}
use Prim.Native.Nat.{ℕ, ◌≤◌, ◌<◌}
use mathlib.Core.Bool.{Bool}
use Rattle.std.proofs.Common.{Result, Ok, Err}
use mathlib.Core.List.{List}
use lib.ListN.{length}
use Rattle.rows.specs.declared.fault.ReadError.{ReadError}
use Rattle.rows.specs.declared.row.Row.{Row}
use Rattle.rows.specs.Row.{All}
use Rattle.rows.specs.Runs.{Run, ReadAs, EndsWithin}
use Rattle.rows.proofs.Sofar.{reads_refused}
use Rattle.header.specs.declared.reader.Header.{Header}
use Rattle.header.specs.declared.reader.HeaderError.{HeaderError}
use Rattle.header.specs.Header.{header_of, no_rows, after_header}
use Rattle.header.specs.Promises.{Within}
use Rattle.header.proofs.Kept.{header_within}

-- `a` is what the definition says of the header, `r` what the code found
module _ {S : Type 0} (rest : ℕ → ℕ → ℕ → Run S) {a r : Result Header HeaderError} (e : r ≡ a) {old : List ℕ} where
  pub reads_none : {x : HeaderError} → r ≡ Err x → ReadAs (after_header a rest) old old (Err (no_rows x))
  reads_none f = rw (sym e ∙ f) (reads_refused _ _)

  pub reads_on : {h : Header} {new : List ℕ} {x : Result ℕ ReadError} → r ≡ Ok h → ReadAs (rest h.at h.width h.height) old new x
      → ReadAs (after_header a rest) old new x
  reads_on f h = rw (sym e ∙ f) h

-- the data that the code found begin in the input or at its end
pub data_within : (limit : ℕ) → 0 < limit → (bytes : List ℕ) {r : Result Header HeaderError} {h : Header}
    → r ≡ header_of limit bytes → r ≡ Ok h → h.at ≤ length bytes
data_within limit some bytes e f = (subst (Within limit (length bytes)) (sym e ∙ f) (header_within limit some bytes)).0

module _ {S : Type 0} (rest : ℕ → ℕ → ℕ → Run S) where
  -- all rows pass a test where those after the header do
  pub after_passes : (test : Row → Bool) (r : Result Header HeaderError) → ((at width height : ℕ) → All test (rest at width height).rows)
      → All test (after_header r rest).rows
  after_passes test (Ok h) g = g h.at h.width h.height
  after_passes test (Err e) g = tt

  -- a refusal lies in the file where those after the header do
  pub after_within : (limit bytes : ℕ) (r : Result Header HeaderError) → Within limit bytes r
      → ((at width height : ℕ) → at ≤ bytes → EndsWithin (rest at width height).ending bytes) → EndsWithin (after_header r rest).ending bytes
  after_within limit bytes (Ok h) w g = g h.at h.width h.height w.0
  after_within limit bytes (Err e) w g = w
