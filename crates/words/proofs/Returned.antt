-- Rows that are written come back, of any format whose words are read as their rows.
use mathlib.Core.Path.{◌≡◌, sym, ◌∙◌, ap, ap₂, subst}
use Prim.Native.Nat.{ℕ, ◌*◌}
use mathlib.Core.List.{List}
use lib.ListN.{length, take}
use Rattle.std.specs.Prelude.{Ok}
use Rattle.rows.specs.declared.row.Row.{Row}
use Rattle.rows.specs.Row.{flat, over, room_of, rows_of}
use Rattle.rows.specs.Rules.{accepted, verdict_of}
use Rattle.rows.specs.Runs.{Ending, Run, answer_of, Finishes}
use Rattle.rows.proofs.Judging.{whole_rows, accepted_list}
use Rattle.rows.proofs.Kept.{flat_of_rows, over_kept}
use Rattle.rows.proofs.Lists.{rows_of_length}
use Rattle.words.specs.RoundTrip.{ReadsBack, ComesBack}
use Rattle.words.specs.Words.{bytes_of_all}
use Rattle.words.specs.Writer.{Spelling, spelled, writing_verdict}
use Rattle.words.proofs.Writes.{all_length}
use Rattle.words.proofs.Writings.{room_exact}

-- the numbers of a writable list are those of its rows
same_numbers : (s : Spelling) (l : List ℕ) → verdict_of s.writable l ≡ accepted → flat (rows_of l) ≡ l
same_numbers s l ok = flat_of_rows l (whole_rows l (accepted_list s.writable l ok).0)

-- a buffer that words were written over begins with them
front : (size : ℕ) (ws out : List ℕ) → take (length ws * size) (over (bytes_of_all size ws) out) ≡ bytes_of_all size ws
front size ws out =
    ap (λ (k : ℕ). take k (over (bytes_of_all size ws) out)) (sym (all_length size ws)) ∙ over_kept.front (bytes_of_all size ws) out

pub comes_back : {S : Type 0} (s : Spelling) (reading_of : List ℕ → ℕ → Run S) → ReadsBack s reading_of → ComesBack s reading_of
comes_back {S} s reading_of law l narrow ok out out' w long wrote old new r room read =
    record {
      written = wrote.answer ∙ rw verdict;
      finished = read.answer ∙ ap₂ (λ (a : Ending S) (rs : List Row). answer_of a (length rs)) back.ending back.rows ∙ ap Ok (rows_of_length l);
      back = read.wrote ∙ ap (λ (rs : List Row). over (flat rs) old) back.rows ∙ ap (λ (k : List ℕ). over k old) (same_numbers s l ok);
    }
  where
    verdict : writing_verdict s l (length out) ≡ accepted
    verdict = (room_exact s l (length out) ok).long long

    bytes : take (length (spelled s l) * s.size) out' ≡ bytes_of_all s.size (spelled s l)
    bytes = ap (take (length (spelled s l) * s.size)) (wrote.wrote ∙ rw verdict) ∙ front s.size (spelled s l) out

    back : Finishes (reading_of (take (length (spelled s l) * s.size) out') (room_of old)) (rows_of l)
    back = subst (λ (b : List ℕ). Finishes (reading_of b (room_of old)) (rows_of l)) (sym bytes) (law l narrow ok (room_of old) room)
