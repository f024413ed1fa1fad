-- What a writer answers and writes that goes over rows one by one, whatever it adds for them.
use Rattle.std.specs.Prelude.{◌≡◌, ℕ, suc, Bool, true, false, cond, List, [], ◌∷◌, length, leb, Result}
use Rattle.rows.specs.declared.fault.Fault.TheVariants.{NoRoom, BadList}
use Rattle.rows.specs.declared.fault.WriteError.{WriteError}
use Rattle.rows.specs.declared.row.Row.{Row}
use Rattle.rows.specs.Row.{rows_of}
use Rattle.rows.specs.Rules.{Verdict, accepted, refused, verdict_then, judged_of, good_length}
use Rattle.words.specs.Sinks.{room, places_after, after}
use Rattle.words.specs.Writer.{then_judged, writing_of, Walk, walked}

-- rows from index i on, judged one after the other, each after the time of the row before, which is known where the writer stands
abbrev pub walk_verdict : {W : Type 0} → (Row → Bool) → Walk W → (last : W → ℕ) → W → List Row → ℕ → Verdict
walk_verdict writable k last w [] i = accepted
walk_verdict writable k last w (r ∷ rs) i = verdict_then (judged_of (writable r) r (last w)) i (λ (t : ℕ). walk_verdict writable k last (k.next w r) rs (suc i))

-- how many words they add, as a number of 64 bits counts
abbrev pub words_counted : List ℕ → ℕ
words_counted ws = places_after (room false 1 []) 0 ws

-- a list's length is judged first (13), its rows one after the other (12, 5), and the room for its words last (2)
abbrev pub walk_judged : {W : Type 0} → (size : ℕ) → (Row → Bool) → Walk W → W → (last : W → ℕ) → (l out : List ℕ) → Verdict
walk_judged size writable k start last l out =
    then_judged (cond (good_length (length l)) (walk_verdict writable k last start (rows_of l) 0) (refused BadList 0))
    (cond (leb (words_counted (walked k start (rows_of l))) (room true size out)) accepted (refused NoRoom 0))

-- what a slice then holds: all that it held where the list is refused
abbrev pub where_accepted : Verdict → List ℕ → List ℕ → List ℕ
where_accepted accepted new old = new
where_accepted (refused f i) new old = old

-- the promise, of every list and every buffer
pub record WalkedAs {W : Type 0} (size : ℕ) (writable : Row → Bool) (k : Walk W) (start : W) (last : W → ℕ) (l old new : List ℕ) (r : Result ℕ WriteError) : Type 0 where
  pub answer : r ≡ writing_of (walk_judged size writable k start last l old) (words_counted (walked k start (rows_of l)))
  pub wrote : new ≡ where_accepted (walk_judged size writable k start last l old) (after true size old 0 (walked k start (rows_of l))) old
