-- How many words y and time take.
use Prim.Native.Nat.{ℕ, zero, suc, ◌+◌, ◌-◌, ◌*◌, ◌/◌, ◌%◌, ◌≤◌}
use native.Mathlib.Omega.{arith}
use mathlib.Core.Bool.{Bool, true, false, cond, ◌&&◌}
use mathlib.Core.List.{List, [], ◌∷◌, ◌++◌}
use lib.ListN.{length, length-append}
use lib.Dec.{eqb}
use Rattle.evt3.specs.declared.told.Told.{Told}
use Rattle.evt3.specs.Spelling.{low_word, high_word, unless, high_words, wraps_of, high_of, time_words, y_words}

unless_short : (known : Bool) (w : ℕ) → length (unless known w) ≤ 1
unless_short true w = omega arith
unless_short false w = omega arith

pub y_short : (told : Told) (y camera : ℕ) → length (y_words told y camera) ≤ 1
y_short told y camera = unless_short (told.lined && eqb told.y y && eqb told.camera camera) _

pub high_short : (n : ℕ) (known : Bool) (old high : ℕ) → length (high_words n known old high) ≤ 1 + 2 * n
unfolding high_words
high_short zero known old high = unless_short (known && eqb old high) (high_word high)
high_short (suc n) known old high =
    simp length-append (omega (arith, unless_short (known && eqb old 4095) (high_word 4095), high_short n true 0 high))

-- two words, and two more for each wrap since the old time
time_words_lem : (timed : Bool) (old time : ℕ) → length (time_words timed old time) ≤ 2 + 2 * (wraps_of time - wraps_of old)
unfolding time_words
time_words_lem timed old time =
    let n : ℕ = wraps_of time - wraps_of old in
    go (timed && eqb old time) (high_words n timed (high_of old) (high_of time)) (high_short n timed (high_of old) (high_of time))
  where
    go : (known : Bool) (high : List ℕ) → length high ≤ 1 + 2 * (wraps_of time - wraps_of old)
        → length (cond known [] (high ++ (low_word (time % 4096) ∷ []))) ≤ 2 + 2 * (wraps_of time - wraps_of old)
    go true high e = omega arith
    go false high e = simp length-append (omega arith)

pub time_short : (timed : Bool) (old time : ℕ) → old ≤ time
    → length (time_words timed old time) + 2 * (old / 16777216) ≤ 2 + 2 * (time / 16777216)
time_short timed old time h = omega (arith, time_words_lem timed old time)
