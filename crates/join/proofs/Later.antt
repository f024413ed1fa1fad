-- Rows n wraps later: their time, and what the words that give events give in two states whose times lie n wraps apart.
use mathlib.Core.Path.{◌≡◌, refl, sym, ◌∙◌, ap, ap₂}
use Prim.Native.Nat.{ℕ, ◌+◌, ◌*◌}
use mathlib.Core.Bool.{Bool, true, false, cond}
use mathlib.Core.List.{List, [], ◌∷◌, map}
use Rattle.rows.specs.declared.fault.Fault.TheVariants as refusal
use Rattle.rows.specs.declared.row.Row.{Row}
use Rattle.rows.specs.Row.{time_of, timed}
use Rattle.rows.proofs.GoodRows.{timed_time, timed_again}
use Rattle.words.specs.declared.picture.Picture.{Picture}
use Rattle.words.specs.Machine.{Given, gives, refuses}
use Rattle.evt3.specs.declared.state.State.{State}
use Rattle.evt3.specs.Words.{rows_at, all_in, pixels}
use Rattle.join.specs.Join.{later}

pub later_time : (n : ℕ) (r : Row) → time_of (later n r) ≡ time_of r + n * 16777216
unfolding later
later_time n r = timed_time r.kind (time_of r + n * 16777216) r.a r.b r.c r.d r.e r.f r.g

-- a made row
pub later_timed : (n kind time a b c d e f g : ℕ) → timed kind (time + n * 16777216) a b c d e f g ≡ later n (timed kind time a b c d e f g)
unfolding later
later_timed n kind time a b c d e f g =
    ap (λ (x : ℕ). timed kind (x + n * 16777216) a b c d e f g) (sym (timed_time kind time a b c d e f g))
    ∙ sym (timed_again kind time (time_of (timed kind time a b c d e f g) + n * 16777216) a b c d e f g)

pixels_later : (n time y polarity camera : ℕ) (xs : List ℕ)
    → rows_at (time + n * 16777216) y polarity camera xs ≡ map (later n) (rows_at time y polarity camera xs)
pixels_later n time y polarity camera [] = refl
pixels_later n time y polarity camera (x ∷ xs) =
    ap₂ ◌∷◌ (later_timed n 1 time x y polarity camera 0 0 0) (pixels_later n time y polarity camera xs)

-- what a word gives, n wraps later
abbrev pub later_given : ℕ → Given → Given
later_given n (gives new) = gives (map (later n) new)
later_given n (refuses f) = refuses f

-- pixels of one line and camera, at times n wraps apart
pub given_later : (n : ℕ) (p : Picture) (s t : State) (polarity : ℕ) (xs : List ℕ) → t.y ≡ s.y → t.camera ≡ s.camera → t.time ≡ s.time + n * 16777216
    → pixels p t polarity xs ≡ later_given n (pixels p s polarity xs)
unfolding pixels
given_later n p s t polarity xs line camera time = rw (line, camera, time) (go (all_in p s.y xs))
  where
    go : (b : Bool)
        → cond b (gives (rows_at (s.time + n * 16777216) s.y polarity s.camera xs)) (refuses refusal.Outside)
        ≡ later_given n (cond b (gives (rows_at s.time s.y polarity s.camera xs)) (refuses refusal.Outside))
    go true = ap gives (pixels_later n s.time s.y polarity s.camera xs)
    go false = refl
