-- What the row rules say of a row that keeps them, and which rows keep them.
use mathlib.Core.Path.{◌≡◌, refl, subst}
use mathlib.Core.Logic.{inl, inr, ⊎_elim}
use Prim.Native.Nat.{ℕ, zero, suc, ◌<◌}
use native.Mathlib.Omega.{arith}
use mathlib.Core.Bool.{Bool, true, false, cond, ◌&&◌}
use mathlib.Core.List.{List, [], ◌∷◌, ◌++◌}
use lib.Dec.{ltb, eqb, lit<}
use borrow.Author.Tests.{lt-ltb, le-ltb, ltb-true, eq-eqb, ne_eqb, eqb-true}
use Rattle.rows.specs.declared.row.Row.{Row}
use Rattle.rows.specs.declared.rules.Kind.{Kind}
use Rattle.rows.specs.declared.rules.Kind.TheVariants.{Pixel, Trigger, ImuCounts, ImuSingles, Special, Other}
use Rattle.rows.specs.Row.{time_of, All, timed, camera_row, pixel_row, trigger_row, counts_row, singles_row, special_row}
use Rattle.rows.specs.Rules.{below, unused, timely, good_pair, kind_of, good_as, good_row, AllGood, plain_row}
use Rattle.rows.specs.Promises.{Names}
use Rattle.rows.proofs.Chosen.{never}

pub and_first : (x y : Bool) → x && y ≡ true → x ≡ true
and_first true y e = refl
and_first false y e = e

pub and_second : (x y : Bool) → x && y ≡ true → y ≡ true
and_second true y e = e
and_second false true e = refl
and_second false false e = e

and_none : (x : Bool) → x && false ≡ false
and_none true = refl
and_none false = refl

-- a row is good by the rules of its kind, and no row of another kind is
pub good_by_kind : (r : Row) → good_row r ≡ good_as (kind_of r.kind) r
unfolding good_row
good_by_kind r = refl

pub other_bad : (r : Row) → good_as Other r ≡ false
unfolding good_as
other_bad r = refl

-- past the last kind there is no other
other_past : (n : ℕ) → 6 < n → kind_of n ≡ Other
unfolding kind_of
other_past n h = simp (ne_eqb n 1 (omega arith), ne_eqb n 2 (omega arith), ne_eqb n 3 (omega arith), ne_eqb n 4 (omega arith), ne_eqb n 6 (omega arith))

-- each kind has one number
named : (n : ℕ) → Names n (kind_of n)
unfolding kind_of
named zero = inl refl
named (suc zero) = refl
named (suc (suc zero)) = refl
named (suc (suc (suc zero))) = refl
named (suc (suc (suc (suc zero)))) = refl
named (suc (suc (suc (suc (suc zero))))) = inr (inl refl)
named (suc (suc (suc (suc (suc (suc zero)))))) = refl
named (suc (suc (suc (suc (suc (suc (suc n))))))) = rw (other_past (suc (suc (suc (suc (suc (suc (suc n))))))) (omega arith)) (inr (inr (omega arith)))

pub kind_named : (n : ℕ) (k : Kind) → kind_of n ≡ k → Names n k
kind_named n k e = subst (Names n) e (named n)

pub named_kind : (n : ℕ) (k : Kind) → Names n k → kind_of n ≡ k
unfolding kind_of
named_kind n Pixel e = rw e
named_kind n Trigger e = rw e
named_kind n ImuCounts e = rw e
named_kind n ImuSingles e = rw e
named_kind n Special e = rw e
named_kind n Other e = ⊎_elim (λ z. rw z) (⊎_elim (λ f. rw f) (other_past n)) e

pub five_bad : (r : Row) → r.kind ≡ 5 → good_row r ≡ false
unfolding good_row
five_bad r e = rw (named_kind r.kind Other (inr (inl e))) (other_bad r)

pub camera_bad : (r : Row) → r.kind ≡ 1 → 1 < r.d → good_row r ≡ false
unfolding good_row good_as
camera_bad r e h =
    rw (named_kind r.kind Pixel e, le-ltb r.d 2 h, and_none (ltb r.c 2), and_none (timely r && below 32768 (r.a ∷ r.b ∷ []))) refl

-- of pixels and triggers the last three numbers are unused
pub pixel_few : (r : Row) → unused (r.e ∷ r.f ∷ r.g ∷ []) ≡ false → good_as Pixel r ≡ false
unfolding good_as
pixel_few r h = rw h (and_none (timely r && below 32768 (r.a ∷ r.b ∷ []) && below 2 (r.c ∷ r.d ∷ [])))

pub trigger_few : (r : Row) → unused (r.e ∷ r.f ∷ r.g ∷ []) ≡ false → good_as Trigger r ≡ false
unfolding good_as
trigger_few r h = rw (h, and_none (eqb r.d 0), and_none (eqb r.c 0)) (and_none (timely r && ltb r.a 32 && ltb r.b 2))

-- each of some numbers below a limit
abbrev pub Below : ℕ → List ℕ → Type 0
Below limit [] = Unit {0}
Below limit (n ∷ ns) = (n < limit) × Below limit ns

pub below_each : (limit : ℕ) (ns : List ℕ) → below limit ns ≡ true → Below limit ns
below_each limit [] e = tt
below_each limit (n ∷ ns) e = (ltb-true n limit (and_first (ltb n limit) _ e), below_each limit ns (and_second (ltb n limit) _ e))

pub counts_below : (r : Row) → good_as ImuCounts r ≡ true → Below 65536 (r.a ∷ r.b ∷ r.c ∷ r.d ∷ r.e ∷ r.f ∷ [])
unfolding good_as
counts_below r e =
    below_each 65536 (r.a ∷ r.b ∷ r.c ∷ r.d ∷ r.e ∷ r.f ∷ []) (and_second (timely r) _ (and_first _ (unused (r.g ∷ [])) e))

-- every good row has a time within the limit
pub good_timely : (r : Row) → good_row r ≡ true → time_of r < 17179869184
unfolding good_row good_as
good_timely r e = ltb-true _ _ (go (kind_of r.kind) e)
  where
    pair : (first second : ℕ) → good_pair first second r ≡ true → timely r ≡ true
    pair first second g =
        and_first (timely r) _ (and_first (timely r && ltb r.a first) _ (and_first _ (unused (r.c ∷ r.d ∷ r.e ∷ r.f ∷ r.g ∷ [])) g))

    go : (k : Kind) → good_as k r ≡ true → timely r ≡ true
    go Pixel g =
        and_first (timely r) _ (and_first (timely r && below 32768 (r.a ∷ r.b ∷ [])) _ (and_first _ (unused (r.e ∷ r.f ∷ r.g ∷ [])) g))
    go Trigger g = pair 32 2 g
    go ImuCounts g = and_first (timely r) _ (and_first _ (unused (r.g ∷ [])) g)
    go ImuSingles g = g
    go Special g = pair 128 16777216 g
    go Other g = never g

pub all_append : (test : Row → Bool) (a b : List Row) → All test a → All test b → All test (a ++ b)
all_append test [] b h g = g
all_append test (r ∷ a) b h g = (h.0, all_append test a b h.1 g)

-- a good row is plain where it is no pixel, or one of camera 0
pub plain_if : (r : Row) → good_row r ≡ true → (r.kind ≡ 1 → r.d ≡ 0) → plain_row r ≡ true
unfolding plain_row
plain_if r good none = rw good (go (eqb r.kind 1) refl)
  where
    go : (t : Bool) → eqb r.kind 1 ≡ t → cond t (eqb r.d 0) true ≡ true
    go true e = eq-eqb r.d 0 (none (eqb-true r.kind 1 e))
    go false e = refl

-- rows that are plain are good
pub plain_good : (rs : List Row) → All plain_row rs → AllGood rs
unfolding plain_row
plain_good [] h = tt
plain_good (r ∷ rs) h = (and_first (good_row r) _ h.0, plain_good rs h.1)

-- a row made at a time has that time
pub timed_time : (kind time a b c d e f g : ℕ) → time_of (timed kind time a b c d e f g) ≡ time
unfolding time_of timed
timed_time kind time a b c d e f g = omega arith

-- and made again at another time it is the row of that time
pub timed_again : (kind time at a b c d e f g : ℕ) → let r : Row = timed kind time a b c d e f g in
    timed r.kind at r.a r.b r.c r.d r.e r.f r.g ≡ timed kind at a b c d e f g
unfolding timed
timed_again kind time at a b c d e f g = refl

-- rows made within the limits are good
module _ (time : ℕ) (h : time < 17179869184) where
  timed_timely : (kind a b c d e f g : ℕ) → timely (timed kind time a b c d e f g) ≡ true
  timed_timely kind a b c d e f g = lt-ltb (time_of (timed kind time a b c d e f g)) 17179869184 (omega (arith, timed_time kind time a b c d e f g))

  pub camera_good : (x y polarity camera : ℕ) → x < 32768 → y < 32768 → polarity < 2 → camera < 2 → good_row (camera_row time x y polarity camera) ≡ true
  unfolding good_row good_as kind_of timed
  camera_good x y p c hx hy hp hc = simp (timed_timely 1 x y p c 0 0 0, lt-ltb _ _ hx, lt-ltb _ _ hy, lt-ltb _ _ hp, lt-ltb _ _ hc)

  pub trigger_good : (channel edge : ℕ) → channel < 32 → edge < 2 → good_row (trigger_row time channel edge) ≡ true
  unfolding good_row good_as kind_of timed
  trigger_good channel edge hc he = simp (timed_timely 2 channel edge 0 0 0 0 0, lt-ltb _ _ hc, lt-ltb _ _ he)

  pub counts_good : (ax ay az rx ry rz : ℕ) → ax < 65536 → ay < 65536 → az < 65536 → rx < 65536 → ry < 65536 → rz < 65536
      → good_row (counts_row time ax ay az rx ry rz) ≡ true
  unfolding good_row good_as kind_of timed
  counts_good ax ay az rx ry rz h₁ h₂ h₃ h₄ h₅ h₆ =
      simp (timed_timely 3 ax ay az rx ry rz 0, lt-ltb _ _ h₁, lt-ltb _ _ h₂, lt-ltb _ _ h₃, lt-ltb _ _ h₄, lt-ltb _ _ h₅, lt-ltb _ _ h₆)

  pub singles_good : (ax ay az rx ry rz temperature : ℕ) → good_row (singles_row time ax ay az rx ry rz temperature) ≡ true
  unfolding good_row good_as kind_of timed
  singles_good ax ay az rx ry rz k = timed_timely 4 ax ay az rx ry rz k

  pub special_good : (code content : ℕ) → code < 128 → content < 16777216 → good_row (special_row time code content) ≡ true
  unfolding good_row good_as kind_of timed
  special_good code content hc hn = simp (timed_timely 6 code content 0 0 0 0 0, lt-ltb _ _ hc, lt-ltb _ _ hn)

  -- and plain but for pixels of camera 1
  plain_timed : (kind a b c d e f g : ℕ) → good_row (timed kind time a b c d e f g) ≡ true → cond (eqb kind 1) (eqb d 0) true ≡ true
      → plain_row (timed kind time a b c d e f g) ≡ true
  unfolding plain_row timed
  plain_timed kind a b c d e f g h k = rw (h, k)

  pub pixel_plain : (x y polarity : ℕ) → x < 32768 → y < 32768 → polarity < 2 → plain_row (pixel_row time x y polarity) ≡ true
  pixel_plain x y p hx hy hp = plain_timed 1 x y p 0 0 0 0 (camera_good x y p 0 hx hy hp (lit< tt)) refl

  pub trigger_plain : (channel edge : ℕ) → channel < 32 → edge < 2 → plain_row (trigger_row time channel edge) ≡ true
  trigger_plain channel edge hc he = plain_timed 2 channel edge 0 0 0 0 0 (trigger_good channel edge hc he) refl

  pub counts_plain : (ax ay az rx ry rz : ℕ) → ax < 65536 → ay < 65536 → az < 65536 → rx < 65536 → ry < 65536 → rz < 65536
      → plain_row (counts_row time ax ay az rx ry rz) ≡ true
  counts_plain ax ay az rx ry rz h₁ h₂ h₃ h₄ h₅ h₆ = plain_timed 3 ax ay az rx ry rz 0 (counts_good ax ay az rx ry rz h₁ h₂ h₃ h₄ h₅ h₆) refl

  pub singles_plain : (ax ay az rx ry rz temperature : ℕ) → plain_row (singles_row time ax ay az rx ry rz temperature) ≡ true
  singles_plain ax ay az rx ry rz k = plain_timed 4 ax ay az rx ry rz k (singles_good ax ay az rx ry rz k) refl

  pub special_plain : (code content : ℕ) → code < 128 → content < 16777216 → plain_row (special_row time code content) ≡ true
  special_plain code content hc hn = plain_timed 6 code content 0 0 0 0 0 (special_good code content hc hn) refl
