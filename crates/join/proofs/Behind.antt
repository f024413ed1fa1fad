-- What a reader that joined knows, beside the full reader: nothing that the full reader does not know, and the same but for n wraps. Each part
-- of the state that a word sets keeps that.
use mathlib.Core.Path.{◌≡◌, refl, ap}
use Prim.Native.Nat.{ℕ, ◌+◌, ◌*◌}
use native.Mathlib.Omega.{arith}
use mathlib.Core.Bool.{Bool, true, false, cond}
use Rattle.std.proofs.Common.{inl, inr}
use Rattle.std.proofs.lemmas.Bool.{both_ways, or_cases}
use Rattle.rows.proofs.Chosen.{never}
use Rattle.evt3.specs.declared.kind.Kind.TheVariants.{AddrY, VectBaseX, TimeLow, TimeHigh}
use Rattle.evt3.specs.declared.state.State.{State}
use Rattle.evt3.specs.State.{fresh, with_high, with_time, with_y, with_base, moved_base, moved}
use Rattle.evt3.specs.Words.{with_low}
use Rattle.join.specs.declared.seen.Seen.{Seen}
use Rattle.join.specs.Seen.{none_seen, seen_with}

-- s is the joined reader's state, t the full reader's
pub record Behind (n : ℕ) (s t : State) : Type 0 where
  pub high : s.known.high ≡ true → (t.known.high ≡ true) × (t.high ≡ s.high) × (t.wraps ≡ s.wraps + n)
  pub time : s.known.time ≡ true → (t.known.time ≡ true) × (t.time ≡ s.time + n * 16777216)
  pub y : s.known.y ≡ true → (t.known.y ≡ true) × (t.y ≡ s.y) × (t.camera ≡ s.camera)
  pub base : s.known.base ≡ true → (t.known.base ≡ true) × (t.base ≡ s.base) × (t.polarity ≡ s.polarity)
  -- before its first TIME_HIGH it has no time and has counted no wrap
  pub start : s.known.high ≡ false → (s.known.time ≡ false) × (s.wraps ≡ 0)

-- what was seen is known
pub record Covers (seen : Seen) (s : State) : Type 0 where
  pub high : seen.high ≡ true → s.known.high ≡ true
  pub time : seen.low ≡ true → s.known.time ≡ true
  pub y : seen.y ≡ true → s.known.y ≡ true
  pub base : seen.base ≡ true → s.known.base ≡ true

-- a fresh reader knows nothing, so it is any number of wraps behind
pub fresh_behind : (n : ℕ) (t : State) → Behind n fresh t
fresh_behind n t = record { high = λ e. never e; time = λ e. never e; y = λ e. never e; base = λ e. never e; start = λ e. (refl, refl) }

pub fresh_covers : Covers none_seen fresh
fresh_covers = record { high = λ e. never e; time = λ e. never e; y = λ e. never e; base = λ e. never e }

module _ {n : ℕ} {s t : State} (h : Behind n s t) where
  pub high_behind : (high c d : ℕ) → d ≡ c + n → Behind n (with_high s high c) (with_high t high d)
  high_behind high c d e =
      record { high = λ _. (refl, refl, e); time = h.time; y = h.y; base = h.base; start = λ f. absurd (both_ways true f refl) }

  pub y_behind : (y camera : ℕ) → Behind n (with_y s y camera) (with_y t y camera)
  y_behind y camera = record { high = h.high; time = h.time; y = λ _. (refl, refl, refl); base = h.base; start = h.start }

  pub base_behind : (base polarity : ℕ) → Behind n (with_base s base polarity) (with_base t base polarity)
  base_behind base polarity = record { high = h.high; time = h.time; y = h.y; base = λ _. (refl, refl, refl); start = h.start }

  -- TIME_LOW sets the time where a high part is known
  pub low_behind : (low : ℕ) → Behind n (with_low s low) (with_low t low)
  unfolding with_low
  low_behind low = go s.known.high refl t.known.high refl
    where
      time_with : State → ℕ
      time_with r = r.wraps * 16777216 + r.high * 4096 + low

      go : (a : Bool) → s.known.high ≡ a → (b : Bool) → t.known.high ≡ b
          → Behind n (cond a (with_time s (time_with s)) s) (cond b (with_time t (time_with t)) t)
      go true e true f =
          record {
            high = h.high;
            time = λ _. (refl, omega (arith, (h.high e).1, (h.high e).2));
            y = h.y;
            base = h.base;
            start = λ g. absurd (both_ways s.known.high g e);
          }
      go true e false f = absurd (both_ways t.known.high f (h.high e).0)
      go false e true f =
          record { high = h.high; time = λ g. absurd (both_ways s.known.time (h.start e).0 g); y = h.y; base = h.base; start = h.start }
      go false e false f = h

  -- a vector moves a base that is known
  pub moved_behind : (columns : ℕ) → Behind n (moved columns s) (moved columns t)
  unfolding moved
  moved_behind columns = go s.known.base refl t.known.base refl
    where
      go : (a : Bool) → s.known.base ≡ a → (b : Bool) → t.known.base ≡ b
          → Behind n (cond a (with_base s (moved_base columns s.base) s.polarity) s) (cond b (with_base t (moved_base columns t.base) t.polarity) t)
      go true e true f =
          record {
            high = h.high;
            time = h.time;
            y = h.y;
            base = λ _. (refl, ap (moved_base columns) (h.base e).1, (h.base e).2);
            start = h.start;
          }
      go true e false f = absurd (both_ways t.known.base f (h.base e).0)
      go false e true f =
          record { high = h.high; time = h.time; y = h.y; base = λ g. absurd (both_ways s.known.base e g); start = h.start }
      go false e false f = h

module _ {seen : Seen} {s : State} (c : Covers seen s) where
  pub high_covers : (high wraps : ℕ) → Covers (seen_with TimeHigh seen) (with_high s high wraps)
  high_covers high wraps = record { high = λ _. refl; time = c.time; y = c.y; base = c.base }

  pub y_covers : (y camera : ℕ) → Covers (seen_with AddrY seen) (with_y s y camera)
  y_covers y camera = record { high = c.high; time = c.time; y = λ _. refl; base = c.base }

  pub base_covers : (base polarity : ℕ) → Covers (seen_with VectBaseX seen) (with_base s base polarity)
  base_covers base polarity = record { high = c.high; time = c.time; y = c.y; base = λ _. refl }

  pub low_covers : (low : ℕ) → Covers (seen_with TimeLow seen) (with_low s low)
  unfolding with_low
  low_covers low = go s.known.high refl
    where
      go : (a : Bool) → s.known.high ≡ a → Covers (seen_with TimeLow seen) (cond a (with_time s (s.wraps * 16777216 + s.high * 4096 + low)) s)
      go true e = record { high = c.high; time = λ _. refl; y = c.y; base = c.base }
      go false e =
          record {
            high = c.high;
            time = λ f. elim (or_cases seen.high seen.low f) [ inl g ↦ absurd (both_ways s.known.high e (c.high g)) | inr g ↦ c.time g ];
            y = c.y;
            base = c.base;
          }

  pub moved_covers : (columns : ℕ) → Covers seen (moved columns s)
  unfolding moved
  moved_covers columns = go s.known.base
    where
      go : (a : Bool) → Covers seen (cond a (with_base s (moved_base columns s.base) s.polarity) s)
      go true = record { high = c.high; time = c.time; y = c.y; base = λ _. refl }
      go false = c
