-- A high part of the time, as two readers take it whose wrap counts are n apart, and as a reader takes its first.
use mathlib.Core.Path.{◌≡◌, refl, sym, ◌∙◌, ap, ap₂}
use Prim.Native.Nat.{ℕ, ◌+◌, ◌-◌}
use native.Mathlib.Omega.{arith}
use mathlib.Core.Bool.{Bool, true, false, cond, ◌&&◌, not}
use lib.Dec.{leb, ltb}
use borrow.Author.Tests.{lt-leb}
use Rattle.evt3.specs.declared.state.State.{State}
use Rattle.evt3.specs.Words.{drop_to, is_wrap, wraps_at, goes_back, bad_high}
use Rattle.evt3.proofs.Steps.{few_wraps}
use Rattle.std.proofs.lemmas.Bool.{or_parts}

-- both know the same high part
module _ (n : ℕ) (s t : State) (high : ℕ) (known : t.known.high ≡ s.known.high) (same : t.high ≡ s.high) (apart : t.wraps ≡ s.wraps + n) where
  same_drop : drop_to t high ≡ drop_to s high
  unfolding drop_to
  same_drop = ap₂ (λ (k : Bool) (old : ℕ). cond k (old - high) 0) known same

  same_wrap : is_wrap t high ≡ is_wrap s high
  unfolding is_wrap
  same_wrap = ap (leb 2048) same_drop

  same_back : goes_back t high ≡ goes_back s high
  unfolding goes_back
  same_back = ap₂ (λ (d : ℕ) (b : Bool). ltb 0 d && not b) same_drop same_wrap

  pub wraps_apart : wraps_at t high ≡ wraps_at s high + n
  unfolding wraps_at
  wraps_apart = ap (λ (b : Bool). cond b (t.wraps + 1) t.wraps) same_wrap ∙ go (is_wrap s high)
    where
      go : (b : Bool) → cond b (t.wraps + 1) t.wraps ≡ cond b (s.wraps + 1) s.wraps + n
      go true = omega (arith, apart)
      go false = apart

  -- the smaller count is not refused where the other is not
  pub not_bad : bad_high t high ≡ false → bad_high s high ≡ false
  unfolding bad_high
  not_bad e =
      let back : goes_back s high ≡ false = sym same_back ∙ (or_parts (goes_back t high) _ e).0 in
      let few : leb 1024 (wraps_at s high) ≡ false = lt-leb 1024 (wraps_at s high) (omega (arith, few_wraps t high e, wraps_apart)) in
      rw (back, few) refl

-- no high part is known: the first is neither a wrap nor refused
module _ (s : State) (high : ℕ) (unknown : s.known.high ≡ false) where
  first_drop : drop_to s high ≡ 0
  unfolding drop_to
  first_drop = rw unknown refl

  first_wrap : is_wrap s high ≡ false
  unfolding is_wrap
  first_wrap = ap (leb 2048) first_drop

  pub first_wraps : wraps_at s high ≡ s.wraps
  unfolding wraps_at
  first_wraps = rw first_wrap refl

  pub first_good : s.wraps ≡ 0 → bad_high s high ≡ false
  unfolding bad_high goes_back
  first_good none = rw (first_drop, first_wraps, none) refl
