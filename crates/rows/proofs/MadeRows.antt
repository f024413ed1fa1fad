-- A good row is the one made from its values, which are within the limits.
use mathlib.Core.Path.{◌≡◌, refl, ◌∙◌, ap₂, subst}
use Prim.Native.Nat.{ℕ, ◌+◌, ◌*◌, ◌/◌, ◌%◌, ◌<◌}
use native.Mathlib.Omega.{arith}
use mathlib.Core.Bool.{true, ◌&&◌}
use mathlib.Core.List.{List, [], ◌∷◌}
use lib.Dec.{eqb, ltb}
use borrow.Author.Tests.{ltb-true, eqb-true}
use Rattle.rows.specs.declared.row.Row.{Row}
use Rattle.rows.specs.declared.rules.Kind.{Kind}
use Rattle.rows.specs.declared.rules.Kind.TheVariants.{Pixel, Trigger, ImuCounts, ImuSingles, Special}
use Rattle.rows.specs.Row.{time_of, timed, camera_row, trigger_row, counts_row, singles_row, special_row}
use Rattle.rows.specs.Rules.{below, unused, timely, good_pair, kind_of, good_as, good_row}
use Rattle.rows.specs.Promises.{GoodMade}
use Rattle.rows.proofs.GoodRows.{and_first, and_second, below_each}

-- numbers that are all 0
abbrev Zeros : List ℕ → Type 0
Zeros [] = Unit {0}
Zeros (n ∷ ns) = (n ≡ 0) × Zeros ns

unused_each : (ns : List ℕ) → unused ns ≡ true → Zeros ns
unused_each [] e = tt
unused_each (n ∷ ns) e = (eqb-true n 0 (and_first (eqb n 0) _ e), unused_each ns (and_second (eqb n 0) _ e))

-- the two halves of a time are found again
row_timed : (r : Row) → r.low < 4294967296 → r ≡ timed r.kind (time_of r) r.a r.b r.c r.d r.e r.f r.g
unfolding timed time_of
row_timed r h =
    let low : r.low ≡ (r.high * 4294967296 + r.low) % 4294967296 = omega arith in
    let high : r.high ≡ (r.high * 4294967296 + r.low) / 4294967296 = omega arith in
    ap₂ {C = Row} (λ (l u : ℕ). record { kind = r.kind; low = l; high = u; a = r.a; b = r.b; c = r.c; d = r.d; e = r.e; f = r.f; g = r.g }) low high

module _ (r : Row) (good : good_row r ≡ true) (narrow : r.low < 4294967296) where
  -- the rules of the row's own kind hold
  of_kind : {k : ℕ} (kind : Kind) → r.kind ≡ k → kind_of k ≡ kind → good_as kind r ≡ true
  unfolding good_row
  of_kind kind e f = subst (λ (x : Kind). good_as x r ≡ true) f (subst (λ (n : ℕ). good_as (kind_of n) r ≡ true) e good)

  in_time : timely r ≡ true → time_of r < 17179869184
  in_time e = ltb-true _ _ e

  pixel_made : r.kind ≡ 1 → (r ≡ camera_row (time_of r) r.a r.b r.c r.d) × (time_of r < 17179869184)
      × (r.a < 32768) × (r.b < 32768) × (r.c < 2) × (r.d < 2)
  unfolding good_as kind_of
  pixel_made k =
      let all : timely r && below 32768 (r.a ∷ r.b ∷ []) && below 2 (r.c ∷ r.d ∷ []) && unused (r.e ∷ r.f ∷ r.g ∷ []) ≡ true = of_kind Pixel k refl in
      let three = and_first (timely r && below 32768 (r.a ∷ r.b ∷ []) && below 2 (r.c ∷ r.d ∷ [])) _ all in
      let two = and_first (timely r && below 32768 (r.a ∷ r.b ∷ [])) _ three in
      let zero = unused_each (r.e ∷ r.f ∷ r.g ∷ []) (and_second (timely r && below 32768 (r.a ∷ r.b ∷ []) && below 2 (r.c ∷ r.d ∷ [])) _ all) in
      let small = below_each 32768 (r.a ∷ r.b ∷ []) (and_second (timely r) _ two) in
      let bits = below_each 2 (r.c ∷ r.d ∷ []) (and_second (timely r && below 32768 (r.a ∷ r.b ∷ [])) _ three) in
      (row_timed r narrow ∙ cc, in_time (and_first (timely r) _ two), small.0, small.1.0, bits.0, bits.1.0)

  -- triggers and special events
  pair_made : (first second : ℕ) → good_pair first second r ≡ true → (time_of r < 17179869184) × (r.a < first) × (r.b < second) × Zeros (r.c ∷ r.d ∷ r.e ∷ r.f ∷ r.g ∷ [])
  pair_made first second all =
      let three = and_first (timely r && ltb r.a first && ltb r.b second) _ all in
      let two = and_first (timely r && ltb r.a first) _ three in (
        in_time (and_first (timely r) _ two),
        ltb-true _ _ (and_second (timely r) _ two),
        ltb-true _ _ (and_second (timely r && ltb r.a first) _ three),
        unused_each (r.c ∷ r.d ∷ r.e ∷ r.f ∷ r.g ∷ []) (and_second (timely r && ltb r.a first && ltb r.b second) _ all),
      )

  trigger_made : r.kind ≡ 2 → (r ≡ trigger_row (time_of r) r.a r.b) × (time_of r < 17179869184) × (r.a < 32) × (r.b < 2)
  unfolding good_as kind_of
  trigger_made k =
      let made = pair_made 32 2 (of_kind Trigger k refl) in
      (row_timed r narrow ∙ cc, made.0, made.1, made.2)

  special_made : r.kind ≡ 6 → (r ≡ special_row (time_of r) r.a r.b) × (time_of r < 17179869184) × (r.a < 128) × (r.b < 16777216)
  unfolding good_as kind_of
  special_made k =
      let made = pair_made 128 16777216 (of_kind Special k refl) in
      (row_timed r narrow ∙ cc, made.0, made.1, made.2)

  counts_made : r.kind ≡ 3 → (r ≡ counts_row (time_of r) r.a r.b r.c r.d r.e r.f) × (time_of r < 17179869184)
      × (r.a < 65536) × (r.b < 65536) × (r.c < 65536) × (r.d < 65536) × (r.e < 65536) × (r.f < 65536)
  unfolding good_as kind_of
  counts_made k =
      let six : List ℕ = r.a ∷ r.b ∷ r.c ∷ r.d ∷ r.e ∷ r.f ∷ [] in
      let all : timely r && below 65536 six && unused (r.g ∷ []) ≡ true = of_kind ImuCounts k refl in
      let two = and_first (timely r && below 65536 six) _ all in
      let zero = unused_each (r.g ∷ []) (and_second (timely r && below 65536 six) _ all) in
      let small = below_each 65536 six (and_second (timely r) _ two) in
      (row_timed r narrow ∙ cc, in_time (and_first (timely r) _ two), small.0, small.1.0, small.1.1.0, small.1.1.1.0, small.1.1.1.1.0, small.1.1.1.1.1.0)

  singles_made : r.kind ≡ 4 → (r ≡ singles_row (time_of r) r.a r.b r.c r.d r.e r.f r.g) × (time_of r < 17179869184)
  unfolding good_as kind_of
  singles_made k = (row_timed r narrow ∙ cc, in_time (of_kind ImuSingles k refl))

  pub good_made : GoodMade r
  good_made =
      record { pixel = pixel_made; trigger = trigger_made; counts = counts_made; singles = singles_made; special = special_made }
