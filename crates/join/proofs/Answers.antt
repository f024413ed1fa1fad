-- What a word gives to a reader that joined and to the full reader n wraps ahead of it.
use mathlib.Core.Path.{◌≡◌, refl, ◌∙◌, ap, ap₂}
use Prim.Native.Nat.{ℕ}
use mathlib.Core.Bool.{Bool, true, false, cond, ◌&&◌}
use mathlib.Core.List.{[], ◌∷◌}
use Rattle.rows.specs.declared.row.Row.{Row}
use Rattle.rows.specs.Row.{trigger_row}
use Rattle.std.proofs.lemmas.Bool.{and_from}
use Rattle.rows.proofs.Chosen.{never}
use Rattle.rows.proofs.GoodRows.{and_first, and_second}
use Rattle.words.specs.declared.picture.Picture.{Picture}
use Rattle.words.specs.Fields.{field}
use Rattle.words.specs.Machine.{Given, gives}
use Rattle.evt3.specs.declared.state.State.{State}
use Rattle.evt3.specs.Words.{pixels, pixel_of, columns, vector_of, trigger_of}
use Rattle.join.specs.declared.seen.Seen.{Seen}
use Rattle.join.specs.Seen.{all_seen}
use Rattle.join.proofs.AllSeen.{is_low_lem, is_y_lem, is_base_lem}
use Rattle.join.proofs.Behind.{Behind, Covers}
use Rattle.join.proofs.Later.{later_timed, later_given, given_later}

-- the same n wraps later, or nothing to the joined reader, where that may be
pub data Answers (n : ℕ) (sure : Bool) (joined full : Given) : Type 0 where
  same : full ≡ later_given n joined → Answers n sure joined full
  none : joined ≡ gives [] → sure ≡ false → Answers n sure joined full

-- both give nothing unless something is known, and what the joined reader knows the full reader knows
if_known : {n : ℕ} (sure : Bool) (joined full : Given) (a b : Bool) → (a ≡ true → b ≡ true) → (a ≡ true → full ≡ later_given n joined) → (sure ≡ true → a ≡ true)
    → Answers n sure (cond a joined (gives [])) (cond b full (gives []))
if_known sure joined full true true f g h = same (g refl)
if_known sure joined full true false f g h = never (f refl)
if_known true joined full false b f g h = never (h refl)
if_known false joined full false b f g h = none refl refl

-- the words that give events
module _ {n : ℕ} {seen : Seen} {s t : State} (h : Behind n s t) (c : Covers seen s) where
  pub pixel_answers : (p : Picture) (w : ℕ) → Answers n (all_seen seen) (pixel_of p s w) (pixel_of p t w)
  unfolding pixel_of
  pixel_answers p w =
      if_known (all_seen seen) _ _ (s.known.time && s.known.y) (t.known.time && t.known.y)
      (λ e. and_from _ _ (h.time (at_time e)).0 (h.y (at_y e)).0)
      (λ e. given_later n p s t (field 11 1 w) (field 0 11 w ∷ []) (h.y (at_y e)).1 (h.y (at_y e)).2 (h.time (at_time e)).1)
      (λ e. and_from _ _ (c.time (is_low_lem seen e)) (c.y (is_y_lem seen e)))
    where
      at_time : s.known.time && s.known.y ≡ true → s.known.time ≡ true
      at_time e = and_first s.known.time _ e

      at_y : s.known.time && s.known.y ≡ true → s.known.y ≡ true
      at_y e = and_second s.known.time _ e

  pub vector_answers : (p : Picture) (bits : ℕ) → Answers n (all_seen seen) (vector_of p s bits) (vector_of p t bits)
  unfolding vector_of
  vector_answers p bits =
      if_known (all_seen seen) _ _ (s.known.time && s.known.y && s.known.base) (t.known.time && t.known.y && t.known.base)
      (λ e. and_from _ _ (and_from _ _ (h.time (at_time e)).0 (h.y (at_y e)).0) (h.base (at_base_lem e)).0)
      (λ e.
      ap₂ (λ (polarity base : ℕ). pixels p t polarity (columns 12 base bits)) (h.base (at_base_lem e)).2 (h.base (at_base_lem e)).1
      ∙ given_later n p s t s.polarity (columns 12 s.base bits) (h.y (at_y e)).1 (h.y (at_y e)).2 (h.time (at_time e)).1)
      (λ e. and_from _ _ (and_from _ _ (c.time (is_low_lem seen e)) (c.y (is_y_lem seen e))) (c.base (is_base_lem seen e)))
    where
      at_base_lem : s.known.time && s.known.y && s.known.base ≡ true → s.known.base ≡ true
      at_base_lem e = and_second (s.known.time && s.known.y) _ e

      at_y : s.known.time && s.known.y && s.known.base ≡ true → s.known.y ≡ true
      at_y e = and_second s.known.time _ (and_first (s.known.time && s.known.y) _ e)

      at_time : s.known.time && s.known.y && s.known.base ≡ true → s.known.time ≡ true
      at_time e = and_first s.known.time _ (and_first (s.known.time && s.known.y) _ e)

  pub trigger_answers : (w : ℕ) → Answers n (all_seen seen) (trigger_of s w) (trigger_of t w)
  unfolding trigger_of
  trigger_answers w =
      if_known (all_seen seen) _ _ s.known.time t.known.time (λ e. (h.time e).0)
      (λ e.
      ap (λ (x : ℕ). gives (trigger_row x (field 8 4 w) (field 0 1 w) ∷ [])) (h.time e).1
      ∙ ap (λ (r : Row). gives (r ∷ [])) (later_timed n 2 s.time (field 8 4 w) (field 0 1 w) 0 0 0 0 0))
      (λ e. c.time (is_low_lem seen e))
