-- One word, read by a reader that joined and by the full reader n wraps ahead of it: where the full reader is not refused, the other is not,
-- what it knows stays behind in the same way, and its rows agree.
use mathlib.Core.Path.{◌≡◌, refl, sym, ◌∙◌, ap, subst}
use mathlib.Core.Logic.{inl, inr}
use Prim.Native.Nat.{ℕ, ◌+◌}
use native.Mathlib.Omega.{arith}
use mathlib.Core.Bool.{Bool, true, false}
use mathlib.Core.List.{List, [], map}
use Rattle.rows.specs.declared.fault.Fault.TheVariants as refusal
use Rattle.rows.specs.declared.row.Row.{Row}
use Rattle.words.specs.declared.picture.Picture.{Picture}
use Rattle.words.specs.Fields.{field}
use Rattle.std.proofs.lemmas.Bool.{both_ways}
use Rattle.words.specs.Machine.{Outcome, next, Given, gives, refuses, refused_if, onto}
use Rattle.evt3.specs.declared.kind.Kind.{Kind}
use Rattle.evt3.specs.declared.kind.Kind.TheVariants.{AddrY, AddrX, VectBaseX, Vect12, Vect8, TimeLow}
use Rattle.evt3.specs.declared.kind.Kind.TheVariants.{Continued4, TimeHigh, ExtTrigger, Others, Continued12, Reserved}
use Rattle.evt3.specs.declared.state.State.{State}
use Rattle.evt3.specs.State.{with_high}
use Rattle.evt3.specs.Words.{wraps_at, bad_high, time_high, pixel_of, vector_of, trigger_of, step_as}
use Rattle.join.specs.declared.seen.Seen.{Seen}
use Rattle.join.specs.Join.{later, Agrees}
use Rattle.join.specs.Seen.{seen_with, all_seen}
use Rattle.join.proofs.Answers.{Answers, same, none, pixel_answers, vector_answers, trigger_answers}
use Rattle.join.proofs.Behind.{Behind, high_behind, y_behind, base_behind, low_behind, moved_behind}
use Rattle.join.proofs.Behind.{Covers, high_covers, y_covers, base_covers, low_covers, moved_covers}
use Rattle.join.proofs.HighParts.{wraps_apart, not_bad, first_wraps, first_good}

-- what the joined reader did at the word, where the full reader came to t and gave `full`
pub record Stepped (n : ℕ) (sure : Bool) (seen : Seen) (o : Outcome State) (t : State) (full : List Row) : Type 0 where
  pub state : State
  pub joined : List Row
  pub step : o ≡ next state joined
  pub behind : Behind n state t
  pub covers : Covers seen state
  pub agrees : Agrees n sure joined full

-- what two outcomes that are the same have the same
module _ {S : Type 0} {s t : S} {a b : List Row} (e : next s a ≡ next t b) where
  same_state : s ≡ t
  same_state = cc

  same_rows : a ≡ b
  same_rows = cc

same_given : {x y : List Row} → gives x ≡ gives y → x ≡ y
same_given e = cc

-- from what a word gives to all that it does
module _ {n : ℕ} {sure : Bool} {seen : Seen} {s t : State} (h : Behind n s t) (c : Covers seen s) {t' : State} {new : List Row} where
  stepped : (joined full : Given) → Answers n sure joined full → onto full t ≡ next t' new → Stepped n sure seen (onto joined s) t' new
  stepped joined (refuses f) a e = absurd cc
  stepped (refuses f) (gives l) (same a) e = absurd cc
  stepped (gives rs) (gives l) (same a) e =
      let agree : new ≡ map (later n) rs = sym (same_rows e) ∙ same_given a in
      record {
        state = s;
        joined = rs;
        step = refl;
        behind = subst (Behind n s) (same_state e) h;
        covers = c;
        agrees = record { given = inr agree; all = λ _. agree };
      }
  stepped joined (gives l) (none a f) e =
      record {
        state = s;
        joined = [];
        step = ap (λ (g : Given). onto g s) a;
        behind = subst (Behind n s) (same_state e) h;
        covers = c;
        agrees = record { given = inl refl; all = λ q. absurd (both_ways sure f q) };
      }

-- EVT_TIME_HIGH. If it is the first that is seen, n is the wrap count that the full reader comes to
module _ {n : ℕ} (sure : Bool) {seen : Seen} {s t : State} (h : Behind n s t) (c : Covers seen s) (w : ℕ) (t' : State) (new : List Row) where
  abbrev high : ℕ
  high = field 0 12 w

  abbrev HighStepped : Type 0
  HighStepped = Stepped n sure (seen_with TimeHigh seen) (time_high s w) t' new

  -- neither is refused
  taken : bad_high s high ≡ false → wraps_at t high ≡ wraps_at s high + n → next (with_high t high (wraps_at t high)) [] ≡ next t' new → HighStepped
  taken good apart e =
      record {
        state = with_high s high (wraps_at s high);
        joined = [];
        step = ap (λ (b : Bool). onto (refused_if b refusal.BadTime) (with_high s high (wraps_at s high))) good;
        behind = subst (Behind n (with_high s high (wraps_at s high))) (same_state e) (high_behind h high (wraps_at s high) (wraps_at t high) apart);
        covers = high_covers c high (wraps_at s high);
        agrees = record { given = inl refl; all = λ _. sym (same_rows e) };
      }

  unseen : (b : Bool) → (b ≡ true → s.known.high ≡ true) → s.known.high ≡ false → b ≡ false
  unseen true f e = absurd (both_ways s.known.high e (f refl))
  unseen false f e = refl

  high_stepped : (seen.high ≡ false → n ≡ t'.wraps) → time_high t w ≡ next t' new → HighStepped
  high_stepped first e = go (bad_high t high) refl e
    where
      -- the joined reader knows a high part, which is the other's; or this is its first
      known : (a : Bool) → s.known.high ≡ a → bad_high t high ≡ false → next (with_high t high (wraps_at t high)) [] ≡ next t' new → HighStepped
      known true is good e =
          taken (not_bad n s t high ((h.high is).0 ∙ sym is) (h.high is).1 (h.high is).2 good)
          (wraps_apart n s t high ((h.high is).0 ∙ sym is) (h.high is).1 (h.high is).2) e
      known false is good e =
          let came : wraps_at t high ≡ t'.wraps = ap (λ (r : State). r.wraps) (same_state e) in
          taken (first_good s high is (h.start is).1)
          (omega (arith, came, first (unseen seen.high c.high is), first_wraps s high is, (h.start is).1)) e

      go : (b : Bool) → bad_high t high ≡ b → onto (refused_if b refusal.BadTime) (with_high t high (wraps_at t high)) ≡ next t' new → HighStepped
      go true bad g = absurd cc
      go false good g = known s.known.high refl good g

module _ {n : ℕ} {seen : Seen} {s t : State} (h : Behind n s t) (c : Covers seen s) {t' : State} {new : List Row} where
  -- a word of each kind
  pub kind_stepped : (k : Kind) (p : Picture) (w : ℕ) → ((seen_with k seen).high ≡ true → seen.high ≡ false → n ≡ t'.wraps)
      → step_as k p t w ≡ next t' new → Stepped n (all_seen seen) (seen_with k seen) (step_as k p s w) t' new
  kind_stepped TimeHigh p w first e = high_stepped (all_seen seen) h c w t' new (first refl) e
  kind_stepped TimeLow p w first e = stepped (low_behind h (field 0 12 w)) (low_covers c (field 0 12 w)) (gives []) (gives []) (same refl) e
  kind_stepped AddrY p w first e =
      stepped (y_behind h (field 0 11 w) (field 11 1 w)) (y_covers c (field 0 11 w) (field 11 1 w)) (gives []) (gives []) (same refl) e
  kind_stepped VectBaseX p w first e =
      stepped (base_behind h (field 0 11 w) (field 11 1 w)) (base_covers c (field 0 11 w) (field 11 1 w)) (gives []) (gives []) (same refl) e
  kind_stepped AddrX p w first e = stepped h c (pixel_of p s w) (pixel_of p t w) (pixel_answers h c p w) e
  kind_stepped Vect12 p w first e =
      stepped (moved_behind h 12) (moved_covers c 12) (vector_of p s (field 0 12 w)) (vector_of p t (field 0 12 w)) (vector_answers h c p (field 0 12 w)) e
  kind_stepped Vect8 p w first e =
      stepped (moved_behind h 8) (moved_covers c 8) (vector_of p s (field 0 8 w)) (vector_of p t (field 0 8 w)) (vector_answers h c p (field 0 8 w)) e
  kind_stepped ExtTrigger p w first e = stepped h c (trigger_of s w) (trigger_of t w) (trigger_answers h c w) e
  kind_stepped Continued4 p w first e = stepped h c (gives []) (gives []) (same refl) e
  kind_stepped Others p w first e = stepped h c (gives []) (gives []) (same refl) e
  kind_stepped Continued12 p w first e = stepped h c (gives []) (gives []) (same refl) e
  kind_stepped Reserved p w first e = absurd cc
