-- All four are seen just where words of their types stand, a TIME_LOW after a TIME_HIGH.
use mathlib.Core.Path.{◌≡◌, refl, sym, ◌∙◌, ap}
use mathlib.Core.Logic.{◌⊎◌, inl, inr}
use Prim.Native.Nat.{ℕ, zero, suc, ◌<◌}
use native.Mathlib.Omega.{arith}
use mathlib.Core.Bool.{Bool, true, false, ◌&&◌, ◌||◌}
use mathlib.Core.List.{List, [], ◌∷◌}
use lib.Dec.{eqb}
use borrow.Author.Tests.{eqb-true, eq-eqb}
use Rattle.std.proofs.lemmas.Bool.{or_cases, or_right}
use Rattle.rows.proofs.Chosen.{never}
use Rattle.rows.proofs.GoodRows.{and_first, and_second}
use Rattle.words.specs.Fields.{field}
use Rattle.join.specs.declared.seen.Seen.{Seen}
use Rattle.join.specs.Promises.{Stands, FourAmong}
use Rattle.join.specs.Seen.{none_seen, seen_after, all_seen}
use Rattle.join.proofs.AllSeen.{is_low_lem, is_y_lem, is_base_lem}
use Rattle.join.proofs.Told.{told, told_kind}

abbrev type_of : ℕ → ℕ
type_of w = field 12 4 w

module _ {type w : ℕ} {ws : List ℕ} where
  here : eqb (type_of w) type ≡ true → Stands type (w ∷ ws) 0
  here e = record { within = omega arith; is = eqb-true _ _ e }

  further : {j : ℕ} → Stands type ws j → Stands type (w ∷ ws) (suc j)
  further s = record { within = omega (arith, s.within); is = s.is }

-- whether a word of a type stands among some, or stood before them
abbrev has : ℕ → Bool → List ℕ → Bool
has type before [] = before
has type before (w ∷ ws) = has type (eqb (type_of w) type || before) ws

has_more : (type : ℕ) (ws : List ℕ) → has type true ws ≡ true
has_more type [] = refl
has_more type (w ∷ ws) = ap (λ (b : Bool). has type b ws) (or_right (eqb (type_of w) type) true refl) ∙ has_more type ws

has_found : (type : ℕ) (ws : List ℕ) (before : Bool) → has type before ws ≡ true → (before ≡ true) ⊎ ((j : ℕ) × Stands type ws j)
has_found type [] before e = inl e
has_found type (w ∷ ws) before e = go (has_found type ws (eqb (type_of w) type || before) e)
  where
    go : (eqb (type_of w) type || before ≡ true) ⊎ ((j : ℕ) × Stands type ws j) → (before ≡ true) ⊎ ((j : ℕ) × Stands type (w ∷ ws) j)
    go (inl f) = elim (or_cases (eqb (type_of w) type) before f) [ inl g ↦ inr (0, here g) | inr g ↦ inl g ]
    go (inr s) = inr (suc s.0, further s.1)

has_stands : (type : ℕ) (ws : List ℕ) (before : Bool) (j : ℕ) → Stands type ws j → has type before ws ≡ true
has_stands type [] before j s = absurd (omega (arith, s.within))
has_stands type (w ∷ ws) before zero s = ap (λ (b : Bool). has type (b || before) ws) (eq-eqb _ _ s.is) ∙ has_more type ws
has_stands type (w ∷ ws) before (suc j) s = has_stands type ws (eqb (type_of w) type || before) j (record { within = omega (arith, s.within); is = s.is })

-- the same of a TIME_LOW after a TIME_HIGH
abbrev lows : Bool → Bool → List ℕ → Bool
lows high low [] = low
lows high low (w ∷ ws) = lows (eqb (type_of w) 8 || high) (eqb (type_of w) 6 && high || low) ws

lows_more : (ws : List ℕ) (high : Bool) → lows high true ws ≡ true
lows_more [] high = refl
lows_more (w ∷ ws) high =
    ap (λ (b : Bool). lows (eqb (type_of w) 8 || high) b ws) (or_right (eqb (type_of w) 6 && high) true refl) ∙ lows_more ws (eqb (type_of w) 8 || high)

-- a TIME_LOW at l, after a TIME_HIGH among the words or before them
abbrev After : Bool → List ℕ → ℕ → Type 0
After high ws l = Stands 6 ws l × ((high ≡ true) ⊎ ((h : ℕ) × Stands 8 ws h × (h < l)))

lows_found : (ws : List ℕ) (high low : Bool) → lows high low ws ≡ true → (low ≡ true) ⊎ ((l : ℕ) × After high ws l)
lows_found [] high low e = inl e
lows_found (w ∷ ws) high low e = go (lows_found ws (eqb (type_of w) 8 || high) (eqb (type_of w) 6 && high || low) e)
  where
    later : (l : ℕ) → Stands 6 ws l → (eqb (type_of w) 8 || high ≡ true) ⊎ ((h : ℕ) × Stands 8 ws h × (h < l)) → After high (w ∷ ws) (suc l)
    later l s (inl f) = (further s, elim (or_cases (eqb (type_of w) 8) high f) [ inl g ↦ inr (0, here g, omega arith) | inr g ↦ inl g ])
    later l s (inr h) = (further s, inr (suc h.0, further h.1, omega (arith, h.2)))

    go : (eqb (type_of w) 6 && high || low ≡ true) ⊎ ((l : ℕ) × After (eqb (type_of w) 8 || high) ws l) → (low ≡ true) ⊎ ((l : ℕ) × After high (w ∷ ws) l)
    go (inl f) =
        elim (or_cases (eqb (type_of w) 6 && high) low f) [
          | inl g ↦ inr (0, (here (and_first (eqb (type_of w) 6) high g), inl (and_second (eqb (type_of w) 6) high g)))
          | inr g ↦ inl g
        ]
    go (inr s) = inr (suc s.0, later s.0 s.1.0 s.1.1)

lows_known : (ws : List ℕ) (low : Bool) (l : ℕ) → Stands 6 ws l → lows true low ws ≡ true
lows_known [] low l s = absurd (omega (arith, s.within))
lows_known (w ∷ ws) low zero s =
    ap (λ (b : Bool). lows (eqb (type_of w) 8 || true) (b && true || low) ws) (eq-eqb _ _ s.is) ∙ lows_more ws (eqb (type_of w) 8 || true)
lows_known (w ∷ ws) low (suc l) s =
    ap (λ (b : Bool). lows b (eqb (type_of w) 6 && true || low) ws) (or_right (eqb (type_of w) 8) true refl)
    ∙ lows_known ws (eqb (type_of w) 6 && true || low) l (record { within = omega (arith, s.within); is = s.is })

lows_stands : (ws : List ℕ) (high low : Bool) (h l : ℕ) → Stands 8 ws h → Stands 6 ws l → h < l → lows high low ws ≡ true
lows_stands [] high low h l s t b = absurd (omega (arith, s.within))
lows_stands (w ∷ ws) high low h zero s t b = absurd (omega (arith, b))
lows_stands (w ∷ ws) high low zero (suc l) s t b =
    ap (λ (c : Bool). lows (c || high) (eqb (type_of w) 6 && high || low) ws) (eq-eqb _ _ s.is)
    ∙ lows_known ws (eqb (type_of w) 6 && high || low) l (record { within = omega (arith, t.within); is = t.is })
lows_stands (w ∷ ws) high low (suc h) (suc l) s t b =
    lows_stands ws (eqb (type_of w) 8 || high) (eqb (type_of w) 6 && high || low) h l
    (record { within = omega (arith, s.within); is = s.is }) (record { within = omega (arith, t.within); is = t.is }) (omega (arith, b))

-- what has been seen after some words, each field by itself
abbrev fields : List ℕ → Seen → Seen
fields ws seen = record { high = has 8 seen.high ws; low = lows seen.high seen.low ws; y = has 0 seen.y ws; base = has 3 seen.base ws }

after_fields : (ws : List ℕ) (seen : Seen) → seen_after seen ws ≡ fields ws seen
after_fields [] seen = refl
after_fields (w ∷ ws) seen = ap (λ (s : Seen). seen_after s ws) (sym (told_kind seen w)) ∙ after_fields ws (told seen (type_of w))

none_before : {A : Type 0} → (false ≡ true) ⊎ A → A
none_before (inl e) = never e
none_before (inr a) = a

pub four_seen : (ws : List ℕ) → all_seen (seen_after none_seen ws) ≡ true → FourAmong ws
four_seen ws e =
    let s : Seen = fields ws none_seen in
    let f : all_seen s ≡ true = sym (ap all_seen (after_fields ws none_seen)) ∙ e in
    let low = none_before (lows_found ws false false (is_low_lem s f)) in
    let high = none_before low.1.1 in
    let y = none_before (has_found 0 ws false (is_y_lem s f)) in
    let base = none_before (has_found 3 ws false (is_base_lem s f)) in
    record {
      high = high.0;
      low = low.0;
      y = y.0;
      base = base.0;
      is_high = high.1;
      is_low = low.1.0;
      is_later = high.2;
      is_y = y.1;
      is_base = base.1;
    }

pub seen_four : (ws : List ℕ) → FourAmong ws → all_seen (seen_after none_seen ws) ≡ true
seen_four ws f =
    ap all_seen (after_fields ws none_seen)
    ∙ rw (
      has_stands 8 ws false f.high f.is_high,
      lows_stands ws false false f.high f.low f.is_high f.is_low f.is_later,
      has_stands 0 ws false f.y f.is_y,
      has_stands 3 ws false f.base f.is_base,
    ) refl
