-- What a word does, by its kind.
use mathlib.Core.Path.{◌≡◌, refl, ap}
use Prim.Native.Nat.{ℕ}
use mathlib.Core.Bool.{Bool, true, false, cond}
use lib.Dec.{eqb}
use Rattle.std.specs.Prelude.{Option, Some, None, is_some}
use Rattle.words.specs.declared.picture.Picture.{Picture}
use Rattle.words.specs.Fields.{field}
use Rattle.words.specs.Machine.{onto}
use Rattle.evt2.specs.declared.group.Group.{Group}
use Rattle.evt2.specs.declared.kind.Kind.{Kind}
use Rattle.evt2.specs.declared.kind.Kind.TheVariants.{Cd, TimeHigh, ExtTrigger, ImuEvt, Others, Continued, Reserved, Inside}
use Rattle.evt2.specs.declared.state.State.{State}
use Rattle.evt2.specs.State.{pending}
use Rattle.evt2.specs.Words.{kind_at, kind_of, kind_within, kind_in, given_as, next_as, step}

pub at_kind_lem : (p : Picture) (s : State) (place w : ℕ) {k : Kind} → kind_in s w ≡ k → step p s place w ≡ onto (given_as k p s w) (next_as k s place w)
unfolding step
at_kind_lem p s place w e = ap (λ (k : Kind). onto (given_as k p s w) (next_as k s place w)) e

-- outside a group its type decides
outside_lem : (group : Option Group) (w : ℕ) → is_some group ≡ false → kind_within group w ≡ kind_at (field 28 4 w)
unfolding kind_of
outside_lem None w out = refl
outside_lem (Some g) w out = absurd (cc)

pub kind_outside : (s : State) (w : ℕ) → pending s ≡ false → kind_in s w ≡ kind_at (field 28 4 w)
unfolding kind_in
kind_outside s w out = outside_lem s.group w out

-- a property of the group in hand holds of the group that a word's kind names
module _ (P : Group → Type 0) where
  abbrev pub InHand : Option Group → Type 0
  InHand None = Unit {0}
  InHand (Some g) = P g

  abbrev pub InKind : Kind → Type 0
  InKind Cd = Unit {0}
  InKind TimeHigh = Unit {0}
  InKind ExtTrigger = Unit {0}
  InKind ImuEvt = Unit {0}
  InKind Others = Unit {0}
  InKind Continued = Unit {0}
  InKind Reserved = Unit {0}
  InKind (Inside g) = P g

  either : (t : Bool) (a b : Kind) → InKind a → InKind b → InKind (cond t a b)
  either true a b h g = h
  either false a b h g = g

  type_in_kind : (top : ℕ) → InKind (kind_at top)
  type_in_kind top =
      either (eqb top 0) Cd _ tt
      (either (eqb top 1) Cd _ tt
      (either (eqb top 8) TimeHigh _ tt
      (either (eqb top 10) ExtTrigger _ tt
      (either (eqb top 13) ImuEvt _ tt
      (either (eqb top 14) Others _ tt
      (either (eqb top 15) Continued Reserved tt tt))))))

  within_in_kind : (group : Option Group) (w : ℕ) → InHand group → InKind (kind_within group w)
  unfolding kind_of
  within_in_kind None w h = type_in_kind (field 28 4 w)
  within_in_kind (Some g) w h = h

  pub hand_in_kind : (s : State) (w : ℕ) → InHand s.group → InKind (kind_in s w)
  unfolding kind_in
  hand_in_kind s w h = within_in_kind s.group w h
