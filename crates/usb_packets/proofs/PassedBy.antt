-- Today's reader keeps up with the one before: it passes over the words of packets, and does the same with every other.
use mathlib.Core.Path.{◌≡◌, refl, sym, ◌∙◌, ap, subst}
use mathlib.Core.Logic.{◌⊎◌, inl, inr}
use Prim.Native.Nat.{ℕ}
use mathlib.Core.Bool.{Bool, true, false, not, cond, ◌&&◌, ◌||◌}
use mathlib.Core.List.{List, [], ◌∷◌}
use lib.Dec.{eqb}
use borrow.Author.Tests.{eqb-true}
use Rattle.rows.specs.declared.fault.Fault.TheVariants.{Stray}
use Rattle.rows.specs.declared.row.Row.{Row}
use Rattle.rows.specs.Row.{only}
use Rattle.rows.specs.Rules.{good_row}
use Rattle.rows.proofs.Chosen.{never}
use Rattle.rows.proofs.GoodRows.{and_first, and_second, plain_good}
use Rattle.rows.proofs.Kept.{five_refused}
use Rattle.rows.proofs.Only.{only_good}
use Rattle.words.specs.declared.picture.Picture.{Picture}
use Rattle.words.specs.Fields.{field}
use Rattle.words.specs.Machine.{Outcome, next, fault, KeepsUp}
use Rattle.words.proofs.KeptUp.{Along, along_keeps}
use Rattle.evt2.specs.declared.state.State.{State}
use Rattle.evt2.specs.State.{fresh, pending}
use Rattle.evt2.specs.Words.{step}
use Rattle.evt2.specs.Reader.{machine}
use Rattle.evt2_laws.proofs.GoodRead.{Limits, fresh_limits, machine_keeps}
use Rattle.evt2_laws.proofs.Kept.{passed_over}
use Rattle.usb_packets.specs.Before.{Before, fresh_before, in_packet, packet_of, begins, packet_begun, packet_further, packet_step, with_today, step_before, machine_before}
use Rattle.usb_packets.specs.Promises.{not_five}

-- what holds of a state before: no packet was in hand inside a group
pub record Fine (s : Before) : Type 0 where
  pub outside : in_packet s ≡ true → pending s.today ≡ false
  pub limits : Limits s.today

-- today's reader knows the same, but for the packet
pub record Alike (s : Before) (t : State) : Type 0 where
  pub today : s.today ≡ t
  pub fine : Fine s

pub fresh_alike : Alike fresh_before fresh
fresh_alike = record { today = refl; fine = record { outside = λ e. refl; limits = fresh_limits } }

-- no good row is left out
good_kept : (r : Row) → good_row r ≡ true → not_five r ≡ true
good_kept r g = go (eqb r.kind 5) refl
  where
    go : (t : Bool) → eqb r.kind 5 ≡ t → not t ≡ true
    go true e = sym (five_refused r (eqb-true _ _ e)) ∙ g
    go false e = refl

module _ (p : Picture) (s : Before) (place w : ℕ) (h : Fine s) where
  -- today's reader takes the word too, if it was taken
  abbrev Taken : Outcome Before → Type 0
  Taken o = Along (machine p) not_five Alike o s.today place w

  -- it passes over a word of a packet
  passed : (s' : Before) (new : List Row) → pending s.today ≡ false → (field 28 4 w ≡ 14) ⊎ (field 28 4 w ≡ 15) → s'.today ≡ s.today
      → only not_five new ≡ [] → Taken (next s' new)
  passed s' new out is same none =
      record {
        state = s.today;
        step = passed_over p s.today place w out is ∙ ap (next s.today) (sym none);
        holds = record { today = same; fine = record { outside = λ k. rw same out; limits = rw same h.limits } };
      }

  inside : in_packet s ≡ true → Taken (packet_step s w)
  inside is = go (eqb (field 28 4 w) 15) refl
    where
      given : Bool → List Row
      given last = cond last (packet_of s.a s.b s.c w ∷ []) []

      none : (last : Bool) → only not_five (given last) ≡ []
      none true = refl
      none false = refl

      go : (t : Bool) → eqb (field 28 4 w) 15 ≡ t → Taken (cond t (next (packet_further s w) (given (eqb s.left 1))) (fault Stray))
      go true e = passed (packet_further s w) (given (eqb s.left 1)) (h.outside is) (inr (eqb-true _ _ e)) refl (none (eqb s.left 1))
      go false e = tt

  first : begins s w ≡ true → Taken (next (packet_begun s place) [])
  first is =
      let others = and_first (eqb (field 28 4 w) 14) _ (and_first _ (not (pending s.today)) is) in
      let out = outside (pending s.today) (and_second (eqb (field 28 4 w) 14 && eqb (field 0 16 w) 0xFE) _ is) in
      passed (packet_begun s place) [] out (inl (eqb-true _ _ others)) refl refl
    where
      outside : (t : Bool) → not t ≡ true → t ≡ false
      outside true e = sym e
      outside false e = refl

  -- it does the same with any other, and gives the same rows, which are good
  other : in_packet s ≡ false → Taken (with_today s (step p s.today place w))
  other is = go (step p s.today place w) refl
    where
      go : (o : Outcome State) → step p s.today place w ≡ o → Taken (with_today s o)
      go (fault f) e = tt
      go (next t new) e =
          let kept = (machine_keeps p).step s.today place w t new h.limits e in
          record {
            state = t;
            step = e ∙ ap (next t) (sym (only_good not_five good_kept new (plain_good new kept.1)));
            holds = record { today = refl; fine = record { outside = λ k. never (sym is ∙ k); limits = kept.0 } };
          }

  taken : Taken (step_before p s place w)
  taken = go (in_packet s) refl (begins s w) refl
    where
      go : (t : Bool) → in_packet s ≡ t → (u : Bool) → begins s w ≡ u
          → Taken (cond t (packet_step s w) (cond u (next (packet_begun s place) []) (with_today s (step p s.today place w))))
      go true e u f = inside e
      go false e true f = first f
      go false e false f = other e

pub keeps_up : (p : Picture) → KeepsUp (machine_before p) (machine p) not_five Alike
keeps_up p =
    along_keeps (machine p) not_five Alike (machine_before p) refl
    (λ s t place w a. subst (λ (q : State). Along (machine p) not_five Alike (step_before p s place w) q place w) a.today (taken p s place w a.fine))
    (λ s t a e. subst (λ (q : State). pending q ≡ false) a.today (none s (in_packet s) e))
  where
    none : (s : Before) (t : Bool) → t || pending s.today ≡ false → pending s.today ≡ false
    none s true e = never (sym e)
    none s false e = e
