-- Words put one after the other into a sink.
use mathlib.Core.Path.{◌≡◌, refl, sym, ◌∙◌, ap, ap₂, subst}
use Prim.Native.Nat.{ℕ, ◌+◌, ◌*◌, ◌/◌, ◌≤◌, ◌<◌, min}
use native.Mathlib.Omega.{arith}
use native.Mathlib.Nat.{add-mul}
use mathlib.Core.Bool.{Bool, true, false, cond}
use mathlib.Core.List.{List, [], ◌∷◌, ◌++◌, append_assoc, append-nil}
use lib.ListN.{length, length-append}
use lib.Seq.{sets, length-sets}
use lib.Dec.{ltb}
use borrow.Author.Tests.{lt-ltb, ltb-true, ltb-false}
use Rattle.words.specs.Words.{bytes_of_all}
use Rattle.words.specs.Writer.{PutWords}
use Rattle.words.specs.Walked.{words_counted}
use Rattle.words.specs.Sinks.{room, place_after, places_after, stored, after, Put}
use Rattle.words.proofs.Writes as words

-- no place and no slice before others
places_both : (room at : ℕ) (a b : List ℕ) → places_after room at (a ++ b) ≡ places_after room (places_after room at a) b
places_both room at [] b = refl
places_both room at (w ∷ a) b = places_both room (place_after room at) a b

-- a place that has room
place_fits : (room at : ℕ) → at < room → place_after room at ≡ at + 1
place_fits room at h = rw (lt-ltb at room h) refl

pub places_fit : (room at : ℕ) (ws : List ℕ) → at + length ws ≤ room → places_after room at ws ≡ at + length ws
places_fit room at [] h = omega arith
places_fit room at (w ∷ ws) h =
    let e : place_after room at ≡ at + 1 = place_fits room at (omega (arith, h)) in
    omega (arith, places_fit room (place_after room at) ws (omega (arith, h, e)), e)

-- the places of words, as far as there are some
pub places_min : (room at : ℕ) (ws : List ℕ) → at ≤ room → places_after room at ws ≡ min (at + length ws) room
places_min room at [] h = omega (arith, h)
places_min room at (w ∷ ws) h = go (ltb at room) refl (places_min room (at + 1) ws) (places_min room at ws)
  where
    go : (t : Bool) → ltb at room ≡ t → (at + 1 ≤ room → places_after room (at + 1) ws ≡ min (at + 1 + length ws) room)
        → (at ≤ room → places_after room at ws ≡ min (at + length ws) room) → places_after room (cond t (at + 1) at) ws ≡ min (at + length (w ∷ ws)) room
    go true e more rest = omega (arith, more (omega (arith, ltb-true _ _ e)))
    go false e more rest = omega (arith, h, rest h, ltb-false _ _ e)

-- words that are counted, in two parts
pub counted_sum : (a b : List ℕ) → words_counted (a ++ b) ≡ min (words_counted a + words_counted b) 18446744073709551615
counted_sum a b =
    let all : (ws : List ℕ) → places_after 18446744073709551615 0 ws ≡ min (0 + length ws) 18446744073709551615 =
    λ ws. places_min 18446744073709551615 0 ws (omega arith) in
    omega (arith, all (a ++ b), all a, all b, length-append a b)

stored_length : (size : ℕ) (old : List ℕ) (at w : ℕ) → length (stored size old at w) ≡ length old
stored_length size old at w = go (ltb at (length old / size))
  where
    go : (t : Bool) → length (cond t (sets old (at * size) (bytes_of_all size (w ∷ []))) old) ≡ length old
    go true = length-sets old (at * size) (bytes_of_all size (w ∷ []))
    go false = refl

after_both : (k : Bool) (size : ℕ) (old : List ℕ) (at : ℕ) (a b : List ℕ)
    → after k size old at (a ++ b) ≡ after k size (after k size old at a) (places_after (room k size old) at a) b
after_both true size old at [] b = refl
after_both true size old at (w ∷ a) b =
    let same : room true size (stored size old at w) ≡ room true size old = ap (λ (n : ℕ). n / size) (stored_length size old at w) in
    after_both true size (stored size old at w) (place_after (room true size old) at) a b
    ∙ ap (λ (n : ℕ). after true size (after true size old at (w ∷ a)) (places_after n (place_after (room true size old) at) a) b) same
after_both false size old at a b = refl

-- a slice keeps its room
room_kept : (k : Bool) (size : ℕ) (old : List ℕ) (at : ℕ) (ws : List ℕ) → room k size (after k size old at ws) ≡ room k size old
room_kept true size old at [] = refl
room_kept true size old at (w ∷ ws) =
    room_kept true size (stored size old at w) (place_after (room true size old) at) ws ∙ ap (λ (n : ℕ). n / size) (stored_length size old at w)
room_kept false size old at ws = refl

module _ {size : ℕ} where
  -- none, and some after others
  pub put_none : (k : Bool) (old : List ℕ) (at : ℕ) → Put k size [] old at old at
  put_none true old at = record { place = refl; wrote = refl }
  put_none false old at = record { place = refl; wrote = refl }

  -- a sink keeps its room
  pub put_room : {k : Bool} {ws : List ℕ} {at end : ℕ} {old new : List ℕ} → Put k size ws old at new end → room k size new ≡ room k size old
  put_room {k} {ws} {at} {end} {old} h = ap (λ (l : List ℕ). room k size l) h.wrote ∙ room_kept k size old at ws

  pub put_both : {k : Bool} {a b : List ℕ} {at mid end : ℕ} {old between new : List ℕ}
      → Put k size a old at between mid → Put k size b between mid new end → Put k size (a ++ b) old at new end
  put_both {k} {a} {b} {at} {mid} {end} {old} {between} {new} h g =
      record {
        place = g.place ∙ ap₂ (λ (r n : ℕ). places_after r n b) (put_room h) h.place ∙ sym (places_both (room k size old) at a b);
        wrote = g.wrote ∙ ap₂ (λ (l : List ℕ) (n : ℕ). after k size l n b) h.wrote h.place ∙ sym (after_both k size old at a b);
      }

  -- where all have room, what is written is what the words' own promise says
  pub written_from : (old : List ℕ) (at : ℕ) (ws : List ℕ) → at + length ws ≤ length old / size
      → PutWords size ws old (at * size) (after true size old at ws) ((at + length ws) * size)
  written_from old at [] f = record { place = add-mul at 0 size; wrote = refl }
  written_from old at (w ∷ ws) f =
      let next : place_after (length old / size) at ≡ at + 1 = place_fits (length old / size) at (omega (arith, f)) in
      let one : PutWords size (w ∷ []) old (at * size) (stored size old at w) ((at + 1) * size) =
      record { place = add-mul at 1 size; wrote = rw (lt-ltb at (length old / size) (omega (arith, f))) refl } in
      let more : PutWords size ws (stored size old at w) ((at + 1) * size) (after true size (stored size old at w) (at + 1) ws) ((at + 1 + length ws) * size) =
      written_from (stored size old at w) (at + 1) ws (omega (arith, f, ap (λ (n : ℕ). n / size) (stored_length size old at w))) in
      let end : at + 1 + length ws ≡ at + length (w ∷ ws) = omega arith in
      subst (λ (n : ℕ). PutWords size (w ∷ ws) old (at * size) (after true size (stored size old at w) n ws) ((at + length (w ∷ ws)) * size)) (sym next)
      (subst (λ (n : ℕ). PutWords size (w ∷ ws) old (at * size) (after true size (stored size old at w) (at + 1) ws) (n * size)) end (words.put_both one more))

  pub written : {ws old new : List ℕ} {at r : ℕ} → at + length ws ≤ room true size old → Put true size ws old at new r → PutWords size ws old (at * size) new (r * size)
  written {ws} {old} {new} {at} f h =
      let all = written_from old at ws f in
      record { place = ap (λ (n : ℕ). n * size) (h.place ∙ places_fit (room true size old) at ws f) ∙ all.place; wrote = h.wrote ∙ all.wrote }

  -- words that have room and were stored
  pub put_stored : {ws old new : List ℕ} {at r : ℕ} → at + length ws ≤ room true size old
      → new ≡ sets old (at * size) (bytes_of_all size ws) → r ≡ at + length ws → Put true size ws old at new r
  put_stored {ws} {old} {new} {at} f b e = record { place = e ∙ sym (places_fit (room true size old) at ws f); wrote = b ∙ sym (written_from old at ws f).wrote }

-- of all the words `ws`, put from the place `from` on, those before `rest` are in the sink, and `at` is the place after them
pub record Puts (k : Bool) (size : ℕ) (ws old : List ℕ) (from : ℕ) (rest : List ℕ) (at : ℕ) (buf : List ℕ) : Type 0 where
  pub done : List ℕ
  pub same : ws ≡ done ++ rest
  pub put : Put k size done old from buf at

module _ {size : ℕ} where
  pub puts_start : {k : Bool} (ws old : List ℕ) (from : ℕ) → Puts k size ws old from ws from old
  puts_start {k} ws old from = record { done = []; same = refl; put = put_none k old from }

  module _ {k : Bool} {ws old : List ℕ} {from : ℕ} where
    pub puts_more : (new : List ℕ) {rest : List ℕ} {at at' : ℕ} {buf buf' : List ℕ} → Puts k size ws old from (new ++ rest) at buf
        → Put k size new buf at buf' at' → Puts k size ws old from rest at' buf'
    puts_more new {rest} h p =
        record { done = h.done ++ new; same = h.same ∙ sym (append_assoc h.done new rest); put = put_both h.put p }

    -- the next words have room where all have
    pub puts_fit : (new rest : List ℕ) {at : ℕ} {buf : List ℕ} → Puts k size ws old from (new ++ rest) at buf → from + length ws ≤ room k size old
        → at + length new ≤ room k size buf
    puts_fit new rest {at} {buf} h f =
        let all : length ws ≡ length h.done + (length new + length rest) =
        ap length h.same ∙ length-append h.done (new ++ rest) ∙ ap (λ (n : ℕ). length h.done + n) (length-append new rest) in
        omega (arith, f, put_room h.put, h.put.place, places_fit (room k size old) from h.done (omega (arith, f, all)), all)

    pub last_fit : (new : List ℕ) {at : ℕ} {buf : List ℕ} → Puts k size ws old from new at buf → from + length ws ≤ room k size old
        → at + length new ≤ room k size buf
    last_fit new {at} {buf} h f = puts_fit new [] (subst (λ (l : List ℕ). Puts k size ws old from l at buf) (sym (append-nil new)) h) f

    -- the last words
    pub last_put : (new : List ℕ) {at end : ℕ} {buf buf' : List ℕ} → Puts k size ws old from new at buf → Put k size new buf at buf' end
        → Put k size ws old from buf' end
    last_put new {at} {end} {buf} {buf'} h p =
        subst (λ (l : List ℕ). Put k size l old from buf' end) (sym h.same) (put_both h.put p)
