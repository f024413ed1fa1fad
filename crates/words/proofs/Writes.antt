-- The invariant of a loop that writes words, over any format, and what each function that writes some of them has done.
use mathlib.Core.Path.{◌≡◌, refl, sym, ◌∙◌, ap, ap₂, subst}
use Prim.Native.Nat.{ℕ, ◌+◌, ◌-◌, ◌*◌, ◌≤◌}
use native.Mathlib.Omega.{arith}
use native.Mathlib.Nat.{add-mul}
use mathlib.Core.List.{List, [], ◌∷◌, ◌++◌, append_assoc, append-nil}
use lib.ListN.{length, take, length-append}
use lib.Seq.{sets, length-sets}
use borrow.Rule.Slice.PartMut.{put_mid}
use Rattle.std.specs.Int.{w64, to_le_bytes}
use Rattle.rows.proofs.Stored.{part_written, sets_append}
use Rattle.words.specs.Words.{bytes_of, bytes_of_all}
use Rattle.words.specs.Writer.{PutWords}
use Rattle.words.proofs.Bytes.{bytes_length, lowest}

-- the bytes of words: how many, and of one list of words after another
pub all_length : (size : ℕ) (ws : List ℕ) → length (bytes_of_all size ws) ≡ length ws * size
all_length size [] = omega arith
all_length size (w ∷ ws) = omega (arith, length-append (bytes_of size w) (bytes_of_all size ws), bytes_length size w, all_length size ws, add-mul 1 (length ws) size)

all_append : (size : ℕ) (a b : List ℕ) → bytes_of_all size (a ++ b) ≡ bytes_of_all size a ++ bytes_of_all size b
all_append size [] b = refl
all_append size (w ∷ a) b = ap (λ (l : List ℕ). bytes_of size w ++ l) (all_append size a b) ∙ sym (append_assoc (bytes_of size w) (bytes_of_all size a) (bytes_of_all size b))

-- no word
pub put_none : (size : ℕ) (old : List ℕ) (at : ℕ) → PutWords size [] old at old at
put_none size old at = record { place = omega arith; wrote = refl }

-- one word, of the lowest bytes of a number
pub put_lowest : (size w at : ℕ) {k j : ℕ} {old held bytes : List ℕ} → size ≤ 8 → at + size ≤ length old → k ≡ size → j ≡ size
    → bytes ≡ to_le_bytes w64 w → held ≡ take j bytes → PutWords size (w ∷ []) old at (put_mid at (at + k - at) old held) (at + k)
put_lowest size w at {k} {j} {old} {held} {bytes} small fits e f b h =
    let own : held ≡ bytes_of size w = h ∙ ap₂ take f b ∙ lowest size w small in
    record {
      place = omega (arith, e);
      wrote =
          part_written old at (at + k - at) held (bytes_of size w) own (omega (arith, e, bytes_length size w)) (omega (arith, fits, bytes_length size w))
          ∙ ap (sets old at) (sym (append-nil (bytes_of size w)));
    }

-- some words after others
pub put_both : {size : ℕ} {a b : List ℕ} {at mid end : ℕ} {old between new : List ℕ}
    → PutWords size a old at between mid → PutWords size b between mid new end → PutWords size (a ++ b) old at new end
put_both {size} {a} {b} {at} {mid} {end} {old} {between} {new} h g =
    let here : at + length (bytes_of_all size a) ≡ mid = omega (arith, h.place, all_length size a) in
    record {
      place = omega (arith, h.place, g.place, ap (λ (n : ℕ). n * size) (length-append a b), add-mul (length a) (length b) size);
      wrote =
          g.wrote
          ∙ ap (λ (l : List ℕ). sets l mid (bytes_of_all size b)) h.wrote
          ∙ ap (λ (k : ℕ). sets (sets old at (bytes_of_all size a)) k (bytes_of_all size b)) (sym here)
          ∙ sym (sets_append (bytes_of_all size a) (bytes_of_all size b) old at)
          ∙ ap (sets old at) (sym (all_append size a b));
    }

pub put_length : {size : ℕ} {ws : List ℕ} {at end : ℕ} {old new : List ℕ} → PutWords size ws old at new end → length new ≡ length old
put_length {size} {ws} {at} {end} {old} h = ap length h.wrote ∙ length-sets old at (bytes_of_all size ws)

-- of all the words `ws`, written from the place `from` on, those before `rest` are in the buffer, and `at` is the place after them
pub record Writes (size : ℕ) (ws old : List ℕ) (from : ℕ) (rest : List ℕ) (at : ℕ) (buf : List ℕ) : Type 0 where
  pub done : List ℕ
  pub same : ws ≡ done ++ rest
  pub put : PutWords size done old from buf at

pub writes_start : (size : ℕ) (ws old : List ℕ) (from : ℕ) → Writes size ws old from ws from old
writes_start size ws old from = record { done = []; same = refl; put = put_none size old from }

module _ {size : ℕ} {ws old : List ℕ} {from : ℕ} where
  pub writes_length : {rest : List ℕ} {at : ℕ} {buf : List ℕ} → Writes size ws old from rest at buf → length buf ≡ length old
  writes_length h = put_length h.put

  -- the next words have room where all have
  pub writes_fit : (new rest : List ℕ) {at : ℕ} {buf : List ℕ} → Writes size ws old from (new ++ rest) at buf → from + length ws * size ≤ length old
      → at + length new * size ≤ length buf
  writes_fit new rest {at} {buf} h f =
      let all : length ws ≡ length h.done + (length new + length rest) = ap length h.same ∙ length-append h.done (new ++ rest) ∙ ap (λ (n : ℕ). length h.done + n) (length-append new rest) in
      omega (arith, f, writes_length h, h.put.place, ap (λ (n : ℕ). n * size) all, add-mul (length h.done) (length new + length rest) size, add-mul (length new) (length rest) size)

  pub writes_more : (new : List ℕ) {rest : List ℕ} {at at' : ℕ} {buf buf' : List ℕ} → Writes size ws old from (new ++ rest) at buf → PutWords size new buf at buf' at'
      → Writes size ws old from rest at' buf'
  writes_more new {rest} h p = record { done = h.done ++ new; same = h.same ∙ sym (append_assoc h.done new rest); put = put_both h.put p }

  pub writes_done : {at : ℕ} {buf : List ℕ} → Writes size ws old from [] at buf → PutWords size ws old from buf at
  writes_done {at} {buf} h = subst (λ (l : List ℕ). PutWords size l old from buf at) (sym (append-nil h.done) ∙ sym h.same) h.put
