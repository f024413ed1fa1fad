-- The invariant of the loop that looks for the place, and how each word keeps or ends it.
use mathlib.Core.Path.{◌≡◌, refl, sym, ◌∙◌, ap}
use Prim.Native.Nat.{ℕ, ◌+◌, ◌-◌, ◌≤◌, ◌<◌}
use native.Mathlib.Omega.{arith}
use mathlib.Core.Bool.{Bool, true, false, cond}
use mathlib.Core.List.{List, [], ◌∷◌}
use lib.ListN.{length, take, drop, length-drop}
use lib.Seq.{drop-drop}
use lib.Dec.{lit<}
use Rattle.std.specs.Prelude.{Some, None}
use Rattle.rows.proofs.Lists.{part_rest}
use Rattle.words.specs.Words.{value, Words, cut_by, words_of}
use Rattle.words.proofs.Cut.{words_one}
use Rattle.evt3.specs.Words.{kind_of}
use Rattle.join.specs.declared.seen.Seen.{Seen}
use Rattle.join.specs.Seen.{seen_with, all_seen, whole_in, whole_from}

-- what is looked for is what is found from here on
pub record Looking (bytes : List ℕ) (seen : Seen) (at : ℕ) : Type 0 where
  pub same : whole_from bytes ≡ whole_in (words_of 2 (drop at bytes)) seen at
  pub within : at ≤ length bytes

-- a part of a word is no word
whole_short : (l : List ℕ) (seen : Seen) (at : ℕ) → length l < 2 → whole_in (words_of 2 l) seen at ≡ None
unfolding words_of cut_by
whole_short [] seen at h = refl
whole_short (a ∷ []) seen at h = refl
whole_short (a ∷ b ∷ l) seen at h = absurd (omega arith)

-- `part` are the bytes that are left
module _ {bytes : List ℕ} {seen : Seen} {at : ℕ} (h : Looking bytes seen at) where
  abbrev part : List ℕ
  part = take (length bytes - at) (drop at bytes)

  left : part ≡ drop at bytes
  left = part_rest at bytes

  pub looks_no_more : length part < 2 → None ≡ whole_from bytes
  looks_no_more e = sym (h.same ∙ whole_short (drop at bytes) seen at (omega (arith, ap length left)))

  -- a word w is next, with which s' has been seen
  module _ (e : 2 ≤ length part) where
    pub word_in : at + 2 ≤ length bytes
    word_in = omega (arith, ap length left, length-drop at bytes)

    module _ {w : ℕ} (f : w ≡ value (take 2 part)) {s' : Seen} (r : s' ≡ seen_with (kind_of w) seen) where
      at_word_lem : (t : Bool) → all_seen s' ≡ t → whole_from bytes ≡ cond t (Some (at + 2)) (whole_in (words_of 2 (drop (at + 2) bytes)) s' (at + 2))
      at_word_lem t g =
          h.same
          ∙ ap (λ (ws : Words). whole_in ws seen at) (words_one 2 (lit< tt) (drop at bytes) (omega (arith, ap length left)))
          ∙ ap (λ (l : List ℕ). whole_in (Words.word (value (take 2 (drop at bytes))) (words_of 2 l)) seen at) (drop-drop 2 at bytes)
          ∙ ap (λ (s : Seen). cond (all_seen s) (Some (at + 2)) (whole_in (words_of 2 (drop (at + 2) bytes)) s (at + 2)))
          (ap (λ (v : ℕ). seen_with (kind_of v) seen) (sym (f ∙ ap (λ (l : List ℕ). value (take 2 l)) left)) ∙ sym r)
          ∙ ap (λ (b : Bool). cond b (Some (at + 2)) (whole_in (words_of 2 (drop (at + 2) bytes)) s' (at + 2))) g

      pub seen_all : all_seen s' ≡ true → Some (at + 2) ≡ whole_from bytes
      seen_all g = sym (at_word_lem true g)

      pub looks_on : all_seen s' ≡ false → Looking bytes s' (at + 2)
      looks_on g = record { same = at_word_lem false g; within = word_in }
