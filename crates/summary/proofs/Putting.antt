-- Bytes put after bytes: words, and a byte before them.
use mathlib.Core.Path.{◌≡◌, refl, sym, ◌∙◌, ap}
use Prim.Native.Nat.{ℕ, ◌+◌, ◌%◌, ◌<◌}
use native.Mathlib.Omega.{arith}
use mathlib.Core.List.{List, [], ◌∷◌, ◌++◌, append-nil}
use lib.ListN.{length, set, length-append}
use lib.Seq.{sets, length-sets}
use Rattle.rows.proofs.Stored.{sets_append}
use Rattle.words.specs.Words.{bytes_of, bytes_of_all}
use Rattle.words.specs.Writer.{PutWords}
use Rattle.words.proofs.Writes.{all_length}
use Rattle.summary.specs.Writer.{Puts}

module _ {old new : List ℕ} {at end : ℕ} where
  pub puts_words : {size : ℕ} {ws : List ℕ} → PutWords size ws old at new end → Puts (bytes_of_all size ws) old at new end
  puts_words {size} {ws} p = record { place = omega (arith, p.place, all_length size ws); wrote = p.wrote }

  pub puts_word : {size w : ℕ} → PutWords size (w ∷ []) old at new end → Puts (bytes_of size w) old at new end
  puts_word {size} {w} p =
      let one : bytes_of_all size (w ∷ []) ≡ bytes_of size w = append-nil (bytes_of size w) in
      record { place = omega (arith, p.place, all_length size (w ∷ []), ap length one); wrote = p.wrote ∙ ap (sets old at) one }

  pub puts_long : {bytes : List ℕ} → Puts bytes old at new end → length new ≡ length old
  puts_long {bytes} p = ap length p.wrote ∙ length-sets old at bytes

  pub puts_then : {a b mid : List ℕ} {k : ℕ} → Puts a old at mid k → Puts b mid k new end → Puts (a ++ b) old at new end
  puts_then {a} {b} {mid} {k} p q =
      record {
        place = omega (arith, p.place, q.place, length-append a b);
        wrote = q.wrote ∙ ap (λ (o : List ℕ). sets o k b) p.wrote ∙ ap (λ (i : ℕ). sets (sets old at a) i b) p.place ∙ sym (sets_append a b old at);
      }

pub puts_byte : (old : List ℕ) (at byte : ℕ) → byte < 256 → Puts (bytes_of 1 byte) old at (set old at byte) (at + 1)
unfolding bytes_of
puts_byte old at byte h = let same : byte ≡ byte % 256 = omega arith in record { place = refl; wrote = ap (set old at) same }

-- what a field begins with
pub head_length : (tag size : ℕ) → length (bytes_of 1 tag ++ bytes_of 2 size) ≡ 3
unfolding bytes_of
head_length tag size = refl
