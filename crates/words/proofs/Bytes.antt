-- The bytes of a word: stored, and read again.
use mathlib.Core.Path.{◌≡◌, refl, ◌∙◌, ap, ap₂}
use Prim.Native.Nat.{ℕ, zero, suc, ◌+◌, ◌-◌, ◌*◌, ◌/◌, ◌%◌, ◌^◌, ◌≤◌, ◌<◌}
use native.Mathlib.Omega.{arith}
use native.Mathlib.Nat.{pow-suc, suc-add}
use mathlib.Core.List.{List, [], ◌∷◌, ◌++◌, append_assoc}
use lib.ListN.{length, take, length-append}
use lib.Seq.{take_at, drop_at}
use Rattle.std.specs.Int.{w64, to_le_bytes}
use Rattle.words.specs.Words.{value, word, words_of, bytes_of, bytes_of_all}
use Rattle.words.specs.Promises.{Small, before}
use Rattle.words.proofs.Cut.{words_one}

pub bytes_length : (k w : ℕ) → length (bytes_of k w) ≡ k
unfolding bytes_of
bytes_length zero w = refl
bytes_length (suc k) w = ap suc (bytes_length k (w / 256))

-- the lowest bytes of eight, as std has them
eight : (w : ℕ) → to_le_bytes w64 w ≡ bytes_of 8 w
unfolding bytes_of
eight w =
    let b₂ : w / 65536 ≡ w / 256 / 256 = omega arith in
    let b₃ : w / 16777216 ≡ w / 256 / 256 / 256 = omega arith in
    let b₄ : w / 4294967296 ≡ w / 256 / 256 / 256 / 256 = omega arith in
    let b₅ : w / 1099511627776 ≡ w / 256 / 256 / 256 / 256 / 256 = omega arith in
    let b₆ : w / 281474976710656 ≡ w / 256 / 256 / 256 / 256 / 256 / 256 = omega arith in
    let b₇ : w / 72057594037927936 ≡ w / 256 / 256 / 256 / 256 / 256 / 256 / 256 = omega arith in
    rw (b₂, b₃, b₄, b₅, b₆, b₇)

fewer : (k more w : ℕ) → take k (bytes_of (k + more) w) ≡ bytes_of k w
unfolding bytes_of
fewer zero more w = refl
fewer (suc k) more w =
    ap (λ (n : ℕ). take (suc k) (bytes_of n w)) (suc-add k more) ∙ ap (λ (l : List ℕ). w % 256 ∷ l) (fewer k more (w / 256))

pub lowest : (k w : ℕ) → k ≤ 8 → take k (to_le_bytes w64 w) ≡ bytes_of k w
lowest k w h =
    let whole : 8 ≡ k + (8 - k) = omega arith in
    ap (take k) (eight w ∙ ap (λ (n : ℕ). bytes_of n w) whole) ∙ fewer k (8 - k) w

-- a word's bytes make the word
value_bytes : (k w : ℕ) → w < 256 ^ k → value (bytes_of k w) ≡ w
unfolding bytes_of
value_bytes zero w h = omega arith
value_bytes (suc k) w h =
    let small : w / 256 < 256 ^ k = omega (arith, pow-suc 256 k) in
    ap (λ (n : ℕ). w % 256 + 256 * n) (value_bytes k (w / 256) small) ∙ omega arith

pub words_back : (size : ℕ) → 0 < size → (ws rest : List ℕ) → Small size ws → words_of size (bytes_of_all size ws ++ rest) ≡ before ws (words_of size rest)
words_back size some [] rest h = refl
words_back size some (w ∷ ws) rest h =
    let bytes : List ℕ = bytes_of size w in
    let more : List ℕ = bytes_of_all size ws ++ rest in
    let long : length bytes ≡ size = bytes_length size w in
    let fits : size ≤ length (bytes ++ more) = omega (arith, length-append bytes more) in
    ap (words_of size) (append_assoc bytes (bytes_of_all size ws) rest)
    ∙ words_one size some (bytes ++ more) fits
    ∙ ap₂ (λ (a b : List ℕ). word (value a) (words_of size b)) (take_at bytes more size long) (drop_at bytes more size long)
    ∙ ap₂ word (value_bytes size w h.0) (words_back size some ws rest h.1)
