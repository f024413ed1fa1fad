-- The end of a keyword, by the place of the first byte that ends it; and the names, in any letter case.
use Rattle.std.proofs.Common.{◌≡◌, refl, sym, ◌∙◌, ap, ℕ, suc, ◌≤◌, Bool, true, cond, List, [], ◌∷◌, length, arith, Option, map, ◌&&◌, eqb, ap₂}
use Rattle.std.specs.List.{position, position_or_len}
use Rattle.std.specs.Option.{unwrap_or}
use Rattle.std.specs.Char.{to_ascii_lowercase}
use Rattle.std.proofs.lemmas.List.Recursion.{is_position_or_len}
use Rattle.std.specs.Str.{bytes_eq}
use Rattle.std.proofs.lemmas.Slice.Eq.{bytes_eq-Decides}
use Rattle.std.proofs.lemmas.Bool.Decides.{nat_tests}
use Rattle.rows.proofs.Chosen.{cond_holds}
use Rattle.header.specs.Texts.{same_as}
use Rattle.header.specs.Sides.{ends_keyword, keyword_length, lower, named}

-- a keyword ends at the first byte that ends it, or at the text's end
pub keyword_place : (t : List ℕ) → keyword_length t ≡ position_or_len ends_keyword t
unfolding keyword_length
keyword_place = is_position_or_len keyword_length ends_keyword refl (λ c t. ap (cond (ends_keyword c) 0) (omega arith))

-- a keyword lies in its text
pub keyword_in : (t : List ℕ) → keyword_length t ≤ length t
unfolding keyword_length
keyword_in [] = omega arith
keyword_in (c ∷ t) = cond_holds (λ (n : ℕ). n ≤ suc (length t)) (ends_keyword c) (λ e. omega arith) (λ e. omega (arith, keyword_in t))

pub keyword_found : (t : List ℕ) {o : Option ℕ} → o ≡ position ends_keyword t → unwrap_or o (length t) ≡ keyword_length t
keyword_found t {o} e = let p = keyword_place t in grind (arith, nat_tests, keyword_in t)

lower_is : (c : ℕ) → lower c ≡ to_ascii_lowercase c
unfolding lower
lower_is c = grind (arith, nat_tests)

named_as : (k name : List ℕ) → named k name ≡ bytes_eq (map to_ascii_lowercase k) name
unfolding same_as
named_as [] [] = refl
named_as [] (d ∷ u) = refl
named_as (c ∷ t) [] = refl
named_as (c ∷ t) (d ∷ u) = ap₂ (λ (n : ℕ) (b : Bool). eqb n d && b) (lower_is c) (named_as t u)

-- a keyword is a name where it is that in lower case
pub named_true : (k name : List ℕ) → map to_ascii_lowercase k ≡ name → named k name ≡ true
named_true k name e = named_as k name ∙ (bytes_eq-Decides (map to_ascii_lowercase k) name).1 e

pub named_name : (k name : List ℕ) → named k name ≡ true → map to_ascii_lowercase k ≡ name
named_name k name e = (bytes_eq-Decides (map to_ascii_lowercase k) name).0 (sym (named_as k name) ∙ e)
