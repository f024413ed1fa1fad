-- The end of a line, by the place of the first newline.
use Rattle.std.proofs.Common.{◌≡◌, refl, sym, ◌∙◌, subst, ℕ, zero, suc, ◌+◌, ◌≤◌, ◌<◌, Bool, true, false, cond, ◌&&◌, List, [], ◌∷◌, length, take, leb, ltb, eqb, arith, not, Result, Ok, Err, Some, None}
use Rattle.std.specs.List.{position, position_or_len}
use Rattle.std.specs.Cmp.Lexicographic.{pointwise}
use Rattle.std.proofs.lemmas.Bool.Decides.{nat_tests}
use Rattle.rows.specs.declared.fault.Fault.{Fault}
use Rattle.rows.specs.declared.fault.Fault.TheVariants.{Cut, BadHeader}
use borrow.Author.Tests.{eqb-true}
use Rattle.rows.proofs.GoodRows.{and_first, and_second}
use Rattle.rows.proofs.Chosen.{cond_holds}
use Rattle.header.specs.Lines.{is_line, line_end}

abbrev pub newline : ℕ → Bool
newline c = eqb c 10

-- by the place i of the newline among the bytes that are looked at, and their number
abbrev pub ended : ℕ → ℕ → ℕ → ℕ → ℕ → Result ℕ Fault
ended i taken bytes most k = cond (ltb i taken) (Ok (k + i)) (cond (ltb bytes most) (Err Cut) (Err BadHeader))

ended_next : (i taken bytes most k : ℕ) → ended (1 + i) (suc taken) (suc bytes) (suc most) k ≡ ended i taken bytes most (k + 1)
ended_next i taken bytes most k = grind (arith, nat_tests)

pub line_ended : (most : ℕ) (b : List ℕ) (k : ℕ)
    → line_end most b k ≡ ended (position_or_len newline (take most b)) (length (take most b)) (length b) most k
unfolding line_end
line_ended zero b k = grind (arith, nat_tests)
line_ended (suc most) [] k = grind (arith, nat_tests)
line_ended (suc most) (c ∷ b) k =
    elim (eqb c 10) as (λ (t : Bool). cond t (Ok k) (line_end most b (k + 1))
    ≡ ended (cond (not t) (1 + position_or_len newline (take most b)) 0) (suc (length (take most b))) (suc (length b)) (suc most) k) [
      | true ↦ grind (arith, nat_tests)
      | false ↦ line_ended most b (k + 1) ∙ sym (ended_next (position_or_len newline (take most b)) (length (take most b)) (length b) most k)
    ]

-- the place of the first newline among the first `most` bytes, and that there is none
module _ (most : ℕ) (b : List ℕ) where
  pub line_found : {i : ℕ} → position newline (take most b) ≡ Some i → Ok i ≡ line_end most b 0
  line_found h = let e = line_ended most b 0 in grind (arith, nat_tests)

  pub line_cut : position newline (take most b) ≡ None → length b < most → Err Cut ≡ line_end most b 0
  line_cut h less = let e = line_ended most b 0 in grind (arith, nat_tests)

  pub line_far : position newline (take most b) ≡ None → most ≤ length b → Err BadHeader ≡ line_end most b 0
  line_far h less = let e = line_ended most b 0 in grind (arith, nat_tests)

-- a line begins with two bytes
pub line_starts : (b : List ℕ) → pointwise eqb (37 ∷ 32 ∷ []) (take 2 b) ≡ is_line b
unfolding is_line
line_starts [] = refl
line_starts (c ∷ []) = grind (arith, nat_tests)
line_starts (c ∷ d ∷ b) = grind (arith, nat_tests)

-- where a newline is, counted from k on, after at least `few` bytes and among b
abbrev pub EndIn : ℕ → ℕ → Result ℕ Fault → Type 0
EndIn few most (Ok i) = (few ≤ i) × (i < most)
EndIn few most (Err f) = Unit {0}

end_in : (few most : ℕ) (b : List ℕ) (k : ℕ) → few ≤ k → EndIn few (k + length b) (line_end most b k)
unfolding line_end
end_in few zero b k h = tt
end_in few (suc most) [] k h = tt
end_in few (suc most) (c ∷ b) k h =
    let e : k + 1 + length b ≡ k + suc (length b) = omega arith in
    cond_holds (EndIn few (k + suc (length b))) (eqb c 10) (λ t. (h, omega arith))
    (λ t. subst (λ (m : ℕ). EndIn few m (line_end most b (k + 1))) e (end_in few most b (k + 1) (omega arith)))

pub line_ends : (most : ℕ) (b : List ℕ) → EndIn 0 (length b) (line_end most b 0)
line_ends most b =
    let e : 0 + length b ≡ length b = omega arith in
    subst (λ (m : ℕ). EndIn 0 m (line_end most b 0)) e (end_in 0 most b 0 (omega arith))

-- a line of the header is longer than the two bytes that it starts with
after_start : (r : List ℕ) → line_end 256 (0x25 ∷ 0x20 ∷ r) 0 ≡ line_end 254 r 2
unfolding line_end
after_start r = refl

starts_line_lem : (b : List ℕ) → is_line b ≡ true → EndIn 2 (length b) (line_end 256 b 0)
unfolding is_line
starts_line_lem [] t = absurd cc
starts_line_lem (c ∷ []) t = absurd cc
starts_line_lem (c ∷ d ∷ r) t =
    let two : Bool = leb 2 (length (c ∷ d ∷ r)) in
    let first : c ≡ 0x25 = eqb-true _ _ (and_second two (eqb c 0x25) (and_first (two && eqb c 0x25) (eqb d 0x20) t)) in
    let second : d ≡ 0x20 = eqb-true _ _ (and_second (two && eqb c 0x25) (eqb d 0x20) t) in
    let e : 2 + length r ≡ suc (suc (length r)) = omega arith in
    rw (first, second, after_start r) (subst (λ (m : ℕ). EndIn 2 m (line_end 254 r 2)) e (end_in 2 254 r 2 (omega arith)))

pub line_in : (b : List ℕ) {i : ℕ} → is_line b ≡ true → line_end 256 b 0 ≡ Ok i → (2 ≤ i) × (i < length b)
line_in b t e = subst (EndIn 2 (length b)) e (starts_line_lem b t)
