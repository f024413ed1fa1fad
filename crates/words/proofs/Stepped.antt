-- How what a format's methods answer keeps or ends the loop that reads words, where the machine has the size of the format's word.
use mathlib.Core.Path.{◌≡◌, refl, sym, ◌∙◌, ap, subst}
use Prim.Native.Nat.{ℕ, ◌+◌, ◌-◌, ◌≤◌, ◌<◌}
use native.Mathlib.Omega.{arith}
use mathlib.Core.Bool.{true, false}
use mathlib.Core.List.{List}
use lib.ListN.{length, take, drop}
use Rattle.std.specs.Prelude.{Option, Some, None, Result, Ok, Err}
use Rattle.rows.specs.declared.fault.Fault.{Fault}
use Rattle.rows.specs.declared.fault.Fault.TheVariants.{NoRoom, Cut}
use Rattle.rows.specs.Runs.{Run, ReadAs}
use Rattle.words.specs.declared.Stop.{Stop}
use Rattle.words.specs.declared.Stop.TheVariants.{Full, Refused}
use Rattle.words.specs.declared.Turn.{Turn}
use Rattle.words.specs.declared.Turn.TheVariants.{Stays, Moves, Ticks}
use Rattle.words.specs.Machine.{Machine, Reached}
use Rattle.words.specs.Words.{first_of, words_of, next_at}
use Rattle.words.specs.Written.{given_of, GaveAs, next_of, count_of, StepAs}
use Rattle.words.proofs.Cut.{part_found}
use Rattle.words.proofs.Between.{Between, found, word_in, goes_on_gave, ends_whole, ends_pending, ends_part, ends_gave_full, ends_gave}
use Rattle.words.proofs.Wrote.{onto_given}

module _ {S : Type 0} {m : Machine S} {bytes : List ℕ} {whole : Run (Reached S)} {old : List ℕ} {s : S} {at n : ℕ} {buf : List ℕ}
    (h : Between m bytes whole old 0 s at n buf) {size : ℕ} (sized : m.size ≡ size)
    {r : Option (Result ℕ Fault)} (front : r ≡ first_of (words_of size (take (length bytes - at) (drop at bytes)))) where
  here : {v : Option (Result ℕ Fault)} → r ≡ v → v ≡ next_at m.size bytes at
  here f = found h (front ∙ ap (λ (k : ℕ). first_of (words_of k (take (length bytes - at) (drop at bytes)))) (sym sized)) f

  -- the bytes end here, with no group in hand, or with one
  pub done_whole : r ≡ None → m.pending s ≡ false → ReadAs whole old buf (Ok n)
  done_whole f p = ends_whole h (here f) p

  pub done_pending : {origin : ℕ} → r ≡ None → m.pending s ≡ true → origin ≡ m.origin s at → ReadAs whole old buf (Err (record { fault = Cut; rows = n; place = origin }))
  done_pending f p o = rw o (ends_pending h (here f) p)

  -- they end within a word
  pub done_part : {f : Fault} {origin : ℕ} → r ≡ Some (Err f) → origin ≡ m.origin s at → ReadAs whole old buf (Err (record { fault = f; rows = n; place = origin }))
  done_part {f} e o =
      let there : Some (Err f) ≡ next_at m.size bytes at = here e in
      let cut : f ≡ Cut = (part_found (words_of m.size (drop at bytes)) there).1 in
      rw (o, cut) (ends_part h (rw cut at there))

  -- a word was read, gave its rows or none, and leads to a state
  module _ (some : 0 < size) {w : ℕ} (is : r ≡ Some (Ok w)) {buf' : List ℕ} {q : Result ℕ Stop} (gave : GaveAs (given_of (m.step s at w)) n buf buf' q) where
    pub step_done : {s' : S} {k j : ℕ} → q ≡ Ok k → s' ≡ next_of (m.step s at w) s → j ≡ size → Between m bytes whole old 0 s' (at + j) k buf'
    step_done e to f =
        let has_bytes : 0 < m.size = omega (arith, sized, some) in
        rw (to, f, sym sized) (goes_on_gave h has_bytes (here is) (next_of (m.step s at w) s) (onto_given (m.step s at w) s) gave e)

  -- a word was read
  module _ (some : 0 < size) {w : ℕ} (is : r ≡ Some (Ok w)) {buf' : List ℕ} {q : Result Turn Stop} {t : S} (stepped : StepAs (m.step s at w) s n buf buf' q t) where
    -- what it answered
    answered : {v : Result Turn Stop} → q ≡ v → StepAs (m.step s at w) s n buf buf' v t
    answered e = subst (λ (a : Result Turn Stop). StepAs (m.step s at w) s n buf buf' a t) e stepped

    has_bytes : 0 < m.size
    has_bytes = omega (arith, sized, some)

    pub step_within : at + size ≤ length bytes
    step_within = omega (arith, sized, word_in h has_bytes (here is))

    -- its rows were written, and the state moved, by a tick or otherwise, or stayed
    went : {v : Result Turn Stop} {k j : ℕ} → q ≡ v → count_of v ≡ Ok k → t ≡ next_of (m.step s at w) s → j ≡ size → Between m bytes whole old 0 t (at + j) k buf'
    went e c l f = step_done some is (answered e).gave c l f

    pub step_moved : {k j : ℕ} → q ≡ Ok (Moves k) → j ≡ size → Between m bytes whole old 0 t (at + j) k buf'
    step_moved e f = went e refl (answered e).leads f

    pub step_ticked : {k j : ℕ} → q ≡ Ok (Ticks k) → j ≡ size → Between m bytes whole old 0 t (at + j) k buf'
    step_ticked e f = went e refl (answered e).leads f

    pub step_stayed : {k j : ℕ} → q ≡ Ok (Stays k) → j ≡ size → Between m bytes whole old 0 t (at + j) k buf'
    step_stayed e f =
        let done = answered e in
        went e refl (done.leads.0 ∙ done.leads.1) f

    -- or had no room, or it was refused
    pub step_full : {origin : ℕ} → q ≡ Err Full → origin ≡ m.origin t at → ReadAs whole old buf' (Err (record { fault = NoRoom; rows = n; place = origin }))
    step_full e o =
        let done = answered e in
        rw (o, done.leads) (ends_gave_full h has_bytes (here is) (next_of (m.step s at w) s) (onto_given (m.step s at w) s) done.gave refl)

    pub step_refused : {f : Fault} → q ≡ Err (Refused f) → ReadAs whole old buf' (Err (record { fault = f; rows = n; place = at }))
    step_refused e = ends_gave h has_bytes (here is) (next_of (m.step s at w) s) (onto_given (m.step s at w) s) (answered e).gave refl
