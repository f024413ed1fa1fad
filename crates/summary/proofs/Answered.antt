-- The answer of the reader, by what the bytes hold.
use mathlib.Core.Path.{◌≡◌, refl, sym, ◌∙◌, ap}
use Prim.Native.Nat.{ℕ, suc, ◌*◌, ◌/◌, ◌≤◌, ◌<◌}
use native.Mathlib.Omega.{arith}
use mathlib.Core.Bool.{Bool, true, false, cond}
use mathlib.Core.List.{List, [], ◌∷◌}
use lib.ListN.{length}
use lib.Dec.{eqb, leb}
use borrow.Author.Tests.{le-leb, lt-leb, le-ltb, lt-ltb}
use Rattle.std.specs.Prelude.{Result, Ok, Err}
use Rattle.rows.specs.Row.{over}
use Rattle.rows.proofs.Stored.{sets_over}
use Rattle.summary.specs.declared.Block.{Block}
use Rattle.summary.specs.declared.reader.Refusal.{Refusal}
use Rattle.summary.specs.declared.reader.Refusal.TheVariants.{TooLong, NoRoom}
use Rattle.summary.specs.Blocks.{block_count, tens_of}
use Rattle.summary.specs.Fields.{Fields, count, block, whole, faulty, rows_in, adds_up, fields_of, Held, held, none, before, blocks_from, held_in}
use Rattle.summary.specs.Reader.{many_of, front_blocks, HandedOut, answer_in, answer_of, left_in, ReadAs}
use Rattle.summary.proofs.ListCut.{tens_length}

-- what is held after a row count is of that row count, and has the blocks that the fields begin with
abbrev pub Front : ℕ → Fields → Held → Type 0
Front n f (held m bs) = (m ≡ n) × (front_blocks f ≡ bs)
Front n f none = Unit {0}

front_before : (n : ℕ) (b : Block) (f : Fields) (h : Held) → Front n f h → Front n (block b f) (before b h)
front_before n b f (held m bs) e = (e.0, ap (λ (cs : List Block). b ∷ cs) e.1)
front_before n b f none e = tt

front_chosen : (n : ℕ) (f : Fields) (t : Bool) (h : Held) → Front n f h → Front n f (cond t h none)
front_chosen n f true h e = e
front_chosen n f false h e = tt

pub front_held : (n j : ℕ) (f : Fields) → Front n f (blocks_from n j f)
unfolding blocks_from
front_held n j (count m f) = tt
front_held n j (block b f) =
    front_chosen n (block b f) (adds_up (rows_in n j) b) (before b (blocks_from n (suc j) f)) (front_before n b f (blocks_from n (suc j) f) (front_held n (suc j) f))
front_held n j whole = front_chosen n whole (eqb j (block_count n)) (held n []) (refl, refl)
front_held n j faulty = tt

module _ (l old : List ℕ) where
  pub read_long : 1073741824 < length l → ReadAs l old old (Err TooLong)
  unfolding answer_of
  read_long h = record { answer = rw (lt-ltb _ _ h); wrote = rw (lt-ltb _ _ h) }

  -- of bytes that hold h
  module _ (short : length l ≤ 1073741824) (h : Held) (e : held_in (fields_of l) ≡ h) where
    answered : answer_of l (length old) ≡ answer_in h (length old)
    unfolding answer_of
    answered = rw (le-ltb 1073741824 (length l) short, e)

    read_as : {new : List ℕ} {r : Result ℕ Refusal} → r ≡ answer_in h (length old) → new ≡ left_in (answer_in h (length old)) h old → ReadAs l old new r
    read_as f g =
        record {
          answer = f ∙ sym answered;
          wrote = g ∙ sym (ap (λ (a : Result ℕ Refusal). left_in a (held_in (fields_of l)) old) answered ∙ ap (λ (k : Held). left_in (answer_in h (length old)) k old) e);
        }

  -- no blocks, or so many, without room for their numbers or with
  pub read_none : length l ≤ 1073741824 → (h : Held) → held_in (fields_of l) ≡ h → {refusal : Refusal} → Err refusal ≡ many_of h → ReadAs l old old (Err refusal)
  read_none short (held n bs) e f = absurd cc
  read_none short none e f = read_as short none e f refl

  pub read_full : length l ≤ 1073741824 → (h : Held) → held_in (fields_of l) ≡ h → {m : ℕ} → Ok m ≡ many_of h → length old / 10 < m → ReadAs l old old (Err NoRoom)
  read_full short none e f g = absurd cc
  read_full short (held k bs) e {m} f g =
      let many : m ≡ length bs = cc in
      let full : leb (length bs * 10) (length old) ≡ false = lt-leb (length bs * 10) (length old) (omega arith) in
      read_as short (held k bs) e (rw full) (rw full)

  pub read_all : (n : ℕ) (fields : Fields) → length l ≤ 1073741824 → (h : Held) → held_in (fields_of l) ≡ h → Front n fields h → {m : ℕ} → Ok m ≡ many_of h → m ≤ length old / 10
      → {new : List ℕ} → HandedOut fields old new → ReadAs l old new (Ok n)
  read_all n fields short none e d f g p = absurd cc
  read_all n fields short (held k bs) e d {m} f g p =
      let many : m ≡ length bs = cc in
      let room : leb (length bs * 10) (length old) ≡ true = le-leb (length bs * 10) (length old) (omega arith) in
      read_as short (held k bs) e (rw room (ap Ok (sym d.0)))
      (rw room
      (p.wrote (omega (arith, ap length d.1))
      ∙ sets_over (tens_of (front_blocks fields)) old (omega (arith, tens_length (front_blocks fields), ap length d.1))
      ∙ ap (λ (cs : List Block). over (tens_of cs) old) d.1))
