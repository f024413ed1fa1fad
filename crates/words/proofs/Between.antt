-- The invariant of a loop that reads the words of bytes, over any machine, and how each kind of word keeps or ends it.
--     what the code found: found; a word: word_in; a word whose rows a function has written: goes_on_gave
--     how a run ends, whatever rows were there before it: did_whole, did_gave_full, did_gave
--     and as a reader's promise, where none were: ends_whole, ends_pending, ends_part, ends_gave_full, ends_gave
use mathlib.Core.Path.{◌≡◌, refl, sym, ◌∙◌, ap, subst}
use Prim.Native.Nat.{ℕ, ◌+◌, ◌-◌, ◌*◌, ◌≤◌, ◌<◌}
use native.Mathlib.Omega.{arith}
use mathlib.Core.Bool.{true, false}
use mathlib.Core.List.{List}
use lib.ListN.{length, take, drop}
use lib.Seq.{sets}
use Rattle.std.specs.Prelude.{Option, Some, None, Result, Ok, Err}
use Rattle.rows.specs.declared.fault.Fault.{Fault}
use Rattle.rows.specs.declared.fault.Fault.TheVariants.{NoRoom, Cut}
use Rattle.rows.specs.declared.row.Row.{Row}
use Rattle.rows.specs.Row.{flat, room_of}
use Rattle.rows.specs.Runs.{finished, refused, Run, give, ReadAs, Did}
use Rattle.rows.proofs.Sequence.{give_then}
use Rattle.rows.proofs.Sofar.{Sofar, sofar_none, sofar_start, sofar_ends, sofar_give, sofar_full, sofar_room, did_reads}
use Rattle.words.specs.Words.{Words, word, first_of, words_of, next_at}
use Rattle.words.specs.declared.Stop.{Stop}
use Rattle.words.specs.declared.Stop.TheVariants as stop
use Rattle.words.specs.Machine.{next, fault, Given, refuses, onto, Machine, Reached, run, closed, reading, read_from}
use Rattle.words.specs.Written.{GaveAs}
use Rattle.words.proofs.Cut.{end_found, part_found, word_found, word_within, part_next}
use Rattle.words.proofs.Wrote.{WroteAll, gave_all, gave_fault, WroteNone, gave_nothing}

-- `whole` is the run of all that the loop reads: n₀ rows were in `old` before it. The loop is at `at` in s, and n rows are in `buf`
pub record Between {S : Type 0} (m : Machine S) (bytes : List ℕ) (whole : Run (Reached S)) (old : List ℕ) (n₀ : ℕ) (s : S) (at n : ℕ) (buf : List ℕ) : Type 0 where
  pub sofar : Sofar whole old n₀ (read_from m bytes s at) n buf
  pub within : at ≤ length bytes

module _ {S : Type 0} (m : Machine S) (bytes : List ℕ) (s : S) (from : ℕ) (old : List ℕ) (h : from ≤ length bytes) where
  pub between_start : Between m bytes (read_from m bytes s from (room_of old)) old 0 s from 0 old
  between_start = record { sofar = sofar_start (read_from m bytes s from) old; within = h }

  -- after rows that were there before
  pub between_after : (n : ℕ) → n ≤ room_of old → Between m bytes (read_from m bytes s from (room_of old - n)) old n s from n old
  between_after n room = record { sofar = sofar_none (read_from m bytes s from) old n room; within = h }

module _ {S : Type 0} {m : Machine S} {bytes : List ℕ} {whole : Run (Reached S)} {old : List ℕ} {n₀ : ℕ} {s : S} {at n : ℕ} {buf : List ℕ}
    (h : Between m bytes whole old n₀ s at n buf) where
  pub between_room : n ≤ room_of buf
  between_room = omega (arith, h.sofar.fits, sofar_room h.sofar)

  -- what a function found at the front of the bytes that are left
  pub found : {r v : Option (Result ℕ Fault)} → r ≡ first_of (words_of m.size (take (length bytes - at) (drop at bytes))) → r ≡ v → v ≡ next_at m.size bytes at
  found e f = sym f ∙ part_next m.size bytes at e

  -- the bytes end here, with no group in hand, or with one
  module _ (e : None ≡ next_at m.size bytes at) where
    pub did_whole : m.pending s ≡ false → Did whole old n₀ (finished (record { state = s; place = at })) n buf
    did_whole p = sofar_ends h.sofar (rw (end_found (words_of m.size (drop at bytes)) e, p))

    did_pending : m.pending s ≡ true → Did whole old n₀ (refused Cut (m.origin s at)) n buf
    did_pending p = sofar_ends h.sofar (rw (end_found (words_of m.size (drop at bytes)) e, p))

  -- they end within a word
  did_part : Some (Err Cut) ≡ next_at m.size bytes at → Did whole old n₀ (refused Cut (m.origin s at)) n buf
  did_part e = sofar_ends h.sofar (rw ((part_found (words_of m.size (drop at bytes)) e).0))

  -- a word w is next
  module _ (some : 0 < m.size) {w : ℕ} (e : Some (Ok w) ≡ next_at m.size bytes at) where
    pub word_in : at + m.size ≤ length bytes
    word_in = word_within m.size some bytes at e

    at_word_lem : (room : ℕ) → read_from m bytes s at room ≡ reading m (word w (words_of m.size (drop (at + m.size) bytes))) s at room
    at_word_lem room = ap (λ (ws : Words). reading m ws s at room) (word_found m.size some bytes at e)

    -- and is refused
    did_fault : {f : Fault} → m.step s at w ≡ fault f → Did whole old n₀ (refused f at) n buf
    did_fault g = sofar_ends h.sofar (at_word_lem (room_of old - n) ∙ rw g)

    -- or gives rows, none among them
    module _ {s' : S} {new : List Row} (g : m.step s at w ≡ next s' new) where
      word_gives : (room : ℕ) → read_from m bytes s at room ≡ give new (m.origin s at) room (read_from m bytes s' (at + m.size))
      word_gives room =
          at_word_lem room
          ∙ rw g (give_then new (m.origin s at) room (λ room'. run m (words_of m.size (drop (at + m.size) bytes)) s' (at + m.size) room') (closed m))

      goes_on : {buf' : List ℕ} → n + length new ≤ room_of old → buf' ≡ sets buf (n * 10) (flat new)
          → Between m bytes whole old n₀ s' (at + m.size) (n + length new) buf'
      goes_on f b =
          record {
            sofar = sofar_give h.sofar (read_from m bytes s' (at + m.size)) new (m.origin s at) (word_gives (room_of old - n)) refl f b;
            within = word_in;
          }

      did_full : room_of old < n + length new → Did whole old n₀ (refused NoRoom (m.origin s at)) n buf
      did_full f = sofar_full h.sofar (read_from m bytes s' (at + m.size)) new (m.origin s at) (word_gives (room_of old - n)) f

    -- rows that a function of the word's own wrote, all or none; no room for them is refused where the word or group begins
    module _ {g : Given} (s' : S) (o : m.step s at w ≡ onto g s') where
      given_step : {a : Given} → g ≡ a → m.step s at w ≡ onto a s'
      given_step e = o ∙ ap (λ (b : Given). onto b s') e

      pub goes_on_gave : {buf' : List ℕ} {r : Result ℕ Stop} {k : ℕ} → GaveAs g n buf buf' r → r ≡ Ok k → Between m bytes whole old n₀ s' (at + m.size) k buf'
      goes_on_gave {buf'} {r} {k} did is =
          let all : WroteAll g n buf buf' k = gave_all g (subst (GaveAs g n buf buf') is did) in
          let f : n + length all.new ≤ room_of old = omega (arith, all.fits, between_room, sofar_room h.sofar) in
          subst (λ (j : ℕ). Between m bytes whole old n₀ s' (at + m.size) j buf') all.count (goes_on (given_step all.given) f all.wrote)

      pub did_gave_full : {buf' : List ℕ} {r : Result ℕ Stop} → GaveAs g n buf buf' r → r ≡ Err stop.Full → Did whole old n₀ (refused NoRoom (m.origin s at)) n buf'
      did_gave_full {buf'} did is =
          let none : WroteNone g n buf buf' = gave_nothing g (subst (GaveAs g n buf buf') is did) in
          let k : room_of old < n + length none.new = omega (arith, none.full, between_room, sofar_room h.sofar) in
          subst (Did whole old n₀ (refused NoRoom (m.origin s at)) n) (sym none.wrote) (did_full (given_step none.given) k)

      pub did_gave : {buf' : List ℕ} {r : Result ℕ Stop} {f : Fault} → GaveAs g n buf buf' r → r ≡ Err (stop.Refused f) → Did whole old n₀ (refused f at) n buf'
      did_gave {buf'} {r} {f} did is =
          let own : (g ≡ refuses f) × (buf' ≡ buf) = gave_fault g (subst (GaveAs g n buf buf') is did) in
          subst (Did whole old n₀ (refused f at) n) (sym own.1) (did_fault (given_step own.0))

-- the same where the run began with no rows
module _ {S : Type 0} {m : Machine S} {bytes : List ℕ} {whole : Run (Reached S)} {old : List ℕ} {s : S} {at n : ℕ} {buf : List ℕ}
    (h : Between m bytes whole old 0 s at n buf) where
  pub ends_whole : None ≡ next_at m.size bytes at → m.pending s ≡ false → ReadAs whole old buf (Ok n)
  ends_whole e p = did_reads (did_whole h e p) refl

  pub ends_pending : None ≡ next_at m.size bytes at → m.pending s ≡ true → ReadAs whole old buf (Err (record { fault = Cut; rows = n; place = m.origin s at }))
  ends_pending e p = did_reads (did_pending h e p) refl

  pub ends_part : Some (Err Cut) ≡ next_at m.size bytes at → ReadAs whole old buf (Err (record { fault = Cut; rows = n; place = m.origin s at }))
  ends_part e = did_reads (did_part h e) refl

  module _ (some : 0 < m.size) {w : ℕ} (e : Some (Ok w) ≡ next_at m.size bytes at) {g : Given} (s' : S) (o : m.step s at w ≡ onto g s') where
    pub ends_gave_full : {buf' : List ℕ} {r : Result ℕ Stop} → GaveAs g n buf buf' r → r ≡ Err stop.Full → ReadAs whole old buf' (Err (record { fault = NoRoom; rows = n; place = m.origin s at }))
    ends_gave_full did is = did_reads (did_gave_full h some e s' o did is) refl

    pub ends_gave : {buf' : List ℕ} {r : Result ℕ Stop} {f : Fault} → GaveAs g n buf buf' r → r ≡ Err (stop.Refused f) → ReadAs whole old buf' (Err (record { fault = f; rows = n; place = at }))
    ends_gave did is = did_reads (did_gave h some e s' o did is) refl
