-- A machine that reads words, over any state: what a word does, and what a run of words gives.
use Rattle.std.specs.Prelude.{◌≡◌, ℕ, ◌+◌, ◌≤◌, Bool, false, cond, List, [], ◌∷◌, drop}
use Rattle.rows.specs.declared.fault.Fault.{Fault}
use Rattle.rows.specs.declared.fault.Fault.TheVariants.{Cut}
use Rattle.rows.specs.declared.row.Row.{Row}
use Rattle.rows.specs.Row.{only, All}
use Rattle.rows.specs.Runs.{finished, refused, Run, stopped, give, and_then}
use Rattle.words.specs.Words.{Words, word, whole, part, words_of}

-- what one word does: the next state and the rows that it gives, or a refusal
pub data Outcome (S : Type 0) : Type 0 where
  next : S → List Row → Outcome S
  fault : Fault → Outcome S

-- what a word gives, its next state apart: rows, or a refusal
pub data Given : Type 0 where
  gives : List Row → Given
  refuses : Fault → Given

-- no rows, or a refusal where a test is true
abbrev pub refused_if : Bool → Fault → Given
refused_if test f = cond test (refuses f) (gives [])

-- what it gives, and the next state
abbrev pub onto : {S : Type 0} → Given → S → Outcome S
onto (gives new) s = next s new
onto (refuses f) s = fault f

-- a format of words
pub record Machine (S : Type 0) : Type 0 where
  -- the bytes of a word
  pub size : ℕ
  -- what a word does in a state, at a place
  pub step : S → ℕ → ℕ → Outcome S
  -- where the group in hand begins, and else the word at a place
  pub origin : S → ℕ → ℕ
  -- whether a group is in hand
  pub pending : S → Bool

-- the state and the place that words have led to
pub record Reached (S : Type 0) : Type 0 where
  pub state : S
  pub place : ℕ

-- 01, "Refusal numbers": no room is refused where the word or group begins, any other fault at the word itself
abbrev pub after : {S : Type 0} → Outcome S → ℕ → ℕ → ℕ → (S → ℕ → Run (Reached S)) → Run (Reached S)
after (next s new) place origin room go = give new origin room (go s)
after (fault f) place origin room go = stopped (refused f place)

-- the words one after the other; a part of a word is cut, where the word or group begins
abbrev pub run : {S : Type 0} → Machine S → Words → S → ℕ → ℕ → Run (Reached S)
run m (word w ws) s place room = after (m.step s place w) place (m.origin s place) room (λ s' room'. run m ws s' (place + m.size) room')
run m whole s place room = stopped (finished (record { state = s; place = place }))
run m part s place room = stopped (refused Cut (m.origin s place))

-- the rows that each word gives, a list for each word; what follows a refusal is not read
abbrev pub with_word : {S : Type 0} → Outcome S → (S → List (List Row)) → List (List Row)
with_word (next s new) rest = new ∷ rest s
with_word (fault f) rest = []

abbrev pub rows_by_word : {S : Type 0} → Machine S → Words → S → ℕ → List (List Row)
rows_by_word m (word w ws) s place = with_word (m.step s place w) (λ s'. rows_by_word m ws s' (place + m.size))
rows_by_word m whole s place = []
rows_by_word m part s place = []

-- at the end of the input a group in hand is cut, where it begins
abbrev pub closed : {S : Type 0} → Machine S → Reached S → ℕ → Run (Reached S)
closed m r room = stopped (cond (m.pending r.state) (refused Cut (m.origin r.state r.place)) (finished r))

-- all the words of an input from a state and a place on
abbrev pub reading : {S : Type 0} → Machine S → Words → S → ℕ → ℕ → Run (Reached S)
reading m ws s place room = and_then (run m ws s place room) room (closed m)

-- the words of bytes from a place on: what a reader of bytes promises
abbrev pub read_from : {S : Type 0} → Machine S → List ℕ → S → ℕ → ℕ → Run (Reached S)
read_from m bytes s at room = reading m (words_of m.size (drop at bytes)) s at room

-- a machine that keeps a property of its state gives rows that pass a test from it on
pub record Keeps {S : Type 0} (m : Machine S) (test : Row → Bool) (Kept : S → Type 0) : Type 0 where
  pub step : (s : S) (place w : ℕ) (s' : S) (new : List Row) → Kept s → m.step s place w ≡ next s' new → Kept s' × All test new

-- a machine whose group in hand never begins past the word at hand; a property of the state and the place says so
pub record Follows {S : Type 0} (m : Machine S) (Kept : S → ℕ → Type 0) : Type 0 where
  pub origin : (s : S) (place : ℕ) → Kept s place → m.origin s place ≤ place
  pub step : (s : S) (place w : ℕ) (s' : S) (new : List Row) → Kept s place → m.step s place w ≡ next s' new → Kept s' (place + m.size)

-- a machine takes a word, gives these rows, and comes to a state that a property holds of
pub record Takes {S : Type 0} (m : Machine S) (s : S) (place w : ℕ) (new : List Row) (Then : S → Type 0) : Type 0 where
  pub state : S
  pub step : m.step s place w ≡ next state new
  pub holds : Then state

-- one machine keeps up with another: from states that are alike it takes each word that the other takes, to states that are alike, gives
-- those of its rows that a test holds of, and has no group in hand where the other has none
pub record KeepsUp {S T : Type 0} (m : Machine S) (n : Machine T) (test : Row → Bool) (Alike : S → T → Type 0) : Type 0 where
  pub size : n.size ≡ m.size
  pub step : (s : S) (t : T) (place w : ℕ) (s' : S) (new : List Row) → Alike s t → m.step s place w ≡ next s' new
      → Takes n t place w (only test new) (Alike s')
  pub pending : (s : S) (t : T) → Alike s t → m.pending s ≡ false → n.pending t ≡ false
