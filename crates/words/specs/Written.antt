-- What a function that writes a word's rows answers, and what it leaves in the buffer.
use Rattle.std.specs.Prelude.{◌≡◌, ℕ, ◌+◌, ◌-◌, ◌*◌, cond, List, length, leb, Result, Ok, Err, ⊤}
use Rattle.std.proofs.lemmas.List.Edits.{sets}
use Rattle.rows.specs.Row.{flat, room_of}
use Rattle.words.specs.declared.Stop.{Stop}
use Rattle.words.specs.declared.Stop.TheVariants.{Full, Refused}
use Rattle.words.specs.declared.Turn.{Turn}
use Rattle.words.specs.declared.Turn.TheVariants.{Stays, Moves, Ticks}
use Rattle.words.specs.Machine.{Outcome, next, fault, Given, gives, refuses}

-- what an outcome gives
abbrev pub given_of : {S : Type 0} → Outcome S → Given
given_of (next s new) = gives new
given_of (fault f) = refuses f

-- n rows are in a buffer that has room for `room`; a word's rows are added, all of them where they fit in what is left of the room, and else none
abbrev pub gave_of : Given → ℕ → ℕ → Result ℕ Stop
gave_of (gives new) n room = cond (leb (length new) (room - n)) (Ok (n + length new)) (Err Full)
gave_of (refuses f) n room = Err (Refused f)

-- what the buffer then holds
abbrev pub gave_to : Given → ℕ → List ℕ → List ℕ
gave_to (gives new) n old = cond (leb (length new) (room_of old - n)) (sets old (n * 10) (flat new)) old
gave_to (refuses f) n old = old

-- both
pub record GaveAs (g : Given) (n : ℕ) (old new : List ℕ) (r : Result ℕ Stop) : Type 0 where
  pub answer : r ≡ gave_of g n (room_of old)
  pub wrote : new ≡ gave_to g n old

-- the next state of an outcome, which is `s` where it is refused
abbrev pub next_of : {S : Type 0} → Outcome S → S → S
next_of (next s' new) s = s'
next_of (fault f) s = s

-- rows, and no refusal
abbrev pub IsGiven : Given → Type 0
IsGiven (gives new) = ⊤
IsGiven (refuses f) = ⊥

-- what a reader of a word answers of the rows
abbrev pub count_of : Result Turn Stop → Result ℕ Stop
count_of (Ok (Stays k)) = Ok k
count_of (Ok (Moves k)) = Ok k
count_of (Ok (Ticks k)) = Ok k
count_of (Err e) = Err e

-- and of the state that was s and is t then: it is the next one, which is s where it stays; and where the reader stops it is s still
abbrev pub Leads : {S : Type 0} → Result Turn Stop → S → S → S → Type 0
Leads (Ok (Stays k)) s t to = (t ≡ s) × (s ≡ to)
Leads (Ok (Moves k)) s t to = t ≡ to
Leads (Ok (Ticks k)) s t to = t ≡ to
Leads (Err e) s t to = t ≡ s

-- a word is read: what it gives is written, all or none, and the next state is its own
pub record StepAs {S : Type 0} (o : Outcome S) (s : S) (n : ℕ) (old new : List ℕ) (r : Result Turn Stop) (t : S) : Type 0 where
  pub gave : GaveAs (given_of o) n old new (count_of r)
  pub leads : Leads r s t (next_of o s)
