-- Where the words of a row go: into a slice, or nowhere. Any words may go to any place: those that have no room are left out.
use Rattle.std.specs.Prelude.{◌≡◌, ℕ, ◌+◌, ◌*◌, ◌/◌, Bool, true, false, cond, List, [], ◌∷◌, length, ltb}
use Rattle.std.proofs.lemmas.List.Edits.{sets}
use Rattle.words.specs.Words.{bytes_of_all}

-- how many words of a size a slice takes; where they are counted alone, as many as a number of 64 bits counts
abbrev pub room : (writes : Bool) → ℕ → List ℕ → ℕ
room true size out = length out / size
room false size out = 18446744073709551615

-- the place after a word, where so many words have room: one that has no room takes no place
abbrev pub place_after : (room at : ℕ) → ℕ
place_after room at = cond (ltb at room) (at + 1) at

-- a slice after a word was put at a place, where it has room there
abbrev pub stored : ℕ → List ℕ → ℕ → ℕ → List ℕ
stored size out at w = cond (ltb at (room true size out)) (sets out (at * size) (bytes_of_all size (w ∷ []))) out

-- the slice after words were put one after the other, the first of them at a place
abbrev pub after : (writes : Bool) → ℕ → List ℕ → ℕ → List ℕ → List ℕ
after true size out at [] = out
after true size out at (w ∷ ws) = after true size (stored size out at w) (place_after (room true size out) at) ws
after false size out at ws = out

-- and the place after them
abbrev pub places_after : (room at : ℕ) → List ℕ → ℕ
places_after room at [] = at
places_after room at (w ∷ ws) = places_after room (place_after room at) ws

-- words were put from a place on, and the answer is the place after them
pub record Put (writes : Bool) (size : ℕ) (ws old : List ℕ) (at : ℕ) (new : List ℕ) (r : ℕ) : Type 0 where
  pub place : r ≡ places_after (room writes size old) at ws
  pub wrote : new ≡ after writes size old at ws
