-- Which words have been seen, by their kinds alone, and the byte from which on none of their rows is missing. 02, R-10.
use Rattle.std.specs.Prelude.{ℕ, ◌+◌, Bool, true, false, cond, ◌&&◌, ◌||◌, List, [], ◌∷◌, take, Option, Some, None}
use Rattle.words.specs.Words.{Words, word, whole, part, words_of}
use Rattle.evt3.specs.declared.kind.Kind.{Kind}
use Rattle.evt3.specs.declared.kind.Kind.TheVariants.{AddrY, AddrX, VectBaseX, Vect12, Vect8, TimeLow}
use Rattle.evt3.specs.declared.kind.Kind.TheVariants.{Continued4, TimeHigh, ExtTrigger, Others, Continued12, Reserved}
use Rattle.evt3.specs.Words.{kind_of}
use Rattle.join.specs.declared.seen.Seen.{Seen}
use Rattle.join.specs.declared.whole.WholeNumbers.{WholeNumbers}

-- before the first word none
abbrev pub none_seen : Seen
none_seen = record { high = false; low = false; y = false; base = false }

-- with one word more, of a kind: TIME_HIGH, TIME_LOW, which counts after a TIME_HIGH, ADDR_Y, VECT_BASE_X
abbrev pub seen_with : Kind → Seen → Seen
seen_with TimeHigh seen = record { high = true; low = seen.low; y = seen.y; base = seen.base }
seen_with TimeLow seen = record { high = seen.high; low = seen.high || seen.low; y = seen.y; base = seen.base }
seen_with AddrY seen = record { high = seen.high; low = seen.low; y = true; base = seen.base }
seen_with VectBaseX seen = record { high = seen.high; low = seen.low; y = seen.y; base = true }
-- the others change nothing
seen_with AddrX seen = seen
seen_with Vect12 seen = seen
seen_with Vect8 seen = seen
seen_with ExtTrigger seen = seen
seen_with Continued4 seen = seen
seen_with Others seen = seen
seen_with Continued12 seen = seen
seen_with Reserved seen = seen

-- all four
abbrev pub all_seen : Seen → Bool
all_seen seen = seen.high && seen.low && seen.y && seen.base

-- after some words
abbrev pub seen_after : Seen → List ℕ → Seen
seen_after seen [] = seen
seen_after seen (w ∷ ws) = seen_after (seen_with (kind_of w) seen) ws

-- the words of a stream as a list, and whether all four are among the first i
abbrev pub list_of : Words → List ℕ
list_of (word w ws) = w ∷ list_of ws
list_of whole = []
list_of part = []

abbrev pub all_seen_in : Words → ℕ → Bool
all_seen_in ws i = all_seen (seen_after none_seen (take i (list_of ws)))

-- the place after the word by which all four have been seen, the words being from a place on; a part of a word is no word
abbrev pub whole_in : Words → Seen → ℕ → Option ℕ
whole_in (word w ws) seen place =
    cond (all_seen (seen_with (kind_of w) seen)) (Some (place + 2)) (whole_in ws (seen_with (kind_of w) seen) (place + 2))
whole_in whole seen place = None
whole_in part seen place = None

-- of any bytes
abbrev pub whole_from : List ℕ → Option ℕ
whole_from bytes = whole_in (words_of 2 bytes) none_seen 0

-- as two numbers
abbrev pub whole_numbers : Option ℕ → WholeNumbers
whole_numbers (Some place) = record { seen = 1; place = place }
whole_numbers None = record { seen = 0; place = 0 }
