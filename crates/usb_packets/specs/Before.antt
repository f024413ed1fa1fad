-- What the EVT2 reader did with USB packets before 02, R-11: 01, "Rows" and "EVT2 words", with the sentences that R-11 takes back. This is kept
-- for the law PacketsGone alone: no reader does it any more.
use Rattle.std.specs.Prelude.{ℕ, ◌+◌, ◌-◌, ◌*◌, ◌/◌, ◌%◌, Bool, not, cond, ◌&&◌, ◌||◌, List, [], ◌∷◌, length, drop, ltb, eqb}
use Rattle.rows.specs.declared.fault.Fault.TheVariants.{Stray}
use Rattle.rows.specs.declared.row.Row.{Row}
use Rattle.rows.specs.Runs.{Run, run_as, run_from}
use Rattle.words.specs.declared.picture.Picture.{Picture}
use Rattle.words.specs.Fields.{field}
use Rattle.words.specs.Machine.{Outcome, next, fault, Machine, Reached, read_from}
use Rattle.words.specs.Picture.{picture_of, admission_of, admitted}
use Rattle.header.specs.Header.{header_of, after_header}
use Rattle.evt2.specs.declared.state.State.{State}
use Rattle.evt2.specs.State.{fresh, pending, origin}
use Rattle.evt2.specs.Words.{step}

-- what that reader knew between words: what today's knows, and of the packet in hand where it begins, its last three words (c is the
-- last), and how many are to come; 0: none is in hand
pub record Before : Type 0 where
  pub today : State
  pub place : ℕ
  pub a : ℕ
  pub b : ℕ
  pub c : ℕ
  pub left : ℕ

abbrev pub fresh_before : Before
fresh_before = record { today = fresh; place = 0; a = 0; b = 0; c = 0; left = 0 }

abbrev pub in_packet : Before → Bool
in_packet s = ltb 0 s.left

abbrev pub pending_before : Before → Bool
pending_before s = in_packet s || pending s.today

abbrev pub origin_before : Before → ℕ → ℕ
origin_before s place = cond (in_packet s) s.place (origin s.today place)

-- the row of kind 5: flag, sequence count, system time div 2^32, system time mod 2^32; its row time is 0
abbrev pub packet_row : (flag count high low : ℕ) → Row
packet_row flag count high low = record { kind = 5; low = 0; high = 0; a = flag; b = count; c = high; d = low; e = 0; f = 0; g = 0 }

-- of four CONTINUED. a: 15 flag, 27..16 the count's upper 12 bits; b: 19..0 its lower 20, 27..20 the system time's upper 8 bits; c and
-- d: 28 bits of it each
abbrev pub system_time : ℕ → ℕ → ℕ → ℕ
system_time b c d = field 20 8 b * 72057594037927936 + field 0 28 c * 268435456 + field 0 28 d

abbrev pub packet_of : ℕ → ℕ → ℕ → ℕ → Row
packet_of a b c d =
    packet_row (field 15 1 a) (field 16 12 a * 1048576 + field 0 20 b) (system_time b c d / 4294967296) (system_time b c d % 4294967296)

-- outside a group, OTHERS whose bits 15..0 are 0xFE began a packet, also before the clock
abbrev pub begins : Before → ℕ → Bool
begins s w = eqb (field 28 4 w) 14 && eqb (field 0 16 w) 0xFE && not (pending s.today)

abbrev pub packet_begun : Before → ℕ → Before
packet_begun s place = record { today = s.today; place = place; a = 0; b = 0; c = 0; left = 4 }

abbrev pub packet_further : Before → ℕ → Before
packet_further s w = record { today = s.today; place = s.place; a = s.b; b = s.c; c = w; left = s.left - 1 }

-- a word inside a packet: one that was not CONTINUED was refused 8; the fourth gave the row
abbrev pub packet_step : Before → ℕ → Outcome Before
packet_step s w =
    cond (eqb (field 28 4 w) 15)
    (next (packet_further s w) (cond (eqb s.left 1) (packet_of s.a s.b s.c w ∷ []) []))
    (fault Stray)

-- every other word did what it does today
abbrev pub with_today : Before → Outcome State → Outcome Before
with_today s (next t new) = next (record { today = t; place = s.place; a = s.a; b = s.b; c = s.c; left = s.left }) new
with_today s (fault f) = fault f

abbrev pub step_before : Picture → Before → ℕ → ℕ → Outcome Before
step_before p s place w =
    cond (in_packet s) (packet_step s w) (cond (begins s w) (next (packet_begun s place) []) (with_today s (step p s.today place w)))

abbrev pub machine_before : Picture → Machine Before
machine_before p = record { size = 4; step = λ s place w. step_before p s place w; origin = origin_before; pending = pending_before }

-- the words of any bytes
abbrev pub read_before : Picture → List ℕ → ℕ → Run (Reached Before)
read_before p bytes room = admitted (admission_of (length bytes) p) (read_from (machine_before p) bytes fresh_before 0 room)

-- and those after the header of a RAW file
abbrev pub words_before : ℕ → ℕ → List ℕ → ℕ → Run (Unit {0})
words_before width height bytes room = run_as (λ _. tt) (read_before (picture_of width height) bytes room)

abbrev pub read_raw_before : List ℕ → ℕ → Run (Unit {0})
read_raw_before bytes room = after_header (header_of 2048 bytes) (λ at width height. run_from at (words_before width height (drop at bytes) room))
