-- The cases that 01 marks with a star, as one list: an input, and what is seen of it.
use Rattle.std.specs.Prelude.{◌≡◌, ℕ, cond, List, [], ◌∷◌, ◌++◌, eqb, pos, negsuc, Some, None, Result, Ok, Err, Float}
use Rattle.std.specs.Float.{binary32}
use Rattle.std.specs.Float.Ieee.{of_int}
use Rattle.events.specs.declared.event.Event.{Event}
use Rattle.rows.specs.declared.fault.Fault.{Fault}
use Rattle.rows.specs.declared.row.Row.{Row}
use Rattle.events.specs.Event.{event_of, plus_zero, readings_of}
use Rattle.rows.specs.Row.{flat, pixel_row, trigger_row, counts_row}
use Rattle.rows.specs.Rules.{Verdict, accepted}
use Rattle.rows.specs.Runs.{Ending, finished, refused, Run}
use Rattle.words.specs.Machine.{Reached}
use Rattle.words.specs.Words.{bytes_of_all}
use Rattle.words.specs.Picture.{picture_of}
use Rattle.words.specs.Writer.{spelled, writing_verdict}
use Rattle.evt2.specs.declared.state.State as evt2_state
use Rattle.evt2.specs.Reader as evt2_reader
use Rattle.dat.specs.declared.state.State as dat_state
use Rattle.dat.specs.Reader as dat_reader
use Rattle.aedat.specs.declared.state.State as aedat_state
use Rattle.aedat.specs.Lines.{version_text, format_text, end_text}
use Rattle.aedat.specs.Reader as aedat_reader
use Rattle.evt3.specs.declared.state.State.{State}
use Rattle.evt3.specs.Reader.{reading_of}
use Rattle.evt3.specs.Spelling.{spelling}
use Rattle.evt3.specs.State.{fresh, with_high, with_time, with_y, with_base}

-- what is read, EVT2 or EVT3 words, for a picture of 2,048 by 2,048, or the bytes of a DAT or AEDAT file; or what is written as EVT3 words, rows
pub data Input : Type 0 where
  evt2 : List ℕ → Input
  evt3 : List ℕ → Input
  dat : List ℕ → Input
  aedat : List ℕ → Input
  to_evt3 : List Row → Input

-- how the reading ends: in a state (of DAT, the last time), or by a refusal at a place; of a writing the verdict and the words
pub data Final : Type 0 where
  evt2_ends : evt2_state.State → Final
  evt3_ends : State → Final
  dat_ends : ℕ → Final
  aedat_ends : aedat_state.State → Final
  refused_at : Fault → ℕ → Final
  writes : Verdict → List ℕ → Final

-- what is seen of an input: its rows, how the reading ends, and the readings of the rows that have any
pub record Seen : Type 0 where
  pub rows : List Row
  pub final : Final
  pub readings : List Float

-- the readings of an IMU row, kind 3 or 4, as its event carries them; no other row has any
abbrev pub event_readings : Result Event Fault → List Float
event_readings (Ok e) = readings_of e
event_readings (Err f) = []

abbrev pub row_readings : Row → List Float
row_readings r = cond (eqb r.kind 3) (event_readings (event_of r)) (cond (eqb r.kind 4) (event_readings (event_of r)) [])

abbrev pub all_readings : List Row → List Float
all_readings [] = []
all_readings (r ∷ rs) = row_readings r ++ all_readings rs

-- how a reading ends, where `name` says what is named of the last state
abbrev pub final_as : {S : Type 0} → (S → Final) → Ending S → Final
final_as name (finished s) = name s
final_as name (refused f place) = refused_at f place

abbrev pub seen_as : {S : Type 0} → (S → Final) → Run S → Seen
seen_as name run = record { rows = run.rows; final = final_as name run.ending; readings = all_readings run.rows }

abbrev pub evt3_written : List Row → Seen
evt3_written rs =
    record { rows = rs; final = writes (writing_verdict spelling (flat rs) 100) (spelled spelling (flat rs)); readings = all_readings rs }

-- with room for 100 rows, or 100 bytes, which no case fills
abbrev pub seen_of : Input → Seen
seen_of (evt2 ws) =
    seen_as (λ (r : Reached evt2_state.State). evt2_ends r.state) (evt2_reader.reading_of (picture_of 2048 2048) (bytes_of_all 4 ws) 100)
seen_of (evt3 ws) = seen_as (λ (r : Reached State). evt3_ends r.state) (reading_of (picture_of 2048 2048) (bytes_of_all 2 ws) 100)
seen_of (dat bytes) = seen_as (λ (r : Reached dat_state.State). dat_ends r.state.last) (dat_reader.reading_of bytes 100)
seen_of (aedat bytes) = seen_as aedat_ends (aedat_reader.reading_of bytes 100)
seen_of (to_evt3 rs) = evt3_written rs

-- a case, and that it holds
pub record Case : Type 0 where
  pub input : Input
  pub seen : Seen

abbrev pub EachHolds : List Case → Type 0
EachHolds [] = Unit {0}
EachHolds (c ∷ cs) = (seen_of c.input ≡ c.seen) × EachHolds cs

-- the state of an EVT3 reader after 8001 6002 0003
abbrev pub time_and_y : State
time_and_y = with_y (with_time (with_high fresh 1 0) 4098) 3 0

-- the state of an EVT2 reader that knows the high part 1, and has no group in hand
abbrev pub high_1 : evt2_state.State
high_1 = record { group = None; high = Some 1 }

-- the five CONTINUED of an IMU reading that is 0 but along X, and its other readings (a temperature of +0 stands for none)
abbrev pub still : List ℕ
still = 0xF0000000 ∷ 0xF0000000 ∷ 0xF0000000 ∷ 0xF0000000 ∷ 0xF0000000 ∷ []

abbrev pub zeros : List Float
zeros = plus_zero ∷ plus_zero ∷ plus_zero ∷ plus_zero ∷ plus_zero ∷ plus_zero ∷ []

-- a line of an AEDAT file: its text, CR and LF
abbrev pub aedat_line : List ℕ → List ℕ
aedat_line text = text ++ (13 ∷ 10 ∷ [])

-- an AEDAT file of one polarity event: the lines; a packet's type 1 and source 0; its size 8, offset 4, overflow, and capacity, number and
-- valid 1; the event's word and its time
abbrev pub one_polarity : ℕ → ℕ → ℕ → List ℕ
one_polarity overflow w time =
    aedat_line version_text ++ aedat_line format_text ++ aedat_line end_text ++ bytes_of_all 2 (1 ∷ 0 ∷ [])
    ++ bytes_of_all 4 (8 ∷ 4 ∷ overflow ∷ 1 ∷ 1 ∷ 1 ∷ w ∷ time ∷ [])

-- every starred case, in the order of 01
abbrev pub star_cases : List Case
star_cases =
    -- one pixel
    record {
      input = evt3 (0x8001 ∷ 0x6002 ∷ 0x0003 ∷ 0x2805 ∷ []);
      seen = record { rows = pixel_row 4098 5 3 1 ∷ []; final = evt3_ends time_and_y; readings = [] };
    }
    -- a high part put before a last pixel: the time stays
    ∷ record {
      input = evt3 (0x8001 ∷ 0x6002 ∷ 0x0003 ∷ 0x2805 ∷ 0x8002 ∷ 0x2005 ∷ []);
      seen =
          record {
            rows = pixel_row 4098 5 3 1 ∷ pixel_row 4098 5 3 0 ∷ [];
            final = evt3_ends (with_high time_and_y 2 0);
            readings = [];
          };
    }
    -- two vectors, after which the base is 30
    ∷ record {
      input = evt3 (0x8001 ∷ 0x6002 ∷ 0x0003 ∷ 0x300A ∷ 0x4005 ∷ 0x5081 ∷ []);
      seen =
          record {
            rows = pixel_row 4098 10 3 0 ∷ pixel_row 4098 12 3 0 ∷ pixel_row 4098 22 3 0 ∷ pixel_row 4098 29 3 0 ∷ [];
            final = evt3_ends (with_base time_and_y 30 0);
            readings = [];
          };
    }
    -- a wrap, without an event
    ∷ record {
      input = evt3 (0x8FFF ∷ 0x8000 ∷ 0x6000 ∷ []);
      seen = record { rows = []; final = evt3_ends (with_time (with_high fresh 0 1) 16777216); readings = [] };
    }
    -- EVT2: one pixel
    ∷ record {
      input = evt2 (0x80000001 ∷ 0x10802803 ∷ []);
      seen = record { rows = pixel_row 66 5 3 1 ∷ []; final = evt2_ends high_1; readings = [] };
    }
    -- then a trigger, of an earlier low time
    ∷ record {
      input = evt2 (0x80000001 ∷ 0x10802803 ∷ 0xA0000601 ∷ []);
      seen = record { rows = pixel_row 66 5 3 1 ∷ trigger_row 64 6 1 ∷ []; final = evt2_ends high_1; readings = [] };
    }
    -- an IMU reading of 1 g along X
    ∷ record {
      input = evt2 (0x80000001 ∷ 0xD0008000 ∷ still);
      seen = record { rows = counts_row 64 16384 0 0 0 0 0 ∷ []; final = evt2_ends high_1; readings = of_int binary32 (pos 1) ∷ zeros };
    }
    -- and of -2 g
    ∷ record {
      input = evt2 (0x80000001 ∷ 0xD0010000 ∷ still);
      seen = record { rows = counts_row 64 32768 0 0 0 0 0 ∷ []; final = evt2_ends high_1; readings = of_int binary32 (negsuc 1) ∷ zeros };
    }
    -- DAT: one pixel, after the two bytes that every file has there
    ∷ record {
      input = dat (0x00 ∷ 0x08 ∷ 0x64 ∷ 0x00 ∷ 0x00 ∷ 0x00 ∷ 0x05 ∷ 0xC0 ∷ 0x00 ∷ 0x10 ∷ []);
      seen = record { rows = pixel_row 100 5 3 1 ∷ []; final = dat_ends 100; readings = [] };
    }
    -- AEDAT: one pixel, overflow 1 and time 7
    ∷ record {
      input = aedat (one_polarity 1 0x000A000F 7);
      seen =
          record {
            rows = pixel_row 2147483655 5 3 1 ∷ [];
            final = aedat_ends (record { special = 0; polarity = 2147483655; imu = 0; source = Some 0 });
            readings = [];
          };
    }
    -- x 5, 6 and 40 written
    ∷ record {
      input = to_evt3 (pixel_row 4098 5 3 1 ∷ pixel_row 4098 6 3 1 ∷ pixel_row 4098 40 3 1 ∷ []);
      seen =
          record {
            rows = pixel_row 4098 5 3 1 ∷ pixel_row 4098 6 3 1 ∷ pixel_row 4098 40 3 1 ∷ [];
            final = writes accepted (0x8001 ∷ 0x6002 ∷ 0x0003 ∷ 0x3805 ∷ 0x4003 ∷ 0x2828 ∷ []);
            readings = [];
          };
    }
    -- one pixel, first at 33,554,432
    ∷ record {
      input = to_evt3 (pixel_row 33554432 5 3 1 ∷ []);
      seen =
          record {
            rows = pixel_row 33554432 5 3 1 ∷ [];
            final = writes accepted (0x8FFF ∷ 0x8000 ∷ 0x8FFF ∷ 0x8000 ∷ 0x6000 ∷ 0x0003 ∷ 0x2805 ∷ []);
            readings = [];
          };
    }
    ∷ []

-- the statement
abbrev pub StarCases : Type 0
StarCases = EachHolds star_cases
