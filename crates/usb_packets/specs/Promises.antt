-- The laws of this crate, each proved in proofs/Kept.antt under the name in lower case (`PacketCases` as `packet_cases_lem`, since its cases have the name).
use Rattle.std.specs.Prelude.{◌≡◌, ℕ, Bool, not, List, [], ◌∷◌, eqb}
use Rattle.rows.specs.declared.fault.Fault.TheVariants.{NoRoom, Cut, Stray}
use Rattle.rows.specs.declared.row.Row.{Row}
use Rattle.rows.specs.Row.{only}
use Rattle.rows.specs.Runs.{finished, refused, Run, Finishes}
use Rattle.words.specs.declared.picture.Picture.{Picture}
use Rattle.words.specs.Machine.{Reached}
use Rattle.words.specs.Words.{bytes_of_all}
use Rattle.evt2.specs.Reader.{reading_of}
use Rattle.raw.specs.declared.reader.Format.TheVariants.{Evt2}
use Rattle.raw.specs.Reader as raw
use Rattle.usb_packets.specs.Before.{Before, packet_row, read_before, words_before, read_raw_before}

-- rows but those of kind 5
abbrev pub not_five : Row → Bool
not_five r = not (eqb r.kind 5)

abbrev pub without_packets : List Row → List Row
without_packets = only not_five

-- 02, R-11: what was read without a refusal is read as before without those rows, in equal room
abbrev pub PacketsGone : Type 0
PacketsGone = (p : Picture) (bytes : List ℕ) (room : ℕ) (r : Reached Before) → (read_before p bytes room).ending ≡ finished r
    → Finishes (reading_of p bytes room) (without_packets (read_before p bytes room).rows)

-- and so are RAW files of EVT2 words, with any header
abbrev pub RawPacketsGone : Type 0
RawPacketsGone = (bytes : List ℕ) (room : ℕ) → (read_raw_before bytes room).ending ≡ finished tt
    → Finishes (raw.reading_of Evt2 bytes room) (without_packets (read_raw_before bytes room).rows)

-- cases of what was done before: words, the room for rows, and what they gave in a picture of 2,048 by 2,048
pub record Case : Type 0 where
  pub words : List ℕ
  pub room : ℕ
  pub run : Run (Unit {0})

abbrev pub EachHolds : List Case → Type 0
EachHolds [] = Unit {0}
EachHolds (c ∷ cs) = (words_before 2048 2048 (bytes_of_all 4 c.words) c.room ≡ c.run) × EachHolds cs

abbrev pub packet_cases : List Case
packet_cases =
    -- before the clock, the parts of the count and of the system time
    record {
      words = 0xE00000FE ∷ 0xF1230000 ∷ 0xFAB45678 ∷ 0xF1234567 ∷ 0xF89ABCDE ∷ [];
      room = 1;
      run = record { rows = packet_row 0 305419896 2870096982 2023406814 ∷ []; ending = finished tt };
    } ∷
    -- after it, every bit
    record {
      words = 0x80000001 ∷ 0xEFFF00FE ∷ 0xFFFFFFFF ∷ 0xFFFFFFFF ∷ 0xFFFFFFFF ∷ 0xFFFFFFFF ∷ [];
      room = 1;
      run = record { rows = packet_row 1 4294967295 4294967295 4294967295 ∷ []; ending = finished tt };
    } ∷
    -- bits that are not used; then a CONTINUED too many
    record {
      words = 0xE00000FE ∷ 0xF0007FFF ∷ 0xF0000000 ∷ 0xF0000000 ∷ 0xF0000000 ∷ 0xF0000001 ∷ [];
      room = 1;
      run = record { rows = packet_row 0 0 0 0 ∷ []; ending = finished tt };
    } ∷
    -- OTHERS of another subtype
    record { words = 0xE00100FF ∷ 0xF0008000 ∷ []; room = 1; run = record { rows = []; ending = finished tt } } ∷
    -- a packet cut, one that goes on with another's first word, and one without room
    record { words = 0x80000001 ∷ 0xE00000FE ∷ 0xF0008000 ∷ 0xF0000003 ∷ 0xF0000000 ∷ []; room = 1; run = record { rows = []; ending = refused Cut 4 } } ∷
    record { words = 0xE00000FE ∷ 0xE00000FE ∷ []; room = 1; run = record { rows = []; ending = refused Stray 4 } } ∷
    record {
      words = 0x80000001 ∷ 0xE00000FE ∷ 0xF0008000 ∷ 0xF0000003 ∷ 0xF0000000 ∷ 0xF0000004 ∷ [];
      room = 0;
      run = record { rows = []; ending = refused NoRoom 4 };
    } ∷
    []

abbrev pub PacketCases : Type 0
PacketCases = EachHolds packet_cases
