-- Each law of specs/Promises.antt, proved.
use mathlib.Core.Path.{◌≡◌, refl}
use Prim.Native.Nat.{ℕ}
use mathlib.Core.List.{List}
use lib.ListN.{length, drop}
use Rattle.rows.specs.Runs.{Ending, finished, refused, Run, ending_as, ending_from, run_from, Finishes}
use Rattle.rows.proofs.Sequence.{not_finished}
use Rattle.rows.proofs.Viewed.{finishes_as, finishes_from}
use Rattle.words.specs.declared.picture.Picture.{Picture}
use Rattle.std.specs.Prelude.{Result, Ok, Err, ⊤}
use Rattle.rows.specs.declared.fault.Fault.{Fault}
use Rattle.words.specs.Machine.{Reached, read_from}
use Rattle.words.specs.Picture.{picture_of, admission_of, admitted}
use Rattle.words.specs.Words.{cut_by, words_of, bytes_of}
use Rattle.words.proofs.Kept.{kept_up}
use Rattle.header.specs.declared.reader.Header.{Header}
use Rattle.header.specs.declared.reader.HeaderError.{HeaderError}
use Rattle.header.specs.Header.{header_of, after_header}
use Rattle.evt2.specs.State.{fresh}
use Rattle.evt2.specs.Words as evt2
use Rattle.evt2.specs.Reader.{machine, reading_of}
use Rattle.raw.specs.declared.reader.Format.TheVariants.{Evt2}
use Rattle.raw.specs.Reader.{words_as}
use Rattle.raw.proofs.Words.{evt2_words_lem}
use Rattle.usb_packets.specs.Before.{Before, fresh_before, machine_before, read_before, words_before}
use Rattle.usb_packets.specs.Promises.{not_five, without_packets, PacketsGone, RawPacketsGone, PacketCases}
use Rattle.usb_packets.proofs.PassedBy.{Alike, fresh_alike, keeps_up}

pub packets_gone : PacketsGone
packets_gone p bytes room r e = go (admission_of (length bytes) p) e
  where
    old : Run (Reached Before)
    old = read_from (machine_before p) bytes fresh_before 0 room

    go : (a : Result ⊤ Fault) → (admitted a old).ending ≡ finished r
        → Finishes (admitted a (read_from (machine p) bytes fresh 0 room)) (without_packets (admitted a old).rows)
    go (Ok done) e = kept_up _ _ (machine_before p) (machine p) not_five Alike (keeps_up p) bytes fresh_before fresh 0 room fresh_alike r e
    go (Err f) e = not_finished e

-- the words after a header
data_gone : (bytes : List ℕ) (room at width height : ℕ) → (run_from at (words_before width height (drop at bytes) room)).ending ≡ finished tt
    → Finishes (run_from at (words_as Evt2 width height (drop at bytes) room)) (without_packets (words_before width height (drop at bytes) room).rows)
data_gone bytes room at width height e =
    rw (evt2_words_lem width height (drop at bytes) room) (finishes_from (finishes_as (go (read_before p (drop at bytes) room).ending refl e) _) at)
  where
    p : Picture
    p = picture_of width height

    untold : Reached Before → Unit {0}
    untold _ = tt

    go : (o : Ending (Reached Before)) → (read_before p (drop at bytes) room).ending ≡ o → ending_from at (ending_as untold o) ≡ finished tt
        → Finishes (reading_of p (drop at bytes) room) (without_packets (read_before p (drop at bytes) room).rows)
    go (finished r) is e = packets_gone p (drop at bytes) room r is
    go (refused f place) is e = not_finished e

pub raw_packets_gone : RawPacketsGone
raw_packets_gone bytes room e = go (header_of 2048 bytes) e
  where
    old : ℕ → ℕ → ℕ → Run (Unit {0})
    old at width height = run_from at (words_before width height (drop at bytes) room)

    go : (h : Result Header HeaderError) → (after_header h old).ending ≡ finished tt
        → Finishes (after_header h (λ at width height. run_from at (words_as Evt2 width height (drop at bytes) room))) (without_packets (after_header h old).rows)
    go (Ok h) e = data_gone bytes room h.at h.width h.height e
    go (Err f) e = not_finished e

pub packet_cases_lem : PacketCases
unfolding admission_of cut_by words_of bytes_of evt2.step evt2.kind_in evt2.kind_of evt2.goes_back
packet_cases_lem = (refl, (refl, (refl, (refl, (refl, (refl, (refl, tt)))))))
