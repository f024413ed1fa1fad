-- Each law of specs/Promises.antt, proved.
use mathlib.Core.Path.{◌≡◌, refl}
use Prim.Native.Nat.{◌-◌}
use native.Mathlib.Omega.{arith}
use lib.ListN.{length, drop, length-append, length-drop}
use lib.Seq.{take-append_seam, drop-append_seam}
use Rattle.rows.specs.declared.fault.Fault.TheVariants.{TooLong, NoRoom, Reserved, Cut, BadTime, Outside, Stray, BadHeader, BadPacket, ClockReset, BadRow, BadList, BadPicture}
use Rattle.rows.specs.Runs.{Ending, finished, refused, resume, and_then}
use Rattle.rows.specs.Promises.{RowsOfFlat, FlatOfRows, OverKept, SevenUnused, KindsNamed, FiveRefused, CameraRefused, GoodTimely, MadeGood, GoodIsMade, VerdictWritable, AndThenGrouped}
use Rattle.rows.proofs.GoodRows.{kind_named, named_kind, five_bad, camera_bad, timed_time, camera_good, trigger_good, counts_good, singles_good, special_good}
use Rattle.rows.proofs.GoodRows as rules
use Rattle.rows.proofs.Judging.{accepted_writable, writable_accepted}
use Rattle.rows.proofs.Lists as lists
use Rattle.rows.proofs.MadeRows.{good_made}
use Rattle.rows.proofs.Sequence.{prepend_then}

pub rows_of_flat : RowsOfFlat
rows_of_flat = lists.rows_of_flat

pub flat_of_rows : FlatOfRows
flat_of_rows = lists.flat_of_rows

pub over_kept : OverKept
over_kept =
    record {
      front = λ new old. take-append_seam new (drop (length new) old);
      rest = λ new old. drop-append_seam new (drop (length new) old);
      long = λ new old h. omega (arith, length-append new (drop (length new) old), length-drop (length new) old);
    }

pub seven_unused : SevenUnused
seven_unused TooLong e = omega arith
seven_unused NoRoom e = omega arith
seven_unused Reserved e = omega arith
seven_unused Cut e = omega arith
seven_unused BadTime e = omega arith
seven_unused Outside e = omega arith
seven_unused Stray e = omega arith
seven_unused BadHeader e = omega arith
seven_unused BadPacket e = omega arith
seven_unused ClockReset e = omega arith
seven_unused BadRow e = omega arith
seven_unused BadList e = omega arith
seven_unused BadPicture e = omega arith

pub kinds_named : KindsNamed
kinds_named n k = (kind_named n k, named_kind n k)

pub five_refused : FiveRefused
five_refused = five_bad

pub camera_refused : CameraRefused
camera_refused = camera_bad

pub good_timely : GoodTimely
good_timely = rules.good_timely

pub made_good : MadeGood
made_good =
    record {
      time = timed_time;
      pixel = λ t x y p c h. camera_good t h x y p c;
      trigger = λ t c e h. trigger_good t h c e;
      counts = λ t ax ay az rx ry rz h. counts_good t h ax ay az rx ry rz;
      singles = λ t ax ay az rx ry rz k h. singles_good t h ax ay az rx ry rz k;
      special = λ t c n h. special_good t h c n;
    }

pub good_is_made : GoodIsMade
good_is_made = good_made

pub verdict_writable : VerdictWritable
verdict_writable writable rs i last = (accepted_writable writable rs i last, writable_accepted writable rs i last)

pub and_then_grouped : AndThenGrouped
and_then_grouped S T U r room f g = go r.ending
  where
    go : (e : Ending S) → and_then (resume r.rows e room f) room g ≡ resume r.rows e room (λ s room'. and_then (f s room') room' g)
    go (finished s) = prepend_then r.rows (f s (room - length r.rows)) room g
    go (refused q place) = refl
