-- Each law of specs/Promises.antt, proved.
use mathlib.Core.Path.{◌≡◌, refl, ◌∙◌, ap}
use Prim.Native.Nat.{ℕ, ◌+◌, ◌*◌}
use native.Mathlib.Omega.{arith}
use lib.ListN.{drop}
use borrow.Author.Tests.{le-leb}
use Rattle.words.specs.Words.{words_of}
use Rattle.std.specs.Prelude.{Option}
use Rattle.join.specs.Promises.{LaterTime, JoinPartWay, SeenExact, passed_at, WholeExact, NoneMissing}
use Rattle.join.specs.Seen.{none_seen, whole_from}
use Rattle.join.proofs.Later as later
use Rattle.join.proofs.PartWay.{joins}
use Rattle.join.proofs.Places.{passed}
use Rattle.join.proofs.Types.{four_seen, seen_four}

pub later_time : LaterTime
later_time = later.later_time

pub join_part_way : JoinPartWay
join_part_way p bytes k room end h e = joins p bytes k room end h e

pub seen_exact : SeenExact
seen_exact ws = (four_seen ws, seen_four ws)

pub whole_exact : WholeExact
whole_exact bytes i =
    let at : 0 + i * 2 ≡ i * 2 = omega arith in
    passed (words_of 2 bytes) none_seen 0 i refl ∙ ap (passed_at (whole_from bytes)) at

pub none_missing : NoneMissing
none_missing p bytes k room j place e i h =
    (j.agrees i).all (whole_exact (drop (k * 2) bytes) i ∙ ap (λ (w : Option ℕ). passed_at w (i * 2)) e ∙ le-leb place (i * 2) h)
