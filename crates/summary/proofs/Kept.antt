-- Each law of specs/Promises.antt, proved.
use mathlib.Core.Path.{refl}
use native.Mathlib.Omega.{arith}
use mathlib.Core.List.{flat_map}
use Rattle.words.specs.Words.{bytes_of}
use Rattle.summary.specs.declared.reader.Refusal.TheVariants.{TooLong, NoRoom, BadSummary}
use Rattle.summary.specs.Blocks.{blocks_by, blocks_of, summary_of}
use Rattle.summary.specs.Stored.{field, stored_of}
use Rattle.summary.specs.Promises.{BlocksAreList, TimesExact, KindsAdd, KindsAll, SevenUnused, VerdictAll, BlockNumbersLength, StoredLength, StoredEmpty, SummaryHeld, SummaryBack}
use Rattle.summary.proofs.Judging.{accepted_all, all_accepted}
use Rattle.summary.proofs.KindNumbers as kind-numbers
use Rattle.summary.proofs.ListCut as cut
use Rattle.summary.proofs.ReadBack as back
use Rattle.summary.proofs.StoredLength as stored
use Rattle.summary.proofs.Times as times

pub blocks_are_list : BlocksAreList
blocks_are_list = cut.blocks_are_list

pub times_exact : TimesExact
times_exact = times.times_exact

pub kinds_add : KindsAdd
kinds_add = kind-numbers.kinds_add

pub kinds_all : KindsAll
kinds_all = kind-numbers.kinds_all

pub seven_unused : SevenUnused
seven_unused TooLong e = omega arith
seven_unused NoRoom e = omega arith
seven_unused BadSummary e = omega arith

pub verdict_all : VerdictAll
verdict_all test rs i last = (accepted_all test rs i last, all_accepted test rs i last)

pub block_numbers_length : BlockNumbersLength
block_numbers_length = cut.block_numbers_length

pub stored_length : StoredLength
stored_length = stored.stored_length

pub stored_empty : StoredEmpty
unfolding stored_of field bytes_of summary_of blocks_of blocks_by flat_map
stored_empty = refl

pub summary_held : SummaryHeld
summary_held = back.summary_held

pub summary_back : SummaryBack
summary_back = back.summary_back
