-- What was stored is read again.
use mathlib.Core.Path.{◌≡◌, refl, ◌∙◌, ap, ap₂}
use Prim.Native.Nat.{ℕ, suc, ◌+◌, ◌*◌, ◌%◌, ◌^◌, ◌≤◌, ◌<◌}
use native.Mathlib.Omega.{arith}
use mathlib.Core.Bool.{Bool, cond}
use mathlib.Core.List.{List, [], ◌∷◌, ◌++◌}
use lib.ListN.{length, take, drop, length-append}
use lib.Seq.{take-append_seam, drop-append_seam}
use borrow.Author.Tests.{eq-eqb, le-leb, le-ltb}
use Rattle.rows.specs.declared.row.Row.{Row}
use Rattle.rows.specs.Row.{room_of, rows_of}
use Rattle.rows.specs.Rules.{AllGood, good_row, accepted}
use Rattle.rows.proofs.Judging.{few_rows}
use Rattle.rows.proofs.Kept.{over_kept}
use Rattle.rows.proofs.Lists.{rows_of_length}
use Rattle.words.specs.Words.{value, bytes_of}
use Rattle.words.specs.Writer.{writing_of, written_over}
use Rattle.words.proofs.Bytes.{bytes_length}
use Rattle.summary.specs.declared.Block.{Block}
use Rattle.std.specs.Prelude.{Result, Ok}
use Rattle.summary.specs.declared.reader.Refusal.{Refusal}
use Rattle.summary.specs.Blocks.{block_count, summary_of, block_numbers}
use Rattle.summary.specs.Stored.{field, block_bytes, block_field, block_fields, stored_as, stored_of}
use Rattle.summary.specs.Fields.{Fields, tagged, size_of, span_of, fields_of, block_from, Held, held, none, before, blocks_from, held_in}
use Rattle.summary.specs.Reader.{answer_of, left_in}
use Rattle.summary.specs.Verdicts.{in_any_order}
use Rattle.summary.specs.Writer.{summary_verdict}
use Rattle.summary.specs.Promises.{SummaryBack}
use Rattle.summary.proofs.Bytes.{value_bytes}
use Rattle.summary.proofs.EachOf.{each_next, each_none}
use Rattle.summary.proofs.FieldByField.{fields_none, fields_next}
use Rattle.summary.proofs.GoodBlocks.{Fits, AllFit, summary_fits}
use Rattle.summary.proofs.Judging.{accepted_all, accepted_rows}
use Rattle.summary.proofs.ListCut.{summary_length, block_numbers_length}
use Rattle.summary.proofs.StoredLength.{block_length, stored_length}
use Rattle.summary.proofs.Writers.{room_long}

-- a field at the front of bytes
field_front_lem : (tag : ℕ) (contents rest : List ℕ) → tag < 256 → length contents < 65536 → fields_of (field tag contents ++ rest) ≡ tagged tag contents (fields_of rest)
unfolding field bytes_of
field_front_lem tag contents rest t h =
    let l : List ℕ = field tag contents ++ rest in
    let same : tag % 256 ≡ tag = omega arith in
    let three : 3 + length contents ≡ suc (suc (suc (length contents))) = omega arith in
    let size : size_of l ≡ length contents = omega arith in
    let long : span_of l ≤ length l = omega (arith, length-append contents rest) in
    fields_next l long
    ∙ ap (λ (n : ℕ). tagged n (take (size_of l) (contents ++ rest)) (fields_of (drop (span_of l) l))) same
    ∙ ap (λ (n : ℕ). tagged tag (take n (contents ++ rest)) (fields_of (drop (3 + n) l))) size
    ∙ ap (λ (n : ℕ). tagged tag (take (length contents) (contents ++ rest)) (fields_of (drop n l))) three
    ∙ ap₂ (λ (c r : List ℕ). tagged tag c (fields_of r)) (take-append_seam contents rest) (drop-append_seam contents rest)

-- a block's numbers stand in its contents
block_back : (b : Block) → Fits b → block_from (block_bytes b) ≡ b
unfolding block_from block_bytes bytes_of
block_back b f =
    λ i.
    record {
      first = value_bytes 8 b.first f.first i;
      last = value_bytes 8 b.last f.last i;
      smallest = value_bytes 8 b.smallest f.smallest i;
      largest = value_bytes 8 b.largest f.largest i;
      pixels = value_bytes 4 b.pixels f.pixels i;
      triggers = value_bytes 4 b.triggers f.triggers i;
      counts = value_bytes 4 b.counts f.counts i;
      singles = value_bytes 4 b.singles f.singles i;
      packets = value_bytes 4 b.packets f.packets i;
      specials = value_bytes 4 b.specials f.specials i;
    }

block_front : (b : Block) (rest : List ℕ) → Fits b → fields_of (block_field b ++ rest) ≡ Fields.block b (fields_of rest)
block_front b rest f =
    field_front_lem 2 (block_bytes b) rest (omega arith) (omega (arith, block_length b))
    ∙ ap (λ (t : Bool). cond t (Fields.block (block_from (block_bytes b)) (fields_of rest)) Fields.faulty) (eq-eqb _ _ (block_length b))
    ∙ ap (λ (x : Block). Fields.block x (fields_of rest)) (block_back b f)

blocks_back : (n j : ℕ) (bs : List Block) → AllFit n j bs → blocks_from n j (fields_of (block_fields bs)) ≡ held n bs
unfolding blocks_from
blocks_back n j [] h = ap (λ (l : List ℕ). blocks_from n j (fields_of l)) (each_none block_field) ∙ rw (fields_none [] refl, eq-eqb j (block_count n) h) refl
blocks_back n j (b ∷ bs) h =
    ap (λ (l : List ℕ). blocks_from n j (fields_of l)) (each_next block_field b bs)
    ∙ ap (blocks_from n j) (block_front b (block_fields bs) h.0)
    ∙ ap (λ (t : Bool). cond t (before b (blocks_from n (suc j) (fields_of (block_fields bs)))) none) h.1
    ∙ ap (before b) (blocks_back n (suc j) bs h.2)

stored_back : (n : ℕ) (bs : List Block) → n < 256 ^ 4 → AllFit n 0 bs → held_in (fields_of (stored_as n bs)) ≡ held n bs
unfolding held_in
stored_back n bs h f =
    ap held_in (field_front_lem 1 (bytes_of 4 n) (block_fields bs) (omega arith) (omega (arith, bytes_length 4 n)))
    ∙ ap (λ (t : Bool). held_in (cond t (Fields.count (value (bytes_of 4 n)) (fields_of (block_fields bs))) Fields.faulty)) (eq-eqb _ _ (bytes_length 4 n))
    ∙ ap (λ (m : ℕ). blocks_from m 0 (fields_of (block_fields bs))) (value_bytes 4 n h)
    ∙ blocks_back n 0 bs f

pub summary_held : (rs : List Row) → AllGood rs → length rs ≤ 16777216 → held_in (fields_of (stored_of rs)) ≡ held (length rs) (summary_of rs)
unfolding stored_of
summary_held rs h few = stored_back (length rs) (summary_of rs) (omega arith) (summary_fits rs h)

-- what the writer's promise and the reader's together say
pub summary_back : SummaryBack
unfolding answer_of block_numbers
summary_back l ok out out' w long wrote old new r room read =
    record {
      written = wrote.answer ∙ ap (λ (v : _). writing_of v (length stored)) verdict;
      rows = read.answer ∙ ap (λ (b : List ℕ). answer_of b (length old)) bytes ∙ answer;
      back =
          read.wrote
          ∙ ap (λ (b : List ℕ). left_in (answer_of b (length old)) (held_in (fields_of b)) old) bytes
          ∙ ap₂ (λ (a : Result ℕ Refusal) (h : Held). left_in a h old) answer holds;
    }
  where
    stored : List ℕ
    stored = stored_of (rows_of l)

    good : AllGood (rows_of l)
    good = accepted_all good_row (rows_of l) 0 0 (accepted_rows (in_any_order good_row) l ok).1

    few : room_of l ≤ 16777216
    few = few_rows l (accepted_rows (in_any_order good_row) l ok).0

    verdict : summary_verdict l (length out) ≡ accepted
    verdict = room_long (in_any_order good_row) l (length stored) (length out) ok long

    bytes : take (length stored) out' ≡ stored
    bytes = ap (take (length stored)) (wrote.wrote ∙ ap (λ (v : _). written_over v stored out) verdict) ∙ over_kept.front stored out

    holds : held_in (fields_of stored) ≡ held (length (rows_of l)) (summary_of (rows_of l))
    holds = summary_held (rows_of l) good (omega (arith, few, rows_of_length l))

    answer : answer_of stored (length old) ≡ Ok (room_of l)
    answer =
        let short : length stored ≤ 1073741824 = omega (arith, few, stored_length (rows_of l), rows_of_length l) in
        let fits : length (summary_of (rows_of l)) * 10 ≤ length old = omega (arith, room, block_numbers_length (rows_of l), summary_length (rows_of l)) in
        rw (le-ltb 1073741824 (length stored) short, holds, le-leb _ _ fits) (ap Ok (rows_of_length l))
