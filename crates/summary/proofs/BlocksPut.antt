-- The fields of the blocks, put one by one.
use mathlib.Core.Path.{◌≡◌, refl, sym, ◌∙◌, ap, ap₂}
use Prim.Native.Nat.{ℕ, suc, ◌+◌, ◌-◌, ◌*◌, ◌≤◌, ◌<◌, min}
use native.Mathlib.Omega.{arith}
use mathlib.Core.List.{List, ◌∷◌}
use lib.ListN.{length}
use lib.Seq.{sets, length-sets}
use Rattle.rows.specs.declared.row.Row.{Row}
use Rattle.rows.specs.Row.{room_of, rows_from, rows_of}
use Rattle.rows.proofs.Lists.{rest_all}
use Rattle.rows.proofs.Stored.{sets_append}
use Rattle.summary.specs.declared.Block.{Block}
use Rattle.summary.specs.Blocks.{block_count, block_of, summary_of}
use Rattle.summary.specs.Stored.{block_field, block_fields}
use Rattle.summary.specs.Writer.{Puts}
use Rattle.summary.proofs.EachOf.{each_next, each_none}
use Rattle.summary.proofs.RowsCut.{summary_next, summary_none}
use Rattle.summary.proofs.StoredLength.{block_field_length}

-- the fields of j blocks are put, and `at` is the place after them; with those of the other blocks the buffer becomes what it is to be
pub record PuttingBlocks (l old : List ℕ) (from : ℕ) (out : List ℕ) (at j : ℕ) : Type 0 where
  pub long : length out ≡ length old
  pub room : at + block_count (room_of l - j * 256) * 59 ≤ length old
  pub same : sets out at (block_fields (summary_of (rows_from l (j * 256) (room_of l - j * 256)))) ≡ sets old from (block_fields (summary_of (rows_of l)))

pub putting_blocks : (l old : List ℕ) (from : ℕ) → from + block_count (room_of l) * 59 ≤ length old → PuttingBlocks l old from old from 0
putting_blocks l old from h =
    let all : room_of l - 0 * 256 ≡ room_of l = omega arith in
    record {
      long = refl;
      room = omega (arith, ap block_count all);
      same = ap (λ (rs : List Row). sets old from (block_fields (summary_of rs))) (sym (rest_all l));
    }

module _ {l old : List ℕ} {from : ℕ} {out : List ℕ} {at j : ℕ} (p : PuttingBlocks l old from out at j) (h : j < block_count (room_of l)) {to : ℕ} (e : to ≡ min (room_of l) (j * 256 + 256)) where
  pub next_block : {b : Block} → b ≡ block_of (rows_from l (j * 256) (to - j * 256)) → {new : List ℕ} {place : ℕ} → Puts (block_field b) out at new place → PuttingBlocks l old from new place (j + 1)
  next_block {b} f {new} {place} g =
      let m : ℕ = room_of l - j * 256 in
      let taken : min 256 m ≡ to - j * 256 = omega arith in
      let next : j * 256 + 256 ≡ (j + 1) * 256 = omega arith in
      let left : m - 256 ≡ room_of l - (j + 1) * 256 = omega arith in
      let one : block_count m ≡ suc (block_count (room_of l - (j + 1) * 256)) = omega arith in
      let rest : List Block = summary_of (rows_from l ((j + 1) * 256) (room_of l - (j + 1) * 256)) in
      let rows : summary_of (rows_from l (j * 256) m) ≡ b ∷ rest =
      summary_next l (j * 256) m (omega arith)
      ∙ ap₂ (λ (k i : ℕ). block_of (rows_from l (j * 256) k) ∷ summary_of (rows_from l i (m - 256))) taken next
      ∙ ap₂ (λ (x : Block) (k : ℕ). x ∷ summary_of (rows_from l ((j + 1) * 256) k)) (sym f) left in
      record {
        long = ap length g.wrote ∙ length-sets out at (block_field b) ∙ p.long;
        room = omega (arith, p.room, g.place, block_field_length b);
        same =
            ap₂ (λ (o : List ℕ) (k : ℕ). sets o k (block_fields rest)) g.wrote g.place
            ∙ sym (sets_append (block_field b) (block_fields rest) out at)
            ∙ ap (sets out at) (sym (each_next block_field b rest))
            ∙ ap (λ (bs : List Block). sets out at (block_fields bs)) (sym rows)
            ∙ p.same;
      }

pub blocks_put : {l old : List ℕ} {from : ℕ} {out : List ℕ} {at j : ℕ} → PuttingBlocks l old from out at j → block_count (room_of l) ≤ j → out ≡ sets old from (block_fields (summary_of (rows_of l)))
blocks_put {l} {old} {from} {out} {at} {j} p h =
    let none : 0 ≡ room_of l - j * 256 = omega arith in
    ap (sets out at) (sym (each_none block_field))
    ∙ ap (λ (bs : List Block). sets out at (block_fields bs)) (sym (summary_none l (j * 256)) ∙ ap (λ (k : ℕ). summary_of (rows_from l (j * 256) k)) none)
    ∙ p.same
