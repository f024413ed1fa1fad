-- `summary::writer::put_block` meets its contract: what the field begins with, the times and the numbers, one after the other.
use Rattle.std.proofs.Common.{ℕ, List, take, drop, length, ap, subst, arith, length-take, length-drop}
use Rattle.words.specs.Words.{bytes_of}
use Rattle.words.specs.Writer.{PutWords}
use Rattle.words.proofs.Writes.{put_length}
use Rattle.summary.specs.Stored.{field, block_bytes}
use Rattle.summary.proofs.Putting.{puts_long, puts_words, puts_then, head_length}
use Rattle.summary.proofs.writer.put_block.Goals as goal

pub put_words-kinds-requires : goal.put_words-kinds-requires
put_words-kinds-requires c = omega (arith, head_length 2 56, puts_long c.put_head-times.ensures, c.put_head-times.ensures.place, ap length c.numbers-numbers.ensures, length-take 4 c.numbers-numbers.result)

pub put_words-requires : goal.put_words-requires
put_words-requires c = omega (arith, head_length 2 56, puts_long c.put_head-times.ensures, put_length c.put_words-kinds.ensures, c.put_head-times.ensures.place, c.put_words-kinds.ensures.place, ap length c.numbers-numbers.ensures, length-take 4 c.numbers-numbers.result, length-take 6 (drop 4 c.numbers-numbers.result), length-drop 4 c.numbers-numbers.result)

pub returns : goal.returns
unfolding field block_bytes bytes_of
returns c =
    let times = subst (λ (ns : List ℕ). PutWords 8 (take 4 ns) c.put_head-times.new.out c.put_head-times.result c.put_words-kinds.new.out c.put_words-kinds.result) c.numbers-numbers.ensures c.put_words-kinds.ensures in
    let kinds = subst (λ (ns : List ℕ). PutWords 4 (take 6 (drop 4 ns)) c.put_words-kinds.new.out c.put_words-kinds.result c.put_words.new.out c.put_words.result) c.numbers-numbers.ensures c.put_words.ensures in
    puts_then (puts_then c.put_head-times.ensures (puts_words times)) (puts_words kinds)
