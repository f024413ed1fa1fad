-- `words::writer::write` meets its contract.
use mathlib.Core.Path.{sym, ◌∙◌}
use Rattle.std.proofs.lemmas.Result.{err_from_is_err_and}
use Rattle.words.proofs.Writings.{walked_bad_list, walked_refused, walked_full, walked_all}
use Rattle.words.proofs.writer.write.Goals as goal

pub returns-then-not-good_length : goal.returns-then-not-good_length
returns-then-not-good_length g c = walked_bad_list _ _ (sym c.good_length.ensures ∙ c.if-not-good_length.true)

pub returns-in_err-words : goal.returns-in_err-words
returns-in_err-words g c =
    let e = err_from_is_err_and c.from_residual.result c.from_residual.ensures.1 in
    rw (e.1, e.2) (walked_refused _ _ (sym c.good_length.ensures ∙ c.if-not-good_length.false) c.count.ensures c.in_err-words.was)

pub returns-then-room-words : goal.returns-then-room-words
returns-then-room-words g c =
    walked_full _ _ (sym c.good_length.ensures ∙ c.if-not-good_length.false) c.count.ensures c.in_ok-words.was c.room.ensures c.if-room-words.true

pub returns : goal.returns
returns g c =
    walked_all _ _ (sym c.good_length.ensures ∙ c.if-not-good_length.false) c.count.ensures c.in_ok-words.was c.room.ensures c.if-room-words.false c.put_rows.ensures
