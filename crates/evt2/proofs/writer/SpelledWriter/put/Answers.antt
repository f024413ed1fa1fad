-- `evt2::writer::Spelled::put` meets its contract.
use Rattle.words.proofs.Sinks.{put_both}
use Rattle.evt2.proofs.writer.SpelledWriter.put.Goals as goal

pub returns-clause-put : goal.returns-clause-put
returns-clause-put g c = put_both (rw c.time-time.ensures at c.put_clock-event.ensures) c.put_event.ensures
