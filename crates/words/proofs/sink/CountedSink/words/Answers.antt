-- `words::sink::Counted::words` meets its contract.
use mathlib.Core.Path.{refl, sym, ◌∙◌}
use native.Mathlib.Omega.{arith}
use Rattle.words.proofs.Sinks.{places_min}
use Rattle.words.proofs.sink.CountedSink.words.Goals as goal

pub returns : goal.returns
returns g c = record { place = c.saturating_add.ensures ∙ sym (places_min 18446744073709551615 c.args.at c.args.words.now (omega (arith, c.ranges.at.fits))); wrote = refl }
