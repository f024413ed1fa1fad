-- `evt3::writer::write` meets its contract.
use mathlib.Core.Path.{refl}
use native.Mathlib.Omega.{arith}
use Rattle.words.proofs.Writers.{spelled_as}
use Rattle.evt3.proofs.RowSteps.{spells}
use Rattle.evt3.proofs.writer.write.Goals as goal

pub returns : goal.returns
returns c = spelled_as spells refl (omega arith) _ _ c.write.ensures
