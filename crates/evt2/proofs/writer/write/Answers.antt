-- `evt2::writer::write` meets its contract.
use mathlib.Core.Path.{refl}
use native.Mathlib.Omega.{arith}
use Rattle.words.proofs.Writers.{spelled_as}
use Rattle.evt2.proofs.Spelled.{walks}
use Rattle.evt2.proofs.writer.write.Goals as goal

pub returns : goal.returns
returns c = spelled_as walks refl (omega arith) _ _ c.write.ensures
