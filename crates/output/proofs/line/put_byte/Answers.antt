-- The text up to the next place is the text before with the byte after it.
use mathlib.Core.Path.{refl}
use native.Mathlib.Omega.{arith}
use Rattle.output.proofs.Pushed.{pushed}
use Rattle.output.proofs.line.put_byte.Goals as goal

pub returns : goal.returns
returns c =
    record { next = refl; text = pushed _ _ _ (omega arith) }
