-- `scratch_at` meets its contract: the offset is one of 96 to 116, so that nothing is lost.
use mathlib.Core.Path.{refl}
use native.Mathlib.Omega.{arith}
use Rattle.memory.proofs.Scratch.{scratch_offsets}
use Rattle.memory.proofs.frame.scratch_at.Goals as goal

pub overflow_sub-result : goal.overflow_sub-result
overflow_sub-result c = (scratch_offsets _ c.requires).low

pub overflow_cast-result : goal.overflow_cast-result
overflow_cast-result c = omega (arith, (scratch_offsets _ c.requires).high)

pub returns : goal.returns
returns c = (refl, (scratch_offsets _ c.requires).word)
