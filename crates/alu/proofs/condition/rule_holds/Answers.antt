-- The two rules that compare N and V, by the definition of xor.
use mathlib.Core.Bool.{xor}
use Rattle.alu.proofs.condition.rule_holds.Goals as goal

pub returns-in-LessOrEqual : goal.returns-in-LessOrEqual
unfolding xor
returns-in-LessOrEqual c = rw c.in-LessOrEqual.is

pub returns-in-Less : goal.returns-in-Less
unfolding xor
returns-in-Less c = rw c.in-Less.is
