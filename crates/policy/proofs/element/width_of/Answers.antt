-- A number below 8 has its width in the table, which lies from 1 to 4; any other is taken for one byte wide.
use native.Mathlib.Omega.{arith}
use borrow.Author.Tests.{lt-ltb}
use Rattle.v8.proofs.Choice.{tests}
use Rattle.policy.specs.Element.{width_of}
use Rattle.policy.proofs.Width.{listed}
use Rattle.policy.proofs.element.width_of.Goals as goal

pub returns-then-element-lt8 : goal.returns-then-element-lt8
unfolding width_of
returns-then-element-lt8 c = (simp (lt-ltb _ _ c.if-element-lt8.true), (listed _ c.if-element-lt8.true).some, (listed _ c.if-element-lt8.true).most)

pub returns : goal.returns
unfolding width_of
returns c = (search tests, omega arith, omega arith)
