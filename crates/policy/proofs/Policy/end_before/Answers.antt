-- No field ends before the first; before another, the one before it does.
use borrow.Author.Tests.{eq-eqb, ne_eqb}
use Rattle.policy.specs.Policy.{field_at, end_before}
use Rattle.policy.proofs.Policy.end_before.Goals as goal

pub returns-then-k-eq0 : goal.returns-then-k-eq0
unfolding end_before
returns-then-k-eq0 c = rw (eq-eqb _ 0 c.if-k-eq0.true)

pub returns : goal.returns
unfolding end_before field_at
returns c = rw (ne_eqb _ 0 c.if-k-eq0.false) c.end.ensures
