-- An element below 6 is looked up in the tables of least and greatest numbers; the others name a region.
use borrow.Author.Tests.{lt-ltb}
use Rattle.v8.proofs.Choice.{tests}
use Rattle.policy.specs.Element.{least_of, most_of}
use Rattle.policy.specs.Policy.{values_ok}
use Rattle.policy.proofs.form.values_ok.Goals as goal

pub returns-then-f-lt6 : goal.returns-then-f-lt6
unfolding values_ok least_of most_of
returns-then-f-lt6 c = simp (lt-ltb _ _ c.if-f-lt6.true)

pub returns : goal.returns
unfolding values_ok least_of most_of
returns c = search tests
