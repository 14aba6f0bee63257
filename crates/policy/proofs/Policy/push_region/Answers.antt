-- The tests of the add, one by one; the next policy is the one defined.
use mathlib.Core.Path.{sym, ◌∙◌}
use borrow.Author.Tests.{lt-leb, le-leb}
use Rattle.policy.specs.Build.{region_number, built}
use Rattle.policy.proofs.Policy.push_region.Goals as goal

pub returns-then-self-ge8 : goal.returns-then-self-ge8
unfolding built region_number
returns-then-self-ge8 c = simp (c.requires, le-leb _ _ c.if-self-ge8.true)

pub returns-then-not-size_ok : goal.returns-then-not-size_ok
unfolding built region_number
returns-then-not-size_ok c = simp (c.requires, lt-leb _ _ c.if-self-ge8.false, sym c.size_ok.ensures ∙ c.if-not-size_ok.true)

pub returns : goal.returns
unfolding built region_number
returns c =
    simp (c.requires, lt-leb _ _ c.if-self-ge8.false, sym c.size_ok.ensures ∙ c.if-not-size_ok.false)
