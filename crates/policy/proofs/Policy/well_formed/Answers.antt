-- The test of a policy is the one that is defined. Invariant: the regions below r obey the rules.
use mathlib.Core.Bool.{and-false}
use mathlib.Core.Path.{sym, ◌∙◌}
use native.Mathlib.Omega.{arith}
use native.Mathlib.Nat.{le_antisymm}
use borrow.Author.Tests.{lt-leb, le-leb}
use borrow.Author.Rules.{rules}
use Rattle.v8.proofs.Search.{all_none, all_more, all_not}
use Rattle.policy.specs.Policy.{region_ok, policy_ok}
use Rattle.policy.proofs.Policy.well_formed.Goals as goal

pub returns-then-regions-gt8 : goal.returns-then-regions-gt8
unfolding policy_ok
returns-then-regions-gt8 c = simp (lt-leb _ _ c.if-regions-gt8.true)

pub loop-r-init : goal.loop-r-init
loop-r-init c = (search rules, all_none _)

pub returns-then-not-region_ok : goal.returns-then-not-region_ok
unfolding policy_ok
returns-then-not-region_ok c =
    simp (
      all_not (region_ok c.args.self.now) _ _ c.loop-r-test.true (sym c.region_ok.ensures ∙ c.if-not-region_ok.true),
      and-false,
    )

pub loop-r-preserved : goal.loop-r-preserved
loop-r-preserved c = (omega arith, all_more _ _ c.loop-r.invariant.1 (sym c.region_ok.ensures ∙ c.if-not-region_ok.false))

pub returns : goal.returns
unfolding policy_ok
returns c = let e = le_antisymm c.loop-r.invariant.0 c.loop-r-test.false in
    simp (le-leb _ _ c.if-regions-gt8.false, ← e, c.loop-r.invariant.1)
