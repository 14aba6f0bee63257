-- `all_laid` meets its contract. The loop's invariant: every region passed so far has a right base and shares no byte with a lower one.
use mathlib.Core.Path.{sym, ◌∙◌}
use mathlib.Core.Bool.{and-false}
use native.Mathlib.Nat.{le_antisymm}
use Rattle.v8.proofs.Search.{all_none, all_more, all_not}
use Rattle.machine_place.specs.Placement.{base_placed_at, disjoint_in}
use Rattle.machine_place.proofs.all_laid.Goals as goal

pub loop-i-init : goal.loop-i-init
loop-i-init c = (all_none _, all_none _)

pub returns-then-not-base_ok : goal.returns-then-not-base_ok
returns-then-not-base_ok c = let a = c.args in
    let fails = sym c.base_ok.ensures ∙ c.if-not-base_ok.true in
    rw (all_not (base_placed_at a.regions.now.sizes a.bases.now) _ _ c.loop-i-test.true fails)

pub returns-then-not-apart_from_all : goal.returns-then-not-apart_from_all
unfolding disjoint_in
returns-then-not-apart_from_all c = let a = c.args in
    let fails = sym c.apart_from_all.ensures ∙ c.if-not-apart_from_all.true in
    rw (all_not (disjoint_in a.regions.now.sizes a.bases.now) _ _ c.loop-i-test.true fails, and-false)

pub loop-i-preserved : goal.loop-i-preserved
unfolding disjoint_in
loop-i-preserved c = let inv = c.loop-i.invariant in (
  all_more _ _ inv.0 (sym c.base_ok.ensures ∙ c.if-not-base_ok.false),
  all_more _ _ inv.1 (sym c.apart_from_all.ensures ∙ c.if-not-apart_from_all.false),
)

pub returns : goal.returns
returns c = sym (rw (le_antisymm c.loop-i-test.false c.loop-i.auto.i-end, c.loop-i.invariant.0, c.loop-i.invariant.1))
