-- `with_regions` meets its contract. Invariant: the regions below i are added.
use mathlib.Core.Path.{ap, ◌∙◌}
use native.Mathlib.Nat.{le_antisymm}
use borrow.Author.Rules.{rules}
use Rattle.bundle_open.specs.Build.{with_regions}
use Rattle.bundle_open.proofs.Next.{regions_first, regions_next}
use Rattle.bundle_open.proofs.Obeying.{regions_obey}
use Rattle.bundle_open.proofs.building.with_regions.Goals as goal

pub loop-i-init : goal.loop-i-init
loop-i-init c = (search rules, rw (regions_first, c.empty.ensures))

pub region_to-built-requires : goal.region_to-built-requires
region_to-built-requires c = rw c.loop-i.invariant.1 (regions_obey _ _)

pub loop-i-preserved : goal.loop-i-preserved
loop-i-preserved c = (search rules, c.region_to-built.ensures ∙ rw (regions_next, c.loop-i.invariant.1, c.region_size.ensures))

pub returns : goal.returns
returns c = let e = le_antisymm c.loop-i.invariant.0 c.loop-i-test.false in
    c.loop-i.invariant.1 ∙ ap (with_regions _) (e ∙ c.region_count-count.ensures.0)
