-- `built_of` meets its contract. Invariant: the fields of the regions below r are added.
use mathlib.Core.Path.{sym, ap, ◌∙◌}
use native.Mathlib.Nat.{le_antisymm}
use borrow.Author.Rules.{rules}
use Rattle.bundle_open.specs.Build.{with_fields}
use Rattle.bundle_open.proofs.Next.{fields_first, fields_next}
use Rattle.bundle_open.proofs.Obeying.{fields_obey}
use Rattle.bundle_open.proofs.building.built_of.Goals as goal

pub loop-r-init : goal.loop-r-init
loop-r-init c = (search rules, c.with_regions-built.ensures ∙ sym (fields_first _))

pub with_fields_of-built-requires : goal.with_fields_of-built-requires
with_fields_of-built-requires c = (search rules, rw c.loop-r.invariant.1 (fields_obey _ _))

pub loop-r-preserved : goal.loop-r-preserved
loop-r-preserved c = (search rules, c.with_fields_of-built.ensures ∙ rw (fields_next, c.loop-r.invariant.1))

pub returns : goal.returns
returns c = let e = le_antisymm c.loop-r.invariant.0 c.loop-r-test.false in
    c.loop-r.invariant.1 ∙ ap (with_fields _) (e ∙ c.region_count-count.ensures.0)
