-- `with_fields_of` meets its contract. Invariant: the region's fields below i are added.
use mathlib.Core.Path.{sym, ap, ◌∙◌}
use native.Mathlib.Nat.{le_antisymm}
use borrow.Author.Rules.{rules}
use Rattle.bundle_open.specs.Build.{with_fields_of}
use Rattle.bundle_open.proofs.Next.{fields_of_first, fields_of_next}
use Rattle.bundle_open.proofs.Obeying.{fields_of_obey}
use Rattle.bundle_open.proofs.building.with_fields_of.Goals as goal

pub loop-i-init : goal.loop-i-init
loop-i-init c = (search rules, sym (fields_of_first _ _ _))

pub field_to-built-requires : goal.field_to-built-requires
field_to-built-requires c = rw c.loop-i.invariant.1 (fields_of_obey _ _ _ c.requires.1 _)

pub loop-i-preserved : goal.loop-i-preserved
loop-i-preserved c = (
  search rules,
  c.field_to-built.ensures
      ∙ rw (
        fields_of_next,
        c.loop-i.invariant.1,
        c.field_read.ensures,
        c.fields_before-first.ensures.0,
      ),
)

pub returns : goal.returns
returns c = let e = le_antisymm c.loop-i.invariant.0 c.loop-i-test.false in
    c.loop-i.invariant.1 ∙ ap (with_fields_of _ _ _) (e ∙ c.field_count-count.ensures.0)
