-- `fields_before` meets its contract. Invariant: the sum is that of the regions below i, none of which has more than 255.
use mathlib.Core.Path.{sym, ap, ◌∙◌}
use native.Mathlib.Nat.{le_antisymm}
use borrow.Author.Rules.{rules}
use Rattle.bundle_layout.specs.Layout.{fields_before}
use Rattle.bundle_layout.proofs.Counts.{count_first, count_next}
use Rattle.bundle_layout.proofs.fields_before.Goals as goal

pub loop-i-init : goal.loop-i-init
loop-i-init c = (search rules, sym (count_first _), search rules)

pub loop-i-preserved : goal.loop-i-preserved
loop-i-preserved c = (search rules, rw (count_next, c.loop-i.invariant.1, c.field_count-sum.ensures.0), search rules)

pub returns : goal.returns
returns c = (c.loop-i.invariant.1 ∙ ap (fields_before _) (le_antisymm c.loop-i.invariant.0 c.loop-i-test.false), search rules)
