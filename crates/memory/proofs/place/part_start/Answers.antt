-- `part_start` meets its contract. The loop's invariant: the sum is the start of the region reached.
use mathlib.Core.Path.{sym, ap, ◌∙◌}
use native.Mathlib.Nat.{le_antisymm}
use borrow.Author.Rules.{rules}
use Rattle.memory.specs.Place.{part_start}
use Rattle.memory.proofs.Starts.{start_first, start_next}
use Rattle.memory.proofs.place.part_start.Goals as goal

pub loop-i-init : goal.loop-i-init
loop-i-init c = (search rules, sym (start_first _), search rules)

pub loop-i-preserved : goal.loop-i-preserved
loop-i-preserved c = (search rules, rw (start_next, c.loop-i.invariant.1, c.extent-sum.ensures.0), search rules)

pub returns : goal.returns
returns c = (c.loop-i.invariant.1 ∙ ap (part_start _) (le_antisymm c.loop-i.invariant.0 c.loop-i-test.false), search rules)
