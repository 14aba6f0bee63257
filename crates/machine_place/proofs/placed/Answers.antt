-- `placed` meets its contract: its tests are those of the definition, in another order.
use mathlib.Core.Bool.{and-true, and-false, and_assoc}
use borrow.Author.Tests.{eq-eqb, ne_eqb}
use Rattle.machine_place.specs.Placement.{placed_in}
use Rattle.machine_place.proofs.placed.Goals as goal

pub returns-then-bases-count : goal.returns-then-bases-count
unfolding placed_in
returns-then-bases-count c = rw (ne_eqb _ _ c.if-bases-count.true, and-false)

pub returns : goal.returns
unfolding placed_in
returns c = rw (c.all_laid-laid.ensures, c.frame_ok-framed.ensures, c.part_start-long.ensures.0, eq-eqb _ _ c.if-bases-count.false, and-true) (simp and_assoc)
