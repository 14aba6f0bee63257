use Prim.Native.Nat.{◌≤◌}
use Rattle.growth.proofs.growing.grow.Given as goal

abbrev pub invariant-loop-left : goal.invariant-loop-left
invariant-loop-left l = l.left ≤ l.sweeps

abbrev pub decreases-loop-left : goal.decreases-loop-left
decreases-loop-left l = l.left
