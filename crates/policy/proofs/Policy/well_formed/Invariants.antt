use Prim.Native.Nat.{◌≤◌}
use mathlib.Core.Bool.{true}
use mathlib.Core.Path.{◌≡◌}
use Rattle.v8.specs.Search.{all}
use Rattle.policy.specs.Policy.{region_ok}
use Rattle.policy.proofs.Policy.well_formed.Given as goal

abbrev pub invariant-loop-r : goal.invariant-loop-r
invariant-loop-r l = (l.r ≤ l.regions) × (all (region_ok l.self) l.r ≡ true)
