use Prim.Native.Nat.{◌≤◌}
use mathlib.Core.Path.{◌≡◌}
use Rattle.bundle_open.specs.Build.{with_regions}
use Rattle.bundle_open.proofs.building.with_regions.Given as goal

abbrev pub invariant-loop-i : goal.invariant-loop-i
invariant-loop-i l = (l.i ≤ l.count) × (l.built ≡ with_regions l.bytes l.i)
