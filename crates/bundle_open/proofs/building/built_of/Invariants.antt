use Prim.Native.Nat.{◌≤◌}
use mathlib.Core.Path.{◌≡◌}
use Rattle.bundle_open.specs.Build.{with_fields}
use Rattle.bundle_open.proofs.building.built_of.Given as goal

abbrev pub invariant-loop-r : goal.invariant-loop-r
invariant-loop-r l = (l.r ≤ l.count) × (l.built ≡ with_fields l.bytes l.r)
