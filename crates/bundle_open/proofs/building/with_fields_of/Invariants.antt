use Prim.Native.Nat.{◌≤◌}
use mathlib.Core.Path.{◌≡◌}
use Rattle.bundle_open.specs.Build.{with_fields_of}
use Rattle.bundle_open.proofs.building.with_fields_of.Given as goal

abbrev pub invariant-loop-i : goal.invariant-loop-i
invariant-loop-i l = (l.i ≤ l.count) × (l.built ≡ with_fields_of l.bytes l.region l.initial.built l.i)
