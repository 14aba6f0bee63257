use Prim.Native.Nat.{◌≤◌, ◌*◌}
use mathlib.Core.Path.{◌≡◌}
use Rattle.bundle_layout.specs.Layout.{fields_before}
use Rattle.bundle_layout.proofs.fields_before.Given as goal

abbrev pub invariant-loop-i : goal.invariant-loop-i
invariant-loop-i l = (l.i ≤ l.n) × (l.sum ≡ fields_before l.bytes l.i) × (l.sum ≤ 255 * l.i)
