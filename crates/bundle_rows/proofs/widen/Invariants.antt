use Prim.Native.Nat.{◌*◌, ◌≤◌}
use mathlib.Core.Path.{◌≡◌}
use lib.ListN.{length, take}
use Rattle.rows.specs.Geometry.{row_bytes}
use Rattle.bundle_rows.specs.Wide.{wide_rows}
use Rattle.bundle_rows.proofs.widen.Given as goal

abbrev pub invariant-loop-i : goal.invariant-loop-i
invariant-loop-i l = (l.i ≤ l.n) × (length l.room ≡ length l.initial.room) × (take (row_bytes * l.i) l.room ≡ wide_rows l.bytes l.at l.i)
