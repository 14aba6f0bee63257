use Prim.Native.Nat.{ℕ, ◌≤◌}
use mathlib.Core.Path.{◌≡◌}
use lib.ListN.{length}
use Rattle.rows.specs.Geometry.{entry_start}
use Rattle.rows.specs.Row.{entry_of}
use Rattle.marks.specs.Marks.{register_count, mark_of_kind}
use Rattle.marks.proofs.Values.{HasTo}
use Rattle.lister_rules.proofs.table.entry_marks.Given as goal

abbrev pub invariant-loop-r : goal.invariant-loop-r
invariant-loop-r l = (l.r ≤ register_count) × (length l.marks ≡ register_count) × HasTo (λ (q : ℕ). mark_of_kind (entry_of l.entry (entry_start 0 q)).kind) l.r l.marks
