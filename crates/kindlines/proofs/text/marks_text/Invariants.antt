use Prim.Native.Nat.{◌≤◌}
use mathlib.Core.Path.{◌≡◌}
use lib.ListN.{length}
use Rattle.marks.proofs.Values.{HasTo}
use Rattle.kindlines.specs.Text.{text_at, text_length}
use Rattle.kindlines.proofs.text.marks_text.Given as goal

abbrev pub invariant-loop-k : goal.invariant-loop-k
invariant-loop-k l = (l.k ≤ text_length) × (text_length ≡ length l.text) × HasTo (text_at l.table l.w) l.k l.text
