use mathlib.Core.Path.{◌≡◌}
use lib.ListN.{length}
use Rattle.completion.proofs.Keeping.{Putting}
use Rattle.completion.proofs.copying.put_rows.Given as goal

abbrev pub invariant-loop-i : goal.invariant-loop-i
invariant-loop-i l = (length l.bytes ≡ length l.initial.bytes) × Putting l.size l.i l.at l.initial.bytes l.bytes
