use mathlib.Core.Path.{◌≡◌}
use Rattle.flow_code.specs.Lent.{code_of}
use Rattle.lister.proofs.Closing.{Raises, left}
use Rattle.lister.proofs.raising.raise_until_closed.Given as goal

abbrev pub invariant-loop-work : goal.invariant-loop-work
invariant-loop-work l = (l.work.count ≡ l.count) × Raises (code_of l.readings l.count) l.entry l.work.table l.work.pending l.work.next

abbrev pub decreases-loop-work : goal.decreases-loop-work
decreases-loop-work l = left (code_of l.readings l.count) l.entry l.work.table l.work.next
