use Rattle.marks.specs.Marks.{register_count}
use Rattle.lister_rules.proofs.Stored.{Raising}
use Rattle.lister_rules.proofs.table.raise_at.Given as goal

abbrev pub invariant-loop-r : goal.invariant-loop-r
invariant-loop-r l = Raising l.initial.table l.w l.marks l.r l.table l.changed
