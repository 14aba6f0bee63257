-- What the row of the table gives is V8's formula of the condition (`rows_hold`).
use Rattle.alu.proofs.Conditions.{rows_hold}
use mathlib.Core.Bool.{not}
use mathlib.Core.Path.{ap}
use Rattle.alu.proofs.condition.holds.Goals as goal

pub returns-then-condition : goal.returns-then-condition
returns-then-condition c = rw (← rows_hold c.args.k c.args.f, ← c.condition_of-condition.ensures, c.if-condition.true) (ap not c.rule_holds-met.ensures)

pub returns-else-condition : goal.returns-else-condition
returns-else-condition c = rw (← rows_hold c.args.k c.args.f, ← c.condition_of-condition.ensures, c.if-condition.false) c.rule_holds-met.ensures
