-- The word is raised, or the table stays (Working).
use Prim.Native.Nat.{◌≤◌}
use mathlib.Core.Path.{refl, sym, ◌∙◌}
use native.Mathlib.Omega.{arith}
use borrow.Author.Rules.{rules}
use borrow.Author.Tests.{ltb-true}
use Rattle.lister_rules.proofs.Working.{worked_same, worked_raised}
use Rattle.lister_rules.proofs.sending.Work.send_to.Goals as goal

pub returns-then-raise_at-clause-worked : goal.returns-then-raise_at-clause-worked
returns-then-raise_at-clause-worked c =
    let r = c.raise_at.ensures in
    worked_raised _ _ _ _ refl r.table (search rules, search rules) (search rules) (search rules) (search rules) refl (ltb-true _ _ (sym r.changed ∙ c.if-raise_at.true))

pub returns-else-raise_at-clause-worked : goal.returns-else-raise_at-clause-worked
returns-else-raise_at-clause-worked c =
    let r = c.raise_at.ensures in
    worked_same _ _ _ _ refl r.table (search rules, search rules) refl refl (sym r.changed ∙ c.if-raise_at.false)
