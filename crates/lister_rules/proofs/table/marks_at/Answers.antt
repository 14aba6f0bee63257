-- The marks are the 32 places from the word's first on.
use mathlib.Core.Path.{◌∙◌}
use native.Mathlib.Omega.{arith}
use Rattle.lister_rules.proofs.Places.{marks_taken}
use Rattle.lister_rules.proofs.table.marks_at.Goals as goal

pub returns : goal.returns
returns c =
    c.copy_from_slice.ensures.after ∙ marks_taken c.args.table.now c.args.w _ (omega arith) (omega (arith, c.requires, c.told-table))
