-- A policy that breaks a rule is refused with 20 and given back; one that obeys them all is handed to the add behind that test.
use mathlib.Core.Path.{sym, ◌∙◌}
use Rattle.policy.specs.Build.{field_number, built}
use Rattle.policy.proofs.Policy.add_field.Goals as goal

pub returns-else-well_formed : goal.returns-else-well_formed
unfolding built field_number
returns-else-well_formed c = simp (sym c.well_formed-2.ensures ∙ c.if-well_formed.false)
