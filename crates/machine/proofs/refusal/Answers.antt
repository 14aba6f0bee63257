-- A policy that obeys the rules has at most 8 regions.
use mathlib.Core.Path.{sym, ◌∙◌}
use Rattle.policy.proofs.WellFormed.{obeys}
use Rattle.machine.proofs.refusal.Goals as goal

pub placed-requires : goal.placed-requires
placed-requires c = (obeys _ (sym c.well_formed-2.ensures ∙ c.if-not-well_formed.false)).regions_most
