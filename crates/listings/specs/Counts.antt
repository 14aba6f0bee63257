-- How a tally's counts grow.
use Rattle.std.specs.Prelude.{◌+◌, ◌≤◌}
use Rattle.listings.specs.declared.report.Tally.{Tally}

-- each count of `u` is at most one more than that of `t`
pub record Grown (t u : Tally) : Type 0 where
  pub kept : u.kept ≤ t.kept + 1
  pub newer : u.newer ≤ t.newer + 1
  pub refused : u.refused ≤ t.refused + 1
  pub privileged : u.privileged ≤ t.privileged + 1
