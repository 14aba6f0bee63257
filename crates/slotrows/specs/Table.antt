-- The table of request 4's worked cases, in parts small enough for one proof each.
use Rattle.std.specs.Prelude.{◌≡◌, List, map}
use Rattle.v8.specs.declared.Edition.{Edition}
use Rattle.checker.specs.Routine.{Routine}
use Rattle.checker.specs.Passes.{answer_of}
use Rattle.trials.specs.Case as Trials·
use Rattle.kindrows.specs.Table as Kinds·
use Rattle.slotrows.specs.Case.{Row, outcome, given, expected, two_passes, OthersAccept}
use Rattle.slotrows.specs.PassRows.{flow_rows, shared_rows, own_rows, home_rows, idle_rows}
use Rattle.slotrows.specs.CheckRows.{check_rows}
use Rattle.slotrows.specs.RunRows.{run_rows}
use Rattle.slotrows.specs.ListRows.{list_rows}

-- the rows of a list hold, on a terminal of the edition: each has the outcome that it expects
abbrev pub Holds : Edition → List Row → Type 0
Holds e rows = map (λ (r : Row). outcome e (given r)) rows ≡ map expected rows

pub record TableHolds (e : Edition) : Type 0 where
  pub flows : Holds e flow_rows
  pub shared : Holds e shared_rows
  pub own : Holds e own_rows
  pub homes : Holds e home_rows
  pub idle : Holds e idle_rows
  -- where the other passes accept, the check answers as the two passes of these rows do
  pub passes : (t : Routine) → OthersAccept t → answer_of t ≡ two_passes t
  pub checks : Trials·.Holds e check_rows
  pub runs : Trials·.Holds e run_rows
  pub lists : Kinds·.Holds e list_rows
