-- The table of request 6's worked cases, in parts small enough for one proof each.
use Rattle.v8.specs.declared.Edition.{Edition}
use Rattle.trials.specs.Case as Trials·
use Rattle.kindrows.specs.Table as Kinds·
use Rattle.callerrows.specs.Case.{Holds}
use Rattle.callerrows.specs.FlowRows.{register_rows, place_rows}
use Rattle.callerrows.specs.CheckRows.{check_rows}
use Rattle.callerrows.specs.RunRows.{run_rows}
use Rattle.callerrows.specs.ListRows.{list_rows}

pub record TableHolds (e : Edition) : Type 0 where
  pub registers : Holds e register_rows
  pub places : Holds e place_rows
  pub checks : Trials·.Holds e check_rows
  pub runs : Trials·.Holds e run_rows
  pub lists : Kinds·.Holds e list_rows
