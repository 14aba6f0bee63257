-- The table of request 7's worked cases, in parts small enough for one proof each.
use Rattle.v8.specs.declared.Edition.{Edition}
use Rattle.trials.specs.Case.{Holds}
use Rattle.slotrows.specs.Table as Slots·
use Rattle.kindrows.specs.Table as Kinds·
use Rattle.scratchrows.specs.Case.{EntriesHold, RunsHold}
use Rattle.scratchrows.specs.FormRows.{frame_rows, scratch_rows, sizes, entry_rows}
use Rattle.scratchrows.specs.FitRows.{fit_rows}
use Rattle.scratchrows.specs.ChangeRows.{offset_rows, indexed_rows, rule_rows}
use Rattle.scratchrows.specs.RunRows.{kept_rows, fault_rows, start_rows, place_rows, among_rows}
use Rattle.scratchrows.specs.CheckRows.{check_rows, pass_rows}
use Rattle.scratchrows.specs.ListRows.{list_rows}
use Rattle.scratchrows.specs.BundleRows.{bundle_rows}

pub record TableHolds (e : Edition) : Type 0 where
  -- rows, and entry rows
  pub frames : Holds e frame_rows
  pub scratch : Holds e scratch_rows
  pub entries : EntriesHold sizes entry_rows
  pub fits : Holds e fit_rows
  -- words
  pub offsets : Holds e offset_rows
  pub indexed : Holds e indexed_rows
  pub rules : Holds e rule_rows
  -- runs
  pub kept : RunsHold e kept_rows
  pub faults : RunsHold e fault_rows
  pub starts : RunsHold e start_rows
  pub places : RunsHold e place_rows
  pub among : RunsHold e among_rows
  -- checks, listings and bundles
  pub checks : Holds e check_rows
  pub passes : Slots·.Holds e pass_rows
  pub lists : Kinds·.Holds e list_rows
  pub bundles : Holds e bundle_rows
