-- The table of request 5's worked cases, in parts small enough for one proof each.
use Rattle.std.specs.Prelude.{ℕ, Bool}
use Rattle.v8.specs.declared.BranchForm.{BranchForm}
use Rattle.v8.specs.declared.Edition.{Edition}
use Rattle.v8.specs.declared.Edition.TheVariants.{V8, V9}
use Rattle.trials.specs.Case.{Holds}
use Rattle.slotrows.specs.Table as Slots·
use Rattle.kindrows.specs.Table as Kinds·
use Rattle.editionrows.specs.WordRows as Words
use Rattle.editionrows.specs.FlowRows as Flows
use Rattle.editionrows.specs.PassRows as Passes
use Rattle.editionrows.specs.CheckRows as Checks
use Rattle.editionrows.specs.RunRows as Runs
use Rattle.editionrows.specs.ListRows as Lists
use Rattle.editionrows.specs.Form.{FormNoEffect}
use Rattle.editionrows.specs.Elsewhere.{Elsewhere, GuaranteedElsewhere}

-- on the newer terminal
pub record NewerHolds : Type 0 where
  pub words : Holds V9 Words.newer_rows
  pub edges : Holds V9 Flows.edge_rows
  pub written : Holds V9 Flows.written_rows
  pub slots : Holds V9 Flows.slot_rows
  pub flows : Slots·.Holds V9 Passes.flow_rows
  pub passes : Slots·.Holds V9 Passes.word_rows
  pub checks : Holds V9 Checks.newer_rows
  pub runs : Holds V9 Runs.newer_rows
  pub lists : Kinds·.Holds V9 Lists.newer_rows

-- on the older terminal
pub record OlderHolds : Type 0 where
  pub words : Holds V8 Words.older_rows
  pub flows : Holds V8 Flows.older_rows
  pub checks : Holds V8 Checks.older_rows
  pub runs : Holds V8 Runs.older_rows
  pub lists : Kinds·.Holds V8 Lists.older_rows

-- on either
pub record EitherHolds (e : Edition) : Type 0 where
  pub words : Holds e Words.alike_rows
  pub runs : Holds e Runs.alike_rows

pub record TableHolds : Type 0 where
  pub newer : NewerHolds
  pub older : OlderHolds
  pub either : (e : Edition) → EitherHolds e
  -- predicted branches have the edges of plain ones
  pub edges : Flows.EdgesAlike
  -- of every branch
  pub form : (annul : Bool) (cnd distance : ℕ) (f g : BranchForm) → FormNoEffect annul cnd distance f g
  -- a routine that one terminal's check accepts and that faults on the other: the guarantee is not for that run
  pub elsewhere : Elsewhere
  pub not_guaranteed : GuaranteedElsewhere → ⊥
