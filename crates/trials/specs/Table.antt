-- The one shared table of worked cases, by subject: rows that are computed, in parts small enough for one proof each, and the cases that
-- document 01 states of every row or that say more than an outcome, which are claims.
use Rattle.std.specs.Prelude.{List, ◌++◌}
use Rattle.v8.specs.declared.Edition.{Edition}
use Rattle.claims.specs.Claims.{ReturnThenNop, OneNop, LoopAccepted, LoopNeverReturns, StartExists, AcceptedToo}
use Rattle.trials.specs.Case.{Row, Holds}
use Rattle.trials.specs.Words.{word_rows, privileged_rows, write_rows, answer_rows}
use Rattle.trials.specs.Arithmetic.{addition_rows, subtraction_rows, logic_rows, shift_rows, condition_rows}
use Rattle.trials.specs.Flows.{flow_rows}
use Rattle.trials.specs.Policies.{add_rows}
use Rattle.trials.specs.Memories.{memory_rows}
use Rattle.trials.specs.Runs.{run_rows}
use Rattle.trials.specs.FormRows.{form_rows}
use Rattle.trials.specs.FitRows.{fit_rows}
use Rattle.trials.specs.ResultRows.{result_rows}
use Rattle.trials.specs.ChangeRows.{change_rows}
use Rattle.trials.specs.NarrowRows.{narrow_rows}
use Rattle.trials.specs.CheckRows.{pass_rows, edge_pass_rows}
use Rattle.trials.specs.BundleRows.{bundle_rows}

-- words, arithmetic, flow, policies, memories and runs
abbrev pub machine_table : List Row
machine_table =
    word_rows ++ privileged_rows ++ write_rows ++ answer_rows
    ++ addition_rows ++ subtraction_rows ++ logic_rows ++ shift_rows ++ condition_rows ++ flow_rows
    ++ add_rows ++ memory_rows ++ run_rows

-- rows, and what words do to them
abbrev pub row_table : List Row
row_table = form_rows ++ fit_rows ++ result_rows ++ change_rows ++ narrow_rows

-- the check, and the last pass of it
abbrev pub pass_table : List Row
pass_table = pass_rows

abbrev pub edge_table : List Row
edge_table = edge_pass_rows

-- bundles
abbrev pub bundle_table : List Row
bundle_table = bundle_rows

abbrev pub table : List Row
table = machine_table ++ row_table ++ pass_table ++ edge_table ++ bundle_table

-- the cases of every row: "Return then nop ..", "One nop alone", "10800000 .. then nop .., accepted, never returns"; and a whole routine, with a
-- start that matches and its run; and (request 5) that what is accepted for the older terminal is so for the newer
pub data Claim : Type 0 where
  return_then_nop : Claim
  one_nop : Claim
  loop_accepted : Claim
  loop_never_returns : Claim
  start_exists : Claim
  accepted_too : Claim

-- what each says
abbrev pub Says : Claim → Type 0
Says return_then_nop = ReturnThenNop
Says one_nop = OneNop
Says loop_accepted = LoopAccepted
Says loop_never_returns = LoopNeverReturns
Says start_exists = (e : Edition) → StartExists e
Says accepted_too = AcceptedToo

-- the whole table holds: each row has the outcome that it expects, on every terminal, and each claim is so
pub record TableHolds : Type 0 where
  pub rows : (e : Edition) → Holds e table
  pub claims : (c : Claim) → Says c
