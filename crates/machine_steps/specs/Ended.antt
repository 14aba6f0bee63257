-- What the steps of a run say of the whole run, with what they left in the registers and in memory.
use Rattle.std.specs.Prelude.{ℕ, List}
use Rattle.step.specs.declared.Registers.{Registers}
use Rattle.machine_steps.specs.declared.Ended.{Ended}
use Rattle.machine_steps.specs.declared.Outcome.{Outcome}
use Rattle.machine_steps.specs.Steps.{Run}

abbrev pub ran_of : Ended → Registers → List ℕ → Run
ran_of r registers memory = record { outcome = record { end = r.end; steps = r.steps; registers = registers }; memory = memory }

-- what a run leaves: its outcome, with the lent memory
abbrev pub left_by : Outcome → List ℕ → Run
left_by o memory = record { outcome = o; memory = memory }
