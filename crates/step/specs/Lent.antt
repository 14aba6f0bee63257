-- What lent registers, and what a step answers beside them, say of a state. The code of a step knows neither memory nor layout: it
-- answers with the access that it makes.
use Rattle.std.specs.Prelude.{ℕ, ◌≡◌, List}
use Rattle.access.specs.Layout.{Layout}
use Rattle.flow_edges.specs.declared.Destination.{Destination}
use Rattle.flow_edges.specs.declared.Destination.TheVariants.{To, Caller}
use Rattle.step.specs.declared.Registers.{Registers}
use Rattle.step.specs.declared.Control.{Control}
use Rattle.step.specs.declared.Progress.{Progress}
use Rattle.step.specs.declared.Progress.TheVariants.{Goes, Returned, Stopped, Accesses}
use Rattle.step.specs.declared.Went.{Went}
use Rattle.step.specs.Control.{go_to}
use Rattle.step.specs.Effect.{Core, access_to}
use Rattle.step.specs.Step.{State, Step, stopped, next, returned, plain_step}

-- what instructions work on, from its parts
abbrev pub core_of : Registers → List ℕ → Core
core_of registers memory = record { registers = registers; memory = memory }

-- a step, with the core that it leaves: a fault leaves the core as it was
pub record Stepped : Type 0 where
  pub step : Step
  pub core : Core

abbrev pub leaving : Core → Step → Stepped
leaving c (stopped n) = record { step = stopped n; core = c }
leaving c (next t) = record { step = next t; core = t.core }
leaving c (returned d) = record { step = returned d; core = d }

-- the step that an answer says, control having stood at k: where it is an access, this is located and done in a layout
abbrev pub step_from : Layout → Control → Progress → Control → Core → Step
step_from l k Goes to c = next (record { control = to; core = c })
step_from l k Returned to c = returned c
step_from l k (Stopped n) to c = stopped n
step_from l k (Accesses a rd address) to c = plain_step k (access_to l c a rd address)

-- .. with the registers that are left, and a memory
abbrev pub completed : Layout → Control → Went → Registers → List ℕ → Stepped
completed l k w after memory = leaving (core_of after memory) (step_from l k w.progress w.control (core_of after memory))

-- an answer, with the registers that are left, says the step f of control k and the registers before: whatever layout and memory are,
-- completed on that memory it is that step
abbrev pub Does : Went → Registers → Control → Registers → (Layout → State → Step) → Type 0
Does w after k before f =
    (l : Layout) (memory : List ℕ)
    → completed l k w after memory ≡ leaving (core_of before memory) (f l (record { control = k; core = core_of before memory }))

-- the answer that control goes from k to a destination
abbrev pub arriving : Control → Destination → Went
arriving k (To w) = record { progress = Goes; control = go_to w.0 }
arriving k Caller = record { progress = Returned; control = k }
