-- A run from a state (document 01, "Machine run"), step after step until it has returned, has spent the allowance, or stops at a fault. The
-- steps are counted as they are run, and the trace has the states whose steps were run.
use Rattle.std.specs.Prelude.{ℕ, zero, suc, ◌+◌, List, [], ◌∷◌}
use Rattle.v8.specs.declared.Edition.{Edition}
use Rattle.policy.specs.declared.Policy.{Policy}
use Rattle.machine_steps.specs.declared.End.{End}
use Rattle.machine_steps.specs.declared.End.TheVariants.{Returned, Spent, Fault}
use Rattle.machine_steps.specs.declared.Outcome.{Outcome}
use Rattle.access.specs.Layout.{layout_of}
use Rattle.flow_code.specs.Readings.{readings_of}
use Rattle.step.specs.Setting.{Setting}
use Rattle.step.specs.Effect.{Core}
use Rattle.step.specs.Step.{State, Step, stopped, next, returned, step_of}

-- what a run leaves: its outcome, and the lent memory
pub record Run : Type 0 where
  pub outcome : Outcome
  pub memory : List ℕ

-- a run that ended, after k steps
abbrev pub ended : End → ℕ → Core → Run
ended e k c = record { outcome = record { end = e; steps = k; registers = c.registers }; memory = c.memory }

-- a run after one step of it, k steps having been run before: "A faulting step changes nothing and isn't counted."
abbrev pub after_step : ℕ → State → (State → Run) → Step → Run
after_step k st rest (stopped f) = ended (Fault f) k st.core
after_step k st rest (next t) = rest t
after_step k st rest (returned c) = ended Returned (k + 1) c

-- the trace after one step
abbrev pub traced_step : State → (State → List State) → Step → List State
traced_step st rest (stopped f) = []
traced_step st rest (next t) = st ∷ rest t
traced_step st rest (returned c) = st ∷ []

-- the first steps of a run: it is still going, after k steps, or it is over
pub data Walk : Type 0 where
  going : ℕ → State → Walk
  over : Run → Walk

abbrev pub walked_step : ℕ → State → (State → Walk) → Step → Walk
walked_step k st rest (stopped f) = over (ended (Fault f) k st.core)
walked_step k st rest (next t) = rest t
walked_step k st rest (returned c) = over (ended Returned (k + 1) c)

module _ (s : Setting) where
  -- a run from a state with an allowance, k steps having been run before: "It ends returned (after the return's slot, also where that
  -- was the last step allowed), spent (exactly the allowance run), or at a fault"
  unfoldable pub run_from : ℕ → ℕ → State → Run
  run_from zero k st = ended Spent k st.core
  run_from (suc n) k st = after_step k st (run_from n (k + 1)) (step_of s st)

  -- the states whose steps were run, in order
  unfoldable pub trace_from : ℕ → State → List State
  trace_from zero st = []
  trace_from (suc n) st = traced_step st (trace_from n) (step_of s st)

  -- the first n steps from a state
  unfoldable pub walk_from : ℕ → ℕ → State → Walk
  walk_from zero k st = going k st
  walk_from (suc n) k st = walked_step k st (walk_from n (k + 1)) (step_of s st)

  -- a run that goes on with an allowance of m
  abbrev pub go_on : ℕ → Walk → Run
  go_on m (going k st) = run_from m k st
  go_on m (over r) = r

-- what is handed in, as a setting: the words as the terminal that is told reads them
abbrev pub setting_of : Edition → Policy → List ℕ → List ℕ → ℕ → ℕ → Setting
setting_of e p words bases returns frame = record { layout = layout_of p bases frame; readings = readings_of e words; returns = returns }
