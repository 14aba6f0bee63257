-- What follows from the definition of a run from a state: it is step after step, its count is the length of its trace, and is the allowance
-- where that is spent; an allowance of n + m is n steps and then m. The proofs are in proofs/RunLaws.antt.
use Rattle.std.specs.Prelude.{ℕ, suc, ◌+◌, ◌≡◌, length}
use Rattle.machine_steps.specs.declared.End.TheVariants.{Spent}
use Rattle.step.specs.Setting.{Setting}
use Rattle.step.specs.Step.{State, step_of}
use Rattle.machine_steps.specs.Steps.{ended, after_step, run_from, trace_from, walk_from, go_on}

-- With nothing allowed, nothing is run.
abbrev pub RunsNothing : Type 0
RunsNothing = (s : Setting) (k : ℕ) (st : State) → run_from s 0 k st ≡ ended Spent k st.core

-- With one step more allowed, one step is run, and the rest after it.
abbrev pub RunsOneMore : Type 0
RunsOneMore = (s : Setting) (n k : ℕ) (st : State) → run_from s (suc n) k st ≡ after_step k st (run_from s n (k + 1)) (step_of s st)

-- The steps counted are the states of the trace.
abbrev pub CountsTrace : Type 0
CountsTrace = (s : Setting) (n k : ℕ) (st : State) → (run_from s n k st).outcome.steps ≡ k + length (trace_from s n st)

-- "spent (exactly the allowance run)"
abbrev pub SpendsExactly : Type 0
SpendsExactly = (s : Setting) (n k : ℕ) (st : State) → (run_from s n k st).outcome.end ≡ Spent → (run_from s n k st).outcome.steps ≡ k + n

-- An allowance of n + m is n steps and then m.
abbrev pub RunsOn : Type 0
RunsOn = (s : Setting) (n m k : ℕ) (st : State) → run_from s (n + m) k st ≡ go_on s m (walk_from s n k st)
