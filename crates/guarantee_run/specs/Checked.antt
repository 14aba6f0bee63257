-- The checked run: the check, and the run of what it accepts. What it gives is one equation, and what demand 3 claims holds of it.
use Rattle.std.specs.Prelude.{ℕ, ◌≡◌, cond, List}
use Rattle.v8.specs.declared.Edition.{Edition}
use Rattle.policy.specs.declared.Policy.{Policy}
use Rattle.step.specs.declared.Registers.{Registers}
use Rattle.step.specs.Registers.{unset_scratch}
use Rattle.machine_steps.specs.Steps.{Run, setting_of, trace_from}
use Rattle.machine.specs.Run.{start_state, run_of, refused}
use Rattle.machine_steps.specs.Ended.{left_by}
use Rattle.rows.specs.Row.{entry_of}
use Rattle.passes.specs.declared.Answer.{Answer}
use Rattle.passes.specs.Answer.{accepted, passes}
use Rattle.checker.specs.Passes.{check_of}
use Rattle.guarantee_run.specs.declared.CheckedRun.{CheckedRun}
use Rattle.guarantee.specs.Guarantee.{host_of, Start, Guaranteed}

-- the answer of the check, and what the run leaves
pub record Checked : Type 0 where
  pub answer : Answer
  pub run : Run

-- where the check refuses, nothing is run: 0 steps, registers, codes and memory as handed in, the scratch words unset
unfoldable pub checked_with : Answer → Run → Registers → List ℕ → Checked
checked_with answer run g memory = record { answer = answer; run = cond (passes answer) run (refused answer.number (unset_scratch g) memory) }

-- one edition for both
abbrev pub checked_run_of : Edition → Policy → List ℕ → List ℕ → List ℕ → List ℕ → List ℕ → ℕ → ℕ → Registers → ℕ → List ℕ → Checked
checked_run_of e p words rows entry result bases returns frame g allowance memory =
    checked_with (check_of e p words rows entry result) (run_of e p words bases returns frame g allowance memory) g memory

-- what the code answers, with the lent memory
abbrev pub checked_left : CheckedRun → List ℕ → Checked
checked_left r memory = record { answer = r.answer; run = left_by r.outcome memory }

-- demand 3 of a checked run: where it accepts, for every matching start
abbrev pub HoldsTo : Edition → Policy → List ℕ → List ℕ → List ℕ → List ℕ → ℕ → ℕ → Registers → ℕ → List ℕ → Checked → Type 0
HoldsTo e p words entry result bases returns frame g allowance memory c =
    c.answer ≡ accepted → Start p entry bases returns frame g memory
    → Guaranteed p (entry_of result 0) (setting_of e p words bases returns frame) (host_of bases returns frame) (start_state g memory) allowance c.run
    (trace_from (setting_of e p words bases returns frame) allowance (start_state g memory))
