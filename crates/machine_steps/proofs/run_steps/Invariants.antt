use Prim.Native.Nat.{ℕ, ◌-◌, ◌≤◌}
use mathlib.Core.Path.{◌≡◌}
use mathlib.Core.List.{List}
use lib.ListN.{length}
use Rattle.v8.specs.declared.Reading.{Reading}
use Rattle.policy.specs.declared.Policy.{Policy}
use Rattle.access.specs.Layout.{layout_of}
use Rattle.flow_code.specs.Lent.{code_of}
use Rattle.step.specs.Setting.{Setting}
use Rattle.step.specs.Lent.{core_of}
use Rattle.machine_steps.specs.Steps.{run_from}
use Rattle.machine_steps.proofs.run_steps.Given as goal

-- the setting of the run, by the readings of the array
abbrev pub setting_read : Policy → List ℕ → List ℕ → ℕ → ℕ → List Reading → Setting
setting_read policy words bases returns frame readings = record { layout = layout_of policy bases frame; readings = code_of readings (length words); returns = returns }

abbrev pub invariant-loop-steps : goal.invariant-loop-steps
invariant-loop-steps l = (l.steps ≤ l.allowance) × (length l.memory ≡ length l.initial.memory)
    × (run_from (setting_read l.policy l.words l.bases l.returns l.frame l.readings) l.allowance 0 (record { control = l.initial.control; core = core_of l.initial.registers l.initial.memory })
    ≡ run_from (setting_read l.policy l.words l.bases l.returns l.frame l.readings) (l.allowance - l.steps) l.steps (record { control = l.control; core = core_of l.registers l.memory }))

abbrev pub decreases-loop-steps : goal.decreases-loop-steps
decreases-loop-steps l = l.allowance - l.steps
