-- The loop never returns. From word 0 with nothing pending the branch, always taken, makes the jump to word 0 pending at its slot; from there the
-- nop, which writes r0 alone and so nothing, goes to word 0. Neither step stops or returns, so by induction on the allowance every allowance
-- is spent; and the run is not refused, since the policy, the two words and the start are as they must be.
use Prim.Native.Nat.{ℕ, zero, suc, ◌+◌}
use mathlib.Core.Path.{◌≡◌, refl, ap, ◌∙◌}
use mathlib.Core.List.{List, [], ◌∷◌}
use native.Mathlib.Omega.{arith}
use Rattle.v8.specs.Signed.{sign_extend}
use Rattle.v8.specs.Read.{reading_of, format00}
use Rattle.alu.specs.Condition.{cond_holds}
use Rattle.v8.specs.declared.Edition.{Edition}
use Rattle.policy.specs.declared.Policy.{Policy}
use Rattle.step.specs.declared.Registers.{Registers}
use Rattle.step.specs.Registers.{values_with, marks_with}
use Rattle.step.specs.Setting.{Setting}
use Rattle.flow_edges.specs.Transfer.{slot_runs, target_of}
use Rattle.flow_edges.specs.Edge.{to_word}
use Rattle.step.specs.Control.{go_to, at_slot}
use Rattle.step.specs.Effect.{Core}
use Rattle.step.specs.Step.{State, next, step_of}
use Rattle.machine_steps.specs.declared.End.TheVariants.{Spent}
use Rattle.machine_steps.specs.Steps.{Run, ended, after_step, run_from, setting_of}
use Rattle.machine.specs.Run.{start_state, refusal_of, run_of}
use Rattle.guarantee.specs.Guarantee.{Start}
use Rattle.claims.specs.Claims.{nop, always_here, WellFormedEntry, LoopNeverReturns}

-- at the branch, and in its slot
abbrev branching : Core → State
branching c = record { control = go_to 0; core = c }

abbrev slotted : Core → State
slotted c = record { control = at_slot 0 (to_word 0); core = c }

module _ (e : Edition) (p : Policy) (bases : List ℕ) (returns frame : ℕ) where
  abbrev setting : Setting
  setting = setting_of e p (always_here ∷ nop ∷ []) bases returns frame

  branch-step : (c : Core) → step_of setting (branching c) ≡ next (slotted c)
  unfolding step_of reading_of format00 sign_extend cond_holds slot_runs target_of
  branch-step c = refl

  slot_step : (c : Core) → step_of setting (slotted c) ≡ next (branching c)
  unfolding step_of reading_of format00 values_with marks_with
  slot_step c = refl

  -- a run from either spends what it is allowed, and leaves all as it was
  spins : (n k : ℕ) (c : Core) → (run_from setting n k (branching c) ≡ ended Spent (k + n) c) × (run_from setting n k (slotted c) ≡ ended Spent (k + n) c)
  unfolding run_from
  spins zero k c = (rw (none k), rw (none k))
    where
      none : (k : ℕ) → k + 0 ≡ k
      none k = omega arith
  spins (suc n) k c =
      let rest = spins n (k + 1) c in (
        ap (after_step k (branching c) (run_from setting n (k + 1))) (branch-step c) ∙ rest.1 ∙ rw (sum k n),
        ap (after_step k (slotted c) (run_from setting n (k + 1))) (slot_step c) ∙ rest.0 ∙ rw (sum k n),
      )
    where
      sum : (k n : ℕ) → k + 1 + n ≡ k + suc n
      sum k n = omega arith

  module _ (entry result : List ℕ) (f : WellFormedEntry p entry result) (g : Registers) (memory : List ℕ) (start : Start p entry bases returns frame g memory) where
    not_refused : refusal_of p (always_here ∷ nop ∷ []) bases returns frame memory ≡ 0
    unfolding refusal_of
    not_refused = rw (f.policy, start.placed)

    run_is : (allowance : ℕ) → run_of e p (always_here ∷ nop ∷ []) bases returns frame g allowance memory ≡ ended Spent (0 + allowance) (start_state g memory).core
    unfolding run_of
    run_is allowance = rw not_refused (spins allowance 0 (start_state g memory).core).0

pub loop-never-returns : LoopNeverReturns
loop-never-returns e p entry result f bases returns frame g memory start allowance =
    let run = run_is e p bases returns frame entry result f g memory start allowance in
    (ap (λ (r : Run). r.outcome.end) run, ap (λ (r : Run). r.outcome.steps) run ∙ none allowance)
  where
    none : (n : ℕ) → 0 + n ≡ n
    none n = omega arith
