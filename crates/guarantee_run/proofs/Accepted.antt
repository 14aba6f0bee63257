-- Where the check accepts, the checked run is the run, and the guarantee is that of the run.
use Prim.Native.Nat.{ℕ}
use mathlib.Core.Path.{◌≡◌, sym, ap, ◌∙◌, subst}
use mathlib.Core.List.{List}
use borrow.Author.Tests.{eq-eqb, ne_eqb}
use Rattle.v8.specs.declared.Edition.{Edition}
use Rattle.policy.specs.declared.Policy.{Policy}
use Rattle.step.specs.declared.Registers.{Registers}
use Rattle.step.specs.Registers.{unset_scratch}
use Rattle.machine_steps.specs.Steps.{Run, setting_of, trace_from}
use Rattle.machine.specs.Run.{start_state, run_of, refused}
use Rattle.rows.specs.Row.{entry_of}
use Rattle.passes.specs.declared.Answer.{Answer}
use Rattle.passes.specs.Answer.{accepted}
use Rattle.checker.specs.Passes.{check_of}
use Rattle.guarantee.specs.Guarantee.{host_of, Guaranteed}
use Rattle.guarantee_run.specs.Checked.{Checked, checked_with, checked_run_of, HoldsTo}
use Rattle.guarantee.proofs.Whole.{running_guarantee}

accepted_run : (a : Answer) (run : Run) (g : Registers) (memory : List ℕ) → a ≡ accepted → (checked_with a run g memory).run ≡ run
unfolding checked_with
accepted_run a run g memory e = rw e

-- what is left where the check refuses, and where it accepts
pub refused_left : (a b : Answer) (run : Run) (g : Registers) (memory : List ℕ) → a ≡ b → (a.number ≡ 0 → ⊥)
    → record { answer = a; run = refused a.number (unset_scratch g) memory } ≡ checked_with b run g memory
unfolding checked_with
refused_left a b run g memory e n = rw (← e, ne_eqb a.number 0 n)

pub accepted_left : (a b : Answer) (run ran : Run) (g : Registers) (memory : List ℕ) → a ≡ b → run ≡ ran → a.number ≡ 0
    → record { answer = a; run = run } ≡ checked_with b ran g memory
unfolding checked_with
accepted_left a b run ran g memory e q z = rw (← e, ← q, eq-eqb a.number 0 z)

-- whatever gives the checked run holds to demand 3
pub holds_to : (e : Edition) (p : Policy) (words rows entry result bases : List ℕ) (returns frame : ℕ) (g : Registers) (allowance : ℕ) (memory : List ℕ) (c : Checked)
    → c ≡ checked_run_of e p words rows entry result bases returns frame g allowance memory → HoldsTo e p words entry result bases returns frame g allowance memory c
unfolding checked_with
holds_to e p words rows entry result bases returns frame g allowance memory c q a start =
    let accepts : check_of e p words rows entry result ≡ accepted = sym (ap (λ (x : Checked). x.answer) q) ∙ a in
    let r : c.run ≡ run_of e p words bases returns frame g allowance memory =
    ap (λ (x : Checked). x.run) q ∙ accepted_run (check_of e p words rows entry result) (run_of e p words bases returns frame g allowance memory) g memory accepts in
    subst (λ (x : Run). Guaranteed p (entry_of result 0) (setting_of e p words bases returns frame) (host_of bases returns frame) (start_state g memory) allowance x
    (trace_from (setting_of e p words bases returns frame) allowance (start_state g memory)))
    (sym r) (running_guarantee e p words rows entry result accepts bases returns frame g memory start allowance)

pub given_checked : (e : Edition) (p : Policy) (words rows entry result bases : List ℕ) (returns frame : ℕ) (g : Registers) (allowance : ℕ) (memory : List ℕ) (c : Checked)
    → c ≡ checked_run_of e p words rows entry result bases returns frame g allowance memory
    → (c ≡ checked_run_of e p words rows entry result bases returns frame g allowance memory) × HoldsTo e p words entry result bases returns frame g allowance memory c
given_checked e p words rows entry result bases returns frame g allowance memory c q =
    (q, holds_to e p words rows entry result bases returns frame g allowance memory c q)
