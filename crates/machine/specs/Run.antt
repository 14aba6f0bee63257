-- The whole run (document 01, "Machine run"): refused with 20, 21 or 22, or step after step from word 0.
use Rattle.std.specs.Prelude.{ℕ, zero, suc, cond, List, ltb, length}
use Rattle.v8.specs.Numbers.{acceptance, bad_policy, bad_shape, bad_placement, most_words}
use Rattle.v8.specs.declared.Edition.{Edition}
use Rattle.policy.specs.declared.Policy.{Policy}
use Rattle.policy.specs.Policy.{policy_ok}
use Rattle.step.specs.declared.Registers.{Registers}
use Rattle.machine_steps.specs.declared.End.{End}
use Rattle.machine_steps.specs.declared.End.TheVariants.{Returned, Spent, Fault, Refused}
use Rattle.step.specs.Registers.{with_zero, unset_scratch}
use Rattle.machine_place.specs.Placement.{placed_in}
use Rattle.step.specs.Control.{go_to}
use Rattle.step.specs.Step.{State}
use Rattle.machine_steps.specs.Steps.{Run, run_from, setting_of}

-- the number of an end: at a fault 101 to 105, refused "20, 21 (word count), 22"; document 01 gives a run that returned or is spent none, and
-- 0 stands for that
abbrev pub end_number : End → ℕ
end_number Returned = acceptance
end_number Spent = acceptance
end_number (Fault n) = n
end_number (Refused n) = n

-- "It starts at word 0"; "r0 counts as a set zero"; "In the machine the six start unset" (document 02, request 7)
abbrev pub start_state : Registers → List ℕ → State
start_state g memory = record { control = go_to 0; core = record { registers = unset_scratch (with_zero g); memory = memory } }

-- the refusals: "20, 21 (word count), 22 if bases, return address or memory length are wrong", "22 covers the frame"; 0 for none
unfoldable pub refusal_of : Policy → List ℕ → List ℕ → ℕ → ℕ → List ℕ → ℕ
refusal_of p words bases returns frame memory =
    cond (policy_ok p)
    (cond (ltb (length words) 1) bad_shape
    (cond (ltb most_words (length words)) bad_shape
    (cond (placed_in p.regions.count p.regions.sizes bases returns frame memory) acceptance bad_placement)))
    bad_policy

-- "Refused, it changes nothing: 0 steps, registers and codes as handed in."
abbrev pub refused : ℕ → Registers → List ℕ → Run
refused n g memory = record { outcome = record { end = Refused n; steps = 0; registers = g }; memory = memory }

-- the run, if it is not refused; the six scratch words are not handed in: a refused run gives them unset
abbrev pub run_if : ℕ → Run → Registers → List ℕ → Run
run_if zero run g memory = run
run_if (suc n) run g memory = refused (suc n) (unset_scratch g) memory

-- the machine run, on a terminal of the edition
unfoldable pub run_of : Edition → Policy → List ℕ → List ℕ → ℕ → ℕ → Registers → ℕ → List ℕ → Run
run_of e p words bases returns frame g allowance memory =
    run_if (refusal_of p words bases returns frame memory)
    (run_from (setting_of e p words bases returns frame) allowance 0 (start_state g memory))
    g
    memory
