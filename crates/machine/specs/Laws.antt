-- What follows from the definition of the run: its number is one that document 01 gives a run. The proof is in proofs/Numbered.antt.
use Rattle.std.specs.Prelude.{ℕ, ◌≤◌, List}
use Rattle.v8.specs.Numbers.{bad_policy, bad_placement, no_word, wrong_return}
use Rattle.v8.specs.declared.Edition.{Edition}
use Rattle.policy.specs.declared.Policy.{Policy}
use Rattle.step.specs.declared.Registers.{Registers}
use Rattle.machine_steps.specs.declared.End.{End}
use Rattle.machine_steps.specs.declared.End.TheVariants.{Returned, Spent, Fault, Refused}
use Rattle.machine.specs.Run.{run_of}

-- an end has a number of its sort: a fault is one of 101 to 105, a refusal one of 20 to 22
abbrev pub Numbered : End → Type 0
Numbered Returned = Unit {0}
Numbered Spent = Unit {0}
Numbered (Fault n) = (no_word ≤ n) × (n ≤ wrong_return)
Numbered (Refused n) = (bad_policy ≤ n) × (n ≤ bad_placement)

-- Every run's end has.
abbrev pub EndsNumbered : Type 0
EndsNumbered =
    (e : Edition) (p : Policy) (words bases : List ℕ) (returns frame : ℕ) (g : Registers) (allowance : ℕ) (memory : List ℕ)
    → Numbered (run_of e p words bases returns frame g allowance memory).outcome.end
