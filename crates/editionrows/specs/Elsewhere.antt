-- The running guarantee is for a run on the terminal that the check was told (document 02, request 5). `GuaranteedElsewhere` says it of a run on
-- any terminal; it is not so, by the routine here, with its policy and rows, and a start that matches its entry row. The words are those that GNU
-- as gives.
use Rattle.std.specs.Prelude.{ℕ, ◌≡◌, true, false, List, [], ◌∷◌, replicate, set}
use Rattle.v8.specs.declared.Edition.{Edition}
use Rattle.v8.specs.declared.Edition.TheVariants.{V8, V9}
use Rattle.policy.specs.declared.Policy.{Policy}
use Rattle.policy.specs.Build.{empty_policy}
use Rattle.memory.specs.Frame.{frame_bytes}
use Rattle.step.specs.declared.Registers.{Registers}
use Rattle.step.specs.Registers.{mark_count}
use Rattle.machine_steps.specs.declared.End.TheVariants.{Returned, Fault}
use Rattle.machine_steps.specs.Steps.{Run, setting_of, trace_from}
use Rattle.machine.specs.Run.{start_state, run_of}
use Rattle.rows.specs.Row.{entry_of}
use Rattle.passes.specs.Answer.{accepted}
use Rattle.checker.specs.Passes.{check_of}
use Rattle.guarantee.specs.Guarantee.{host_of, Start, Guaranteed}
use Rattle.trials.specs.Entries.{unset, bytes_of, bytes_of_entry, bytes_of_rows}
use Rattle.trials.specs.CheckRows.{called}

-- the guarantee's RunningGuarantee, but that the check is told e and the run is on f
abbrev pub GuaranteedElsewhere : Type 0
GuaranteedElsewhere =
    (e f : Edition) (p : Policy) (words rows entry result : List ℕ) → check_of e p words rows entry result ≡ accepted
    → (bases : List ℕ) (returns frame : ℕ) (g : Registers) (memory : List ℕ) → Start p entry bases returns frame g memory
    → (allowance : ℕ)
    → Guaranteed p (entry_of result 0) (setting_of f p words bases returns frame) (host_of bases returns frame) (start_state g memory) allowance
    (run_of f p words bases returns frame g allowance memory)
    (trace_from (setting_of f p words bases returns frame) allowance (start_state g memory))

-- ba,pt %icc 2; nop; retl; nop
abbrev pub words : List ℕ
words = 0x10480002 ∷ 0x01000000 ∷ 0x81C3E008 ∷ 0x01000000 ∷ []

-- no region, every row that of a call, any result
abbrev pub policy : Policy
policy = empty_policy

abbrev pub entry : List ℕ
entry = bytes_of called

abbrev pub rows : List ℕ
rows = bytes_of_rows (called ∷ called ∷ called ∷ called ∷ [])

abbrev pub result : List ℕ
result = bytes_of_entry unset

-- a start: the return address is 1000 hexadecimal, the frame is at 8000, and there is no other memory
abbrev pub returns : ℕ
returns = 0x1000

abbrev pub frame : ℕ
frame = 0x8000

abbrev pub memory : List ℕ
memory = replicate frame_bytes 0

abbrev pub registers : Registers
registers =
    record {
      values = set (replicate 32 0) 15 0x1000;
      marks = set (replicate mark_count false) 15 true;
      codes = record { value = record { n = false; z = false; v = false; c = false }; set = false };
    }

-- a run of at most 9 steps
abbrev pub running : Edition → Run
running f = run_of f policy words [] returns frame registers 9 memory

-- The check accepts the routine for the newer terminal, and the start matches; on the newer terminal the run returns, on the older it faults before
-- a step is done.
pub record Elsewhere : Type 0 where
  pub checked : check_of V9 policy words rows entry result ≡ accepted
  pub matches : Start policy entry [] returns frame registers memory
  pub returned : (running V9).outcome.end ≡ Returned
  pub counted : (running V9).outcome.steps ≡ 4
  pub faulted : (running V8).outcome.end ≡ Fault 101
  pub none : (running V8).outcome.steps ≡ 0
