-- Demand 3, the running guarantee: "one claim about the whole run, not one for each step: for every input that demand 2's check answers with
-- 0 0 0, every matching start and every allowance, 0 too". `RunningGuarantee`, at the end, is the claim; its proof is
-- proofs/Whole.antt's `running_guarantee`.
use Rattle.std.specs.Prelude.{ℕ, ◌-◌, ◌<◌, ◌≡◌, Bool, true, cond, List, [], ◌∷◌, ltb, length, get_or}
use Rattle.v8.specs.declared.Edition.{Edition}
use Rattle.policy.specs.declared.Policy.{Policy}
use Rattle.memory.specs.Memory.{Bytes, word_at}
use Rattle.step.specs.declared.Registers.{Registers}
use Rattle.step.specs.Registers.{mark_count, value_of, is_set, scratch_set}
use Rattle.flow_code.specs.Readings.{reading_at}
use Rattle.flow_writes.specs.Written.{is_callers}
use Rattle.step.specs.Setting.{Setting}
use Rattle.step.specs.Effect.{Core}
use Rattle.step.specs.Step.{State, next, returned, step_of}
use Rattle.step.specs.Laws.{Unchanged}
use Rattle.machine_steps.specs.declared.End.{End}
use Rattle.machine_steps.specs.declared.End.TheVariants.{Returned, Spent, Fault, Refused}
use Rattle.machine_place.specs.Placement.{placed_in}
use Rattle.machine_steps.specs.Steps.{Run, setting_of, trace_from}
use Rattle.machine.specs.Run.{start_state, run_of}
use Rattle.rows.specs.declared.Entry.{Entry}
use Rattle.rows.specs.Geometry.{register_count}
use Rattle.rows.specs.Row.{entry_of, row_of}
use Rattle.rows.specs.Matches.{Host, Matches, Held, RowMatches}
use Rattle.passes.specs.Answer.{accepted}
use Rattle.passes_shape.specs.Shape.{result_register}
use Rattle.checker.specs.Passes.{check_of}
use Rattle.guarantee.specs.Fields.{scratch_of, Declared, Framed}
use Rattle.guarantee.specs.Safe.{ReadingSafe}

-- what the host has chosen
abbrev pub host_of : List ℕ → ℕ → ℕ → Host
host_of bases returns frame = record { bases = bases; returns = returns; frame = frame }

-- What registers, scratch words and codes of the machine hold, by the index of the entry in a row: the 32 registers, "r0 counts as a set zero", and after
-- them the scratch words in their places of the lent memory. Request 7: a scratch word matches its entry as a register does.
unfoldable pub value_at : Policy → Core → ℕ → ℕ
value_at p c i = cond (ltb i register_count) (value_of c.registers i) (word_at c.memory (scratch_of p (i - register_count)))

unfoldable pub mark_at : Core → ℕ → Bool
mark_at c i = cond (ltb i register_count) (is_set c.registers i) (scratch_set c.registers (i - register_count))

abbrev pub held_of : Policy → Core → Held
held_of p c = record { value = value_at p c; mark = mark_at c; codes = c.registers.codes.value; coded = c.registers.codes.set }

-- 32 registers of 32 bits, each with its mark, and the six scratch words' marks
pub record Words (g : Registers) : Type 0 where
  pub values : length g.values ≡ 32
  pub marks : length g.marks ≡ mark_count
  pub small : (r : ℕ) → get_or g.values r 0 < 4294967296

-- "A start matches if 22 finds nothing wrong in it, registers and codes match the entry row, and readable fields (permission 1 or 3) match,
-- that is hold declared values."
pub record Start (p : Policy) (entry bases : List ℕ) (returns frame : ℕ) (g : Registers) (memory : List ℕ) : Type 0 where
  pub words : Words g
  pub bytes : Bytes memory
  pub placed : placed_in p.regions.count p.regions.sizes bases returns frame memory ≡ true
  pub row : RowMatches (host_of bases returns frame) (row_of entry 0) (held_of p (start_state g memory).core)
  pub fields : Declared p (host_of bases returns frame) memory

-- "isn't refused and ends at no fault"; "if it returned, r8 matches the result entry"
abbrev pub EndsWell : Host → Entry → Registers → End → Type 0
EndsWell h result g Returned = Matches h result (is_set g result_register) (value_of g result_register)
EndsWell h result g Spent = Unit {0}
EndsWell h result g (Fault n) = ⊥
EndsWell h result g (Refused n) = ⊥

-- "Each of its steps is demand 2's step on what the one before left": a run from a state over the states whose steps are run, to its end and
-- what it leaves
pub data Follows (s : Setting) : State → List State → End → Core → Type 0 where
  -- it is spent where it stands
  halts : {st : State} → Follows s st [] Spent st.core
  -- a step, and the rest from what that left
  goes : {st t : State} {rest : List State} {end : End} {c : Core} → step_of s st ≡ next t → Follows s t rest end c → Follows s st (st ∷ rest) end c
  -- the step that returns
  leaves : {st : State} {c : Core} → step_of s st ≡ returned c → Follows s st (st ∷ []) Returned c

-- what a run leaves
abbrev pub core_left : Run → Core
core_left run = record { registers = run.outcome.registers; memory = run.memory }

-- of each state
abbrev pub Each : (State → Type 0) → List State → Type 0
Each P [] = Unit {0}
Each P (st ∷ rest) = P st × Each P rest

-- the step of a state is safe
abbrev pub StepSafe : Policy → Host → Setting → State → Type 0
StepSafe p h s st = ReadingSafe p h st.core.registers (reading_at s.readings st.control.at.0)

-- the registers of the caller are as they were, values and marks
abbrev pub CallersUnchanged : Registers → Registers → Type 0
CallersUnchanged before after = (r : ℕ) → is_callers r ≡ true → Unchanged before after r

-- one claim about a whole run from a state with an allowance, and the states whose steps were run
pub record Guaranteed (p : Policy) (result : Entry) (s : Setting) (h : Host) (start : State) (allowance : ℕ) (run : Run) (trace : List State) : Type 0 where
  -- not refused, at no fault, and the result matches if it returned
  pub ends : EndsWell h result run.outcome.registers run.outcome.end
  -- the steps counted are exactly those of the trace
  pub steps : run.outcome.steps ≡ length trace
  -- "spent (exactly the allowance run)"
  pub spent : run.outcome.end ≡ Spent → run.outcome.steps ≡ allowance
  -- "Each of its steps is demand 2's step on what the one before left"
  pub follows : Follows s start trace run.outcome.end (core_left run)
  -- no step reads anything unset, uses a null or unaligned address, or leaves the fields that its policy allows and the six scratch words
  pub safe : Each (StepSafe p h s) trace
  -- "every readable field still holds declared values"
  pub declared : Declared p h run.memory
  -- "every byte of the lent memory outside writable fields is as it was at the start", but for the six scratch words
  pub framed : Framed p start.core.memory run.memory
  -- request 6: "The running guarantee adds that these never change.": r14 and r16 to r31 are at the end, however it ends, as at the start ..
  pub callers : CallersUnchanged start.core.registers run.outcome.registers
  -- .. and so in every state of the trace
  pub callers_throughout : Each (λ (st : State). CallersUnchanged start.core.registers st.core.registers) trace

-- the running guarantee; request 5: "the guarantee being for a run on the one the check was told", which check and run share as e
abbrev pub RunningGuarantee : Type 0
RunningGuarantee =
    (e : Edition) (p : Policy) (words rows entry result : List ℕ) → check_of e p words rows entry result ≡ accepted
    → (bases : List ℕ) (returns frame : ℕ) (g : Registers) (memory : List ℕ) → Start p entry bases returns frame g memory
    → (allowance : ℕ)
    → Guaranteed p (entry_of result 0) (setting_of e p words bases returns frame) (host_of bases returns frame) (start_state g memory) allowance
    (run_of e p words bases returns frame g allowance memory)
    (trace_from (setting_of e p words bases returns frame) allowance (start_state g memory))
