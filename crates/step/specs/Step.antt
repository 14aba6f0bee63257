-- One step of the machine (document 01: "A step runs one instruction; a skipped slot is no step"). It fetches the word that control
-- stands at, and gives the fault that it stops with, the next state, or that the run has returned.
use Rattle.std.specs.Prelude.{ℕ, ◌%◌, Bool, true, cond, not, ◌&&◌, eqb}
use Rattle.v8.specs.Numbers.{no_word, unset_read, unaligned, wrong_return}
use Rattle.v8.specs.declared.Bicc.{Bicc}
use Rattle.v8.specs.declared.Instruction.{Instruction}
use Rattle.v8.specs.declared.Instruction.TheVariants.{Plain, Branch, Return}
use Rattle.v8.specs.declared.Reading.{Reading}
use Rattle.v8.specs.declared.Reading.TheVariants.{Read, Unread}
use Rattle.alu.specs.Condition.{cond_holds}
use Rattle.flow_edges.specs.declared.Destination.{Destination}
use Rattle.flow_edges.specs.declared.Destination.TheVariants.{To, Caller}
use Rattle.flow_edges.specs.declared.Edge.{Edge}
use Rattle.flow_edges.specs.Transfer.{is_transfer, reads_codes, link}
use Rattle.flow_edges.specs.Edge.{edge_of}
use Rattle.flow_code.specs.Readings.{reading_at}
use Rattle.access.specs.Layout.{Layout}
use Rattle.step.specs.declared.Control.{Control}
use Rattle.step.specs.Registers.{value_of, is_set}
use Rattle.step.specs.Setting.{Setting}
use Rattle.step.specs.Control.{go_to, at_slot, in_slot, due_at}
use Rattle.step.specs.Effect.{Core, Effect, fault, done, effect_of}

-- a state of the machine: where control stands, and what instructions work on
pub record State : Type 0 where
  pub control : Control
  pub core : Core

-- what a step gives
pub data Step : Type 0 where
  stopped : ℕ → Step
  next : State → Step
  returned : Core → Step

-- control goes to a word, or out
abbrev pub advance : Core → Destination → Step
advance c (To w) = next (record { control = go_to w.0; core = c })
advance c Caller = returned c

-- control leaves the transfer at an index for a destination, over the slot if that runs
abbrev pub depart : ℕ → Bool → Destination → Core → Step
depart at slot d c = cond slot (next (record { control = at_slot at d; core = c })) (advance c d)

-- .. as an edge says
abbrev pub follow : ℕ → Edge → Core → Step
follow at e c = depart at e.slot e.to c

-- a step of an operation
abbrev pub plain_step : Control → Effect → Step
plain_step k (fault n) = stopped n
plain_step k (done c) = advance c (due_at k.at.0 k.pending)

-- a branch: its codes read if its condition reads them, then control takes the edge that they decide
abbrev pub branch_step : State → Bicc → Step
branch_step st b =
    cond (reads_codes b.cond && not st.core.registers.codes.set) (stopped unset_read)
    (follow st.control.at.0 (edge_of st.control.at.0 (Branch b) (cond_holds b.cond st.core.registers.codes.value)) st.core)

-- the leaf return: 102, 104, 105 in order
abbrev pub return_step : ℕ → State → Step
return_step returns st =
    cond (is_set st.core.registers link)
    (cond (eqb (value_of st.core.registers link % 4) 0)
    (cond (eqb (value_of st.core.registers link) returns)
    (follow st.control.at.0 (edge_of st.control.at.0 Return true) st.core)
    (stopped wrong_return))
    (stopped unaligned))
    (stopped unset_read)

-- a step of an instruction outside a slot, or of an operation in one
abbrev pub execute : Layout → ℕ → State → Instruction → Step
execute l returns st (Plain x) = plain_step st.control (effect_of l st.core x)
execute l returns st (Branch b) = branch_step st b
execute l returns st Return = return_step returns st

-- "101 word outside, unread, or a transfer in a slot"
abbrev pub step_with : Layout → ℕ → State → Reading → Step
step_with l returns st (Unread n) = stopped no_word
step_with l returns st (Read x) = cond (in_slot st.control.pending && is_transfer x) (stopped no_word) (execute l returns st x)

-- one step
unfoldable pub step_of : Setting → State → Step
step_of s st = step_with s.layout s.returns st (reading_at s.readings st.control.at.0)
