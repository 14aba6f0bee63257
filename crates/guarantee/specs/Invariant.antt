-- What holds of every state that a run of an accepted routine passes through, so that the guarantee can be taken from any of them and not from
-- the start alone.
use Rattle.std.specs.Prelude.{ℕ, ◌<◌, ◌≡◌, true, length, Option, Some, None}
use Rattle.v8.specs.declared.Operation.{Operation}
use Rattle.v8.specs.declared.Instruction.TheVariants.{Plain}
use Rattle.v8.specs.declared.Reading.{Reading}
use Rattle.v8.specs.declared.Reading.TheVariants.{Read}
use Rattle.flow_edges.specs.declared.Destination.{Destination}
use Rattle.flow_edges.specs.declared.Destination.TheVariants.{To, Caller}
use Rattle.flow_code.specs.Readings.{reading_at, examined}
use Rattle.policy.specs.declared.Policy.{Policy}
use Rattle.memory.specs.Memory.{Bytes}
use Rattle.memory.specs.Place.{length_of}
use Rattle.step.specs.Registers.{value_of, is_set}
use Rattle.step.specs.Effect.{Core, Effect, fault, done}
use Rattle.step.specs.Step.{State, Step, stopped, next, returned}
use Rattle.rows.specs.declared.Row.{Row}
use Rattle.rows.specs.Row.{row_with}
use Rattle.rows.specs.Matches.{Host, Matches, RowMatches}
use Rattle.rows.specs.Laws.{RowRules}
use Rattle.rules.specs.declared.Change.{Change}
use Rattle.rules.specs.declared.Change.TheVariants.{Writes, Keeps, Breaks}
use Rattle.rules.specs.Change.{operation_change}
use Rattle.passes_shape.specs.Shape.{result_register}
use Rattle.passes.specs.Passes.{row_at}
use Rattle.checker.specs.Routine.{Routine, count, result_entry}
use Rattle.checker.specs.Laws.{After}
use Rattle.guarantee.specs.Fields.{Declared, Framed}
use Rattle.guarantee.specs.Safe.{OperationSafe}
use Rattle.guarantee.specs.Guarantee.{held_of, Words}

-- registers and memory are what they are meant to be, and readable fields hold declared values
pub record CoreOk (p : Policy) (h : Host) (c : Core) : Type 0 where
  pub words : Words c.registers
  pub bytes : Bytes c.memory
  pub long : length c.memory ≡ length_of p.regions.sizes p.regions.count
  pub declared : Declared p h c.memory

-- registers, scratch words and codes match a well formed row
pub record Fitted (p : Policy) (h : Host) (row : Row) (c : Core) : Type 0 where
  pub rules : RowRules p.regions.count p.regions.sizes row
  pub matches : RowMatches h row (held_of p c)

-- what an operation leaves: its row matches, and memory outside writable fields is as it was
pub record Kept (p : Policy) (h : Host) (row : Row) (c c' : Core) : Type 0 where
  pub fitted : Fitted p h row c'
  pub core : CoreOk p h c'
  pub framed : Framed p c.memory c'.memory

-- an effect is no fault, and leaves that
abbrev pub Good : Policy → Host → Row → Core → Effect → Type 0
Good p h row c (fault n) = ⊥
Good p h row c (done c') = Kept p h row c c'

-- what an operation does to a row covers what it does to the machine, unless it breaks a condition
abbrev pub Covers : Policy → Host → Row → Core → Operation → Effect → Change → Type 0
Covers p h row c x e (Writes r entry note) = OperationSafe p h c.registers x × Good p h (row_with row r entry note) c e
Covers p h row c x e Keeps = OperationSafe p h c.registers x × Good p h row c e
Covers p h row c x e (Breaks number r) = Unit {0}

-- at word w as an ordinary word, which the check examined with its row: outside slots, or (request 4) at a slot that a taken edge lands on
pub record At (t : Routine) (h : Host) (w : ℕ) (c : Core) : Type 0 where
  pub inside : w < count t
  pub free : examined t.readings w ≡ true
  pub fitted : Fitted t.policy h (row_at t.rows w) c

-- where an edge ends, with what the check wants there
abbrev pub Arrived : Routine → Host → Destination → Core → Type 0
Arrived t h (To w) c = At t h w.0 c
Arrived t h Caller c = Matches h (result_entry t.result) (is_set c.registers result_register) (value_of c.registers result_register)

-- an operation that is about to run, and where control then goes: some row matches, the operation makes another of it, and what matches that
-- one has arrived
pub record Due (t : Routine) (h : Host) (x : Operation) (d : Destination) (c : Core) : Type 0 where
  pub row : Row
  pub fitted : Fitted t.policy h row c
  pub after : Row
  pub change : After row (operation_change t.policy row x) after
  pub arrives : (c' : Core) → CoreOk t.policy h c' → Fitted t.policy h after c' → Arrived t h d c'

-- a slot that is about to run is read as an operation
pub record SlotDue (t : Routine) (h : Host) (x : Reading) (d : Destination) (c : Core) : Type 0 where
  pub operation : Operation
  pub is : x ≡ Read (Plain operation)
  pub due : Due t h operation d c

-- what is pending: nothing, at an ordinary word; or in a slot, where the transfer goes
abbrev pub Ready : Routine → Host → ℕ → Core → Option Destination → Type 0
Ready t h w c None = At t h w c
Ready t h w c (Some d) = SlotDue t h (reading_at t.readings w) d c

-- the invariant
pub record Invariant (t : Routine) (h : Host) (st : State) : Type 0 where
  pub core : CoreOk t.policy h st.core
  pub ready : Ready t h st.control.at.0 st.core st.control.pending

-- what a step gives: no fault; a state that satisfies the invariant; or a core with the result as it should be
pub record Stepped (t : Routine) (h : Host) (c : Core) (st : State) : Type 0 where
  pub invariant : Invariant t h st
  pub framed : Framed t.policy c.memory st.core.memory

pub record Left (t : Routine) (h : Host) (c c' : Core) : Type 0 where
  pub core : CoreOk t.policy h c'
  pub framed : Framed t.policy c.memory c'.memory
  pub result : Arrived t h Caller c'

abbrev pub StepGood : Routine → Host → Core → Step → Type 0
StepGood t h c (stopped n) = ⊥
StepGood t h c (next st) = Stepped t h c st
StepGood t h c (returned c') = Left t h c c'
