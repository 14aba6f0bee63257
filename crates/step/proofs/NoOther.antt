-- A step changes no register but the one that its word writes: an operation writes that one, or memory and the mark of a scratch word; a transfer writes
-- none.
use Prim.Native.Nat.{ℕ, ◌%◌}
use mathlib.Core.Path.{refl}
use mathlib.Core.Bool.{Bool, true, false, not, ◌&&◌}
use lib.Dec.{eqb}
use Rattle.v8.proofs.Choice.{cond_both}
use Rattle.v8.specs.declared.Access.{Access}
use Rattle.v8.specs.declared.Access.TheVariants.{Loads, Stores}
use Rattle.v8.specs.declared.Operation.{Operation}
use Rattle.v8.specs.declared.Operation.TheVariants.{Sethi, Alu, Shift, Memory}
use Rattle.v8.specs.declared.Instruction.{Instruction}
use Rattle.v8.specs.declared.Instruction.TheVariants.{Plain, Branch, Return}
use Rattle.v8.specs.declared.Reading.{Reading}
use Rattle.v8.specs.declared.Reading.TheVariants.{Read, Unread}
use Rattle.alu.specs.Condition.{cond_holds}
use Rattle.flow_edges.specs.declared.Destination.{Destination}
use Rattle.flow_edges.specs.declared.Destination.TheVariants.{To, Caller}
use Rattle.flow_edges.specs.declared.Edge.{Edge}
use Rattle.flow_edges.specs.Transfer.{is_transfer, reads_codes, link}
use Rattle.flow_writes.specs.Written.{access_writes, operation_writes, register_written, written_by}
use Rattle.flow_edges.specs.Edge.{edge_of}
use Rattle.flow_code.specs.Readings.{reading_at}
use Rattle.access.specs.declared.Located.{Located}
use Rattle.access.specs.declared.Located.TheVariants.{At, Scratch, Nowhere}
use Rattle.access.specs.Serve.{access_width}
use Rattle.access.specs.Layout.{Layout}
use Rattle.access.specs.Locate.{locate}
use Rattle.step.specs.declared.Registers.{Registers}
use Rattle.step.specs.declared.Control.{Control}
use Rattle.step.specs.declared.Aim.{Aim}
use Rattle.step.specs.declared.Aim.TheVariants.{Address, Missed}
use Rattle.step.specs.Registers.{value_in, set_in, values_with, marks_with, value_of, is_set, operand_set, written, scratch_set}
use Rattle.step.specs.Control.{in_slot, due_at}
use Rattle.step.specs.Effect.{Core, Effect, fault, done, moved_set, aim_of, touching, scratch_access, access_at, access_aimed, effect_of}
use Rattle.step.specs.Step.{State, advance, follow, plain_step, execute, step_with, step_of}
use Rattle.step.specs.Laws.{OthersUnchanged, Leaves, WritesNoOther}
use Rattle.step.proofs.Writing.{write_others}
use Rattle.step.proofs.ScratchMarks.{marking_keeps}

-- of the registers that an effect leaves
abbrev EffectLeaves : (Registers → Type 0) → Effect → Type 0
EffectLeaves P (fault n) = Unit {0}
EffectLeaves P (done c) = P c.registers

module _ (g : Registers) (rd : ℕ) where
  none_changed : OthersUnchanged rd g g
  none_changed r n = (refl, refl)

  one_written : (v : ℕ) → OthersUnchanged rd g (written g rd v)
  unfolding value_in set_in values_with marks_with
  one_written v r n =
      (write_others 0 0 g.values rd v r (λ e _ _. n e), write_others true false g.marks rd true r (λ e _ _. n e))

module _ (l : Layout) (c : Core) where
  abbrev g : Registers
  g = c.registers

  touching_leaves : (a : Access) (rd place : ℕ) → EffectLeaves (OthersUnchanged (access_writes a rd) g) (touching c a rd place)
  touching_leaves (Loads op) rd place = one_written g rd _
  touching_leaves (Stores op) rd place = none_changed g 0

  scratch_leaves : (a : Access) (rd k place : ℕ) → EffectLeaves (OthersUnchanged (access_writes a rd) g) (scratch_access c a rd k place)
  scratch_leaves (Loads op) rd k place = cond_both (EffectLeaves (OthersUnchanged rd g)) (scratch_set g k) (λ _. one_written g rd _) (λ _. tt)
  scratch_leaves (Stores op) rd k place = λ r n. marking_keeps g k r

  located_leaves : (a : Access) (rd : ℕ) (at : Located) → EffectLeaves (OthersUnchanged (access_writes a rd) g) (access_at l.regions c a rd at)
  located_leaves a rd (At r offset) = touching_leaves a rd _
  located_leaves a rd (Scratch k) = scratch_leaves a rd k _
  located_leaves a rd Nowhere = tt

  aimed_leaves : (a : Access) (rd : ℕ) (aim : Aim) → EffectLeaves (OthersUnchanged (access_writes a rd) g) (access_aimed l c a rd aim)
  aimed_leaves a rd (Address address) = located_leaves a rd (locate l a address)
  aimed_leaves a rd (Missed n) = tt

  -- an operation
  operation_leaves : (x : Operation) → EffectLeaves (OthersUnchanged (operation_writes x) g) (effect_of l c x)
  operation_leaves (Sethi rd imm22) = one_written g rd _
  operation_leaves (Alu op cc rd rs1 x) =
      cond_both (EffectLeaves (OthersUnchanged rd g)) (is_set g rs1 && operand_set g x)
      (λ _. cond_both (OthersUnchanged rd g) cc (λ _. one_written g rd _) (λ _. one_written g rd _)) (λ _. tt)
  operation_leaves (Shift op rd rs1 x) =
      cond_both (EffectLeaves (OthersUnchanged rd g)) (is_set g rs1 && operand_set g x) (λ _. one_written g rd _) (λ _. tt)
  operation_leaves (Memory a rd rs1 d) = aimed_leaves a rd (aim_of g (moved_set g.marks a rd) rs1 d (access_width a))

module _ (P : Registers → Type 0) where
  advance_leaves : (c : Core) (d : Destination) → P c.registers → Leaves P (advance c d)
  advance_leaves c (To w) p = p
  advance_leaves c Caller p = p

  plain_leaves : (k : Control) (e : Effect) → EffectLeaves P e → Leaves P (plain_step k e)
  plain_leaves k (fault n) p = tt
  plain_leaves k (done c) p = advance_leaves c (due_at k.at.0 k.pending) p

  follow_leaves : (at : ℕ) (e : Edge) (c : Core) → P c.registers → Leaves P (follow at e c)
  follow_leaves at e c p = cond_both (Leaves P) e.slot (λ _. p) (λ _. advance_leaves c e.to p)

module _ (l : Layout) (returns : ℕ) (st : State) where
  abbrev before : Registers
  before = st.core.registers

  abbrev Keeps : ℕ → Registers → Type 0
  Keeps rd = OthersUnchanged rd before

  -- along an edge of a transfer
  followed : (x : Instruction) (taken : Bool) → Leaves (Keeps 0) (follow st.control.at.0 (edge_of st.control.at.0 x taken) st.core)
  followed x taken = follow_leaves (Keeps 0) st.control.at.0 (edge_of st.control.at.0 x taken) st.core (none_changed before 0)

  execute_leaves : (x : Instruction) → Leaves (Keeps (register_written x)) (execute l returns st x)
  execute_leaves (Plain x) = plain_leaves (Keeps (operation_writes x)) st.control (effect_of l st.core x) (operation_leaves l st.core x)
  execute_leaves (Branch b) =
      cond_both (Leaves (Keeps 0)) (reads_codes b.cond && not before.codes.set) (λ _. tt) (λ _. followed (Branch b) (cond_holds b.cond before.codes.value))
  execute_leaves Return =
      cond_both (Leaves (Keeps 0)) (is_set before link)
      (λ _. cond_both (Leaves (Keeps 0)) (eqb (value_of before link % 4) 0)
      (λ _. cond_both (Leaves (Keeps 0)) (eqb (value_of before link) returns)
      (λ _. followed Return true) (λ _. tt)) (λ _. tt)) (λ _. tt)

  reading_leaves : (x : Reading) → Leaves (Keeps (written_by x)) (step_with l returns st x)
  reading_leaves (Unread n) = tt
  reading_leaves (Read x) = cond_both (Leaves (Keeps (register_written x))) (in_slot st.control.pending && is_transfer x) (λ _. tt) (λ _. execute_leaves x)

pub writes_no_other : WritesNoOther
unfolding step_of
writes_no_other s st = reading_leaves s.layout s.returns st (reading_at s.readings st.control.at.0)
