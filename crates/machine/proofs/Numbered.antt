-- The numbers of a run's end. A step that stops does so with one of 101 to 105, by cases of the instruction and of each test that stops it; a run
-- that stops has its last step's number; and each refusal is 20, 21 or 22.
use Prim.Native.Nat.{ℕ, zero, suc, ◌+◌, ◌%◌, ◌≤◌}
use mathlib.Core.Bool.{Bool, true, not, ◌&&◌}
use mathlib.Core.List.{List}
use native.Mathlib.Omega.{arith}
use lib.Dec.{ltb, eqb}
use lib.ListN.{length}
use Rattle.v8.proofs.Choice.{cond_both}
use Rattle.v8.specs.Numbers.{no_word, unset_read, no_field, unaligned, wrong_return, most_words}
use Rattle.v8.specs.declared.Access.{Access}
use Rattle.v8.specs.declared.Access.TheVariants.{Loads, Stores}
use Rattle.v8.specs.declared.Displacement.{Displacement}
use Rattle.v8.specs.declared.Operation.{Operation}
use Rattle.v8.specs.declared.Operation.TheVariants.{Sethi, Alu, Shift, Memory}
use Rattle.v8.specs.declared.Instruction.{Instruction}
use Rattle.v8.specs.declared.Instruction.TheVariants.{Plain, Branch, Return}
use Rattle.v8.specs.declared.Reading.{Reading}
use Rattle.v8.specs.declared.Reading.TheVariants.{Read, Unread}
use Rattle.alu.specs.Condition.{cond_holds}
use Rattle.policy.specs.declared.Policy.{Policy}
use Rattle.policy.specs.Policy.{policy_ok}
use Rattle.flow_edges.specs.declared.Destination.{Destination}
use Rattle.flow_edges.specs.declared.Destination.TheVariants.{To, Caller}
use Rattle.flow_edges.specs.declared.Edge.{Edge}
use Rattle.flow_edges.specs.Edge.{edge_of}
use Rattle.flow_edges.specs.Transfer.{is_transfer, reads_codes, link}
use Rattle.flow_code.specs.Readings.{reading_at}
use Rattle.access.specs.declared.Located.{Located}
use Rattle.access.specs.declared.Located.TheVariants.{At, Scratch, Nowhere}
use Rattle.access.specs.Layout.{Layout}
use Rattle.access.specs.Serve.{access_width, addend}
use Rattle.access.specs.Locate.{locate}
use Rattle.step.specs.declared.Aim.{Aim}
use Rattle.step.specs.declared.Aim.TheVariants.{Address, Missed}
use Rattle.step.specs.declared.Control.{Control}
use Rattle.step.specs.declared.Registers.{Registers}
use Rattle.step.specs.Setting.{Setting}
use Rattle.step.specs.Control.{in_slot, due_at}
use Rattle.step.specs.Registers.{value_of, is_set, scratch_set, operand_set}
use Rattle.step.specs.Effect.{Core, Effect, fault, done, address_in, aim_in, aim_of, moved_set, access_at, access_aimed, effect_of}
use Rattle.step.specs.Step.{State, Step, stopped, next, returned, advance, follow, plain_step, execute, step_with, step_of}
use Rattle.machine_place.specs.Placement.{placed_in}
use Rattle.machine_steps.specs.Steps.{Run, after_step, run_from, setting_of}
use Rattle.machine.specs.Run.{refusal_of, run_if, start_state, run_of}
use Rattle.machine.specs.Laws.{Numbered, EndsNumbered}

-- a fault's number, an effect's, an aim's and a step's, if it stops
abbrev IsFault : ℕ → Type 0
IsFault n = (no_word ≤ n) × (n ≤ wrong_return)

abbrev EffectNumbered : Effect → Type 0
EffectNumbered (fault n) = IsFault n
EffectNumbered (done c) = Unit {0}

abbrev AimNumbered : Aim → Type 0
AimNumbered (Address a) = Unit {0}
AimNumbered (Missed n) = IsFault n

abbrev StepNumbered : Step → Type 0
StepNumbered (stopped n) = IsFault n
StepNumbered (next st) = Unit {0}
StepNumbered (returned c) = Unit {0}

-- the five
no-word : IsFault no_word
no-word = (omega arith, omega arith)

unset-read : IsFault unset_read
unset-read = (omega arith, omega arith)

no-field : IsFault no_field
no-field = (omega arith, omega arith)

un_aligned : IsFault unaligned
un_aligned = (omega arith, omega arith)

wrong-return : IsFault wrong_return
wrong-return = (omega arith, omega arith)

module _ (l : Layout) (c : Core) where
  touched : (a : Access) (rd : ℕ) (at : Located) → EffectNumbered (access_at l.regions c a rd at)
  touched (Loads op) rd (At r offset) = tt
  touched (Stores op) rd (At r offset) = tt
  touched (Loads op) rd (Scratch k) = cond_both EffectNumbered (scratch_set c.registers k) (λ _. tt) (λ _. unset-read)
  touched (Stores op) rd (Scratch k) = tt
  touched a rd Nowhere = no-field

  aimed : (others : Bool) (rs1 : ℕ) (d : Displacement) (width : ℕ) → AimNumbered (aim_of c.registers others rs1 d width)
  unfolding aim_in
  aimed others rs1 d width =
      cond_both AimNumbered (is_set c.registers rs1 && operand_set c.registers (addend d) && others)
      (λ _. cond_both AimNumbered (eqb (address_in c.registers.values rs1 d % width) 0) (λ _. tt) (λ _. un_aligned))
      (λ _. unset-read)

  accessed : (a : Access) (rd : ℕ) (x : Aim) → AimNumbered x → EffectNumbered (access_aimed l c a rd x)
  accessed a rd (Address address) h = touched a rd (locate l a address)
  accessed a rd (Missed n) h = h

  effect_numbered : (x : Operation) → EffectNumbered (effect_of l c x)
  effect_numbered (Sethi rd imm22) = tt
  effect_numbered (Alu op codes rd rs1 x) = cond_both EffectNumbered (is_set c.registers rs1 && operand_set c.registers x) (λ _. tt) (λ _. unset-read)
  effect_numbered (Shift op rd rs1 x) = cond_both EffectNumbered (is_set c.registers rs1 && operand_set c.registers x) (λ _. tt) (λ _. unset-read)
  effect_numbered (Memory a rd rs1 d) =
      accessed a rd (aim_of c.registers (moved_set c.registers.marks a rd) rs1 d (access_width a)) (aimed (moved_set c.registers.marks a rd) rs1 d (access_width a))

advances : (c : Core) (d : Destination) → StepNumbered (advance c d)
advances c (To w) = tt
advances c Caller = tt

follows : (at : ℕ) (e : Edge) (c : Core) → StepNumbered (follow at e c)
follows at e c = cond_both StepNumbered e.slot (λ _. tt) (λ _. advances c e.to)

plain : (k : Control) (e : Effect) → EffectNumbered e → StepNumbered (plain_step k e)
plain k (fault n) h = h
plain k (done c) h = advances c (due_at k.at.0 k.pending)

module _ (l : Layout) (returns : ℕ) (st : State) where
  executes : (x : Instruction) → StepNumbered (execute l returns st x)
  executes (Plain x) = plain st.control (effect_of l st.core x) (effect_numbered l st.core x)
  executes (Branch b) =
      cond_both StepNumbered (reads_codes b.cond && not st.core.registers.codes.set) (λ _. unset-read)
      (λ _. follows st.control.at.0 (edge_of st.control.at.0 (Branch b) (cond_holds b.cond st.core.registers.codes.value)) st.core)
  executes Return =
      cond_both StepNumbered (is_set st.core.registers link)
      (λ _. cond_both StepNumbered (eqb (value_of st.core.registers link % 4) 0)
      (λ _. cond_both StepNumbered (eqb (value_of st.core.registers link) returns)
      (λ _. follows st.control.at.0 (edge_of st.control.at.0 Return true) st.core)
      (λ _. wrong-return))
      (λ _. un_aligned))
      (λ _. unset-read)

  steps_with : (x : Reading) → StepNumbered (step_with l returns st x)
  steps_with (Unread n) = no-word
  steps_with (Read x) = cond_both StepNumbered (in_slot st.control.pending && is_transfer x) (λ _. no-word) (λ _. executes x)

module _ (s : Setting) where
  step_numbered : (st : State) → StepNumbered (step_of s st)
  unfolding step_of
  step_numbered st = steps_with s.layout s.returns st (reading_at s.readings st.control.at.0)

  after_numbered : (k : ℕ) (st : State) (rest : State → Run) (x : Step) → ((t : State) → Numbered (rest t).outcome.end) → StepNumbered x
      → Numbered (after_step k st rest x).outcome.end
  after_numbered k st rest (stopped n) h q = q
  after_numbered k st rest (next t) h q = h t
  after_numbered k st rest (returned c) h q = tt

  run_numbered : (n k : ℕ) (st : State) → Numbered (run_from s n k st).outcome.end
  unfolding run_from
  run_numbered zero k st = tt
  run_numbered (suc n) k st = after_numbered k st (run_from s n (k + 1)) (step_of s st) (run_numbered n (k + 1)) (step_numbered st)

-- a refusal's number, if it is one
abbrev RefusalNumbered : ℕ → Type 0
RefusalNumbered zero = Unit {0}
RefusalNumbered (suc n) = (20 ≤ suc n) × (suc n ≤ 22)

refusal_numbered : (p : Policy) (words bases : List ℕ) (returns frame : ℕ) (memory : List ℕ) → RefusalNumbered (refusal_of p words bases returns frame memory)
unfolding refusal_of
refusal_numbered p words bases returns frame memory =
    cond_both RefusalNumbered (policy_ok p)
    (λ _. cond_both RefusalNumbered (ltb (length words) 1) (λ _. (omega arith, omega arith))
    (λ _. cond_both RefusalNumbered (ltb most_words (length words)) (λ _. (omega arith, omega arith))
    (λ _. cond_both RefusalNumbered (placed_in p.regions.count p.regions.sizes bases returns frame memory) (λ _. tt) (λ _. (omega arith, omega arith)))))
    (λ _. (omega arith, omega arith))

if_numbered : (n : ℕ) (run : Run) (g : Registers) (memory : List ℕ) → RefusalNumbered n → Numbered run.outcome.end → Numbered (run_if n run g memory).outcome.end
if_numbered zero run g memory r h = h
if_numbered (suc n) run g memory r h = r

pub ends_numbered : EndsNumbered
unfolding run_of
ends_numbered e p words bases returns frame g allowance memory =
    if_numbered (refusal_of p words bases returns frame memory) _ g memory (refusal_numbered p words bases returns frame memory)
    (run_numbered (setting_of e p words bases returns frame) allowance 0 (start_state g memory))
