-- What a step leaves of the registers, and what the marks of scratch words have to do with them. The proofs are in proofs/.
use Rattle.std.specs.Prelude.{ℕ, ◌<◌, ◌≡◌, true, false, length}
use Rattle.memory.specs.Frame.{scratch_count}
use Rattle.flow_code.specs.Readings.{reading_at}
use Rattle.flow_writes.specs.Written.{written_by}
use Rattle.step.specs.declared.Registers.{Registers}
use Rattle.step.specs.Registers.{mark_count, value_of, is_set, written, scratch_set, with_scratch, unset_scratch}
use Rattle.step.specs.Setting.{Setting}
use Rattle.step.specs.Step.{State, Step, stopped, next, returned, step_of}

-- register r is as it was: its value and its mark
abbrev pub Unchanged : Registers → Registers → ℕ → Type 0
Unchanged before after r = (value_of after r ≡ value_of before r) × (is_set after r ≡ is_set before r)

-- every register but rd is
abbrev pub OthersUnchanged : ℕ → Registers → Registers → Type 0
OthersUnchanged rd before after = (r : ℕ) → (r ≡ rd → ⊥) → Unchanged before after r

-- of the registers that a step leaves: "A faulting step changes nothing"
abbrev pub Leaves : (Registers → Type 0) → Step → Type 0
Leaves P (stopped n) = Unit {0}
Leaves P (next st) = P st.core.registers
Leaves P (returned c) = P c.registers

-- A step changes no register, value or mark, but the one that its word writes.
abbrev pub WritesNoOther : Type 0
WritesNoOther =
    (s : Setting) (st : State)
    → Leaves (OthersUnchanged (written_by (reading_at s.readings st.control.at.0)) st.core.registers) (step_of s st)

-- A write to a register keeps the marks of scratch words.
abbrev pub WriteKeepsScratch : Type 0
WriteKeepsScratch = (g : Registers) (r v k : ℕ) → scratch_set (written g r v) k ≡ scratch_set g k

-- A scratch word that is set is set, with the others and the registers as they were.
pub record OneSet (g : Registers) (k : ℕ) : Type 0 where
  pub here : scratch_set (with_scratch g k) k ≡ true
  pub others : (j : ℕ) → (j ≡ k → ⊥) → scratch_set (with_scratch g k) j ≡ scratch_set g j
  pub registers : (r : ℕ) → Unchanged g (with_scratch g k) r
  pub marks : length (with_scratch g k).marks ≡ length g.marks

abbrev pub ScratchIsSet : Type 0
ScratchIsSet = (g : Registers) (k : ℕ) → length g.marks ≡ mark_count → k < scratch_count → OneSet g k

-- The six that are unset are unset, with the registers as they were.
pub record AllUnset (g : Registers) : Type 0 where
  pub scratch : (k : ℕ) → k < scratch_count → scratch_set (unset_scratch g) k ≡ false
  pub registers : (r : ℕ) → Unchanged g (unset_scratch g) r
  pub marks : length (unset_scratch g).marks ≡ length g.marks

abbrev pub ScratchIsUnset : Type 0
ScratchIsUnset = (g : Registers) → AllUnset g
