-- What the marks of a listing of kinds (document 02, request 2) mean. Wherever a run stands, the marks of the word there hold of its registers,
-- whether or not the check accepts the routine. `RunsAsListed`, at the end, is the claim; its proof is proofs/Running.antt's `runs_as_listed`.
use Rattle.std.specs.Prelude.{ℕ, ◌≤◌, ◌<◌, ◌≡◌, ◌⊎◌, Bool, true, List, length}
use Rattle.flow_code.specs.Readings.{readings_of}
use Rattle.v8.specs.declared.Edition.{Edition}
use Rattle.policy.specs.declared.Policy.{Policy}
use Rattle.step.specs.declared.Registers.{Registers}
use Rattle.step.specs.Registers.{value_of, is_set}
use Rattle.step.specs.Step.{State}
use Rattle.machine_steps.specs.Steps.{setting_of, trace_from, going, walk_from}
use Rattle.machine.specs.Run.{start_state}
use Rattle.rows.specs.Geometry.{entry_start}
use Rattle.rows.specs.Row.{entry_of, row_of}
use Rattle.rows.specs.Matches.{Host, base_of, RowMatches}
use Rattle.passes.specs.Answer.{passes, pass_of}
use Rattle.passes.specs.Passes.{flow_pass}
use Rattle.guarantee.specs.Guarantee.{host_of, held_of, Words, Each}
use Rattle.marks.specs.Marks.{not_reached, address_or_null, return_address, unset, register_count}
use Rattle.lister_rules.specs.Table.{place_of, mark_at}
use Rattle.lister.specs.Listing.{listing_of}

-- a value of an entry of the entry row that is "address of a region's start, or null" (kind 3): null, or where the region that it names starts
pub record StartOrNull (h : Host) (entry : List ℕ) (v : ℕ) : Type 0 where
  pub register : ℕ
  pub below : register < register_count
  pub kind : (entry_of entry (entry_start 0 register)).kind ≡ 3
  pub value : (v ≡ 0) ⊎ (v ≡ base_of h (entry_of entry (entry_start 0 register)).region)

-- a mark holds of a register that is set or not, and its value
pub record MarkHolds (h : Host) (entry : List ℕ) (mark : ℕ) (set : Bool) (v : ℕ) : Type 0 where
  -- no word where a run stands is marked as not reached
  pub reached : mark ≡ not_reached → ⊥
  -- every mark but unset says that the register is set
  pub known : (mark ≡ unset → ⊥) → set ≡ true
  -- address or null is the start of a region that the entry row names so, or null
  pub start : mark ≡ address_or_null → StartOrNull h entry v
  -- return is the return address
  pub returns : mark ≡ return_address → v ≡ h.returns

-- the marks of word w hold of the registers
abbrev pub ListingHolds : Host → List ℕ → List ℕ → ℕ → Registers → Type 0
ListingHolds h entry listing w g = (r : ℕ) → r < register_count → MarkHolds h entry (mark_at listing (place_of w r)) (is_set g r) (value_of g r)

-- the marks of the word where a state stands, a slot or not, hold of its registers
abbrev pub AsListed : Host → List ℕ → List ℕ → State → Type 0
AsListed h entry listing st = ListingHolds h entry listing st.control.at.0 st.core.registers

-- words that the flow pass accepts, 32 registers, and a start that matches the entry row; the routine may be refused
pub record Begins (e : Edition) (p : Policy) (words entry bases : List ℕ) (returns frame : ℕ) (g : Registers) (memory : List ℕ) : Type 0 where
  pub flows : passes (pass_of (flow_pass (readings_of e words)) (length (readings_of e words))) ≡ true
  pub registers : Words g
  pub row : RowMatches (host_of bases returns frame) (row_of entry 0) (held_of p (start_state g memory).core)

-- Each state of a run's trace is as listed.
abbrev pub RunsAsListed : Type 0
RunsAsListed =
    (e : Edition) (p : Policy) (words entry bases : List ℕ) (returns frame : ℕ) (g : Registers) (memory : List ℕ) → Begins e p words entry bases returns frame g memory
    → (allowance : ℕ)
    → Each (AsListed (host_of bases returns frame) entry (listing_of (readings_of e words) entry))
    (trace_from (setting_of e p words bases returns frame) allowance (start_state g memory))

-- So is the state that n steps lead to, if there is a word: where the next step would fault, too, which is no state of the trace.
abbrev pub StandsAsListed : Type 0
StandsAsListed =
    (e : Edition) (p : Policy) (words entry bases : List ℕ) (returns frame : ℕ) (g : Registers) (memory : List ℕ) → Begins e p words entry bases returns frame g memory → 1 ≤ length words
    → (n k : ℕ) (st : State) → walk_from (setting_of e p words bases returns frame) n 0 (start_state g memory) ≡ going k st
    → AsListed (host_of bases returns frame) entry (listing_of (readings_of e words) entry) st
