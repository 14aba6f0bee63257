-- What an accepted check shows: one field for each pass, and of each word what its edges and the rows that arrive show. Later parts
-- use these and not the definition of the check. The proofs are in proofs/.
use Rattle.std.specs.Prelude.{ℕ, ◌+◌, ◌*◌, ◌≤◌, ◌<◌, ◌≡◌, Bool, true, false, List, None}
use Rattle.v8.specs.Numbers.{most_words}
use Rattle.v8.specs.declared.Edition.{Edition}
use Rattle.v8.specs.declared.Instruction.{Instruction}
use Rattle.v8.specs.declared.Reading.{Reading}
use Rattle.v8.specs.declared.Reading.TheVariants.{Read}
use Rattle.v8.specs.Laws.{ReadingSound}
use Rattle.flow_edges.specs.declared.Destination.{Destination}
use Rattle.flow_edges.specs.declared.Destination.TheVariants.{To, Caller}
use Rattle.flow_edges.specs.declared.Edge.{Edge}
use Rattle.flow_edges.specs.Edge.{edge_of}
use Rattle.flow_code.specs.Readings.{reading_at, examined}
use Rattle.flow.specs.Laws.{Flowing, Leaving}
use Rattle.policy.specs.declared.Policy.{Policy}
use Rattle.policy.specs.Policy.{policy_ok}
use Rattle.rows.specs.declared.Row.{Row}
use Rattle.rows.specs.Entry.{fits}
use Rattle.rows.specs.Geometry.{row_bytes}
use Rattle.rows.specs.Row.{entry_at, row_with, entry_formed_as, form_fault, scratch_unset, misfit}
use Rattle.rules.specs.declared.Change.{Change}
use Rattle.rules.specs.declared.Change.TheVariants.{Writes, Keeps, Breaks}
use Rattle.rules.specs.Narrow.{left, narrow_row}
use Rattle.passes.specs.declared.Answer.{Answer}
use Rattle.passes.specs.Answer.{accepted, passes}
use Rattle.passes_shape.specs.Shape.{result_register}
use Rattle.passes.specs.Passes.{row_at, entry_row, read_pass}
use Rattle.checker.specs.Routine.{Routine, routine_of, count, result_entry}
use Rattle.checker.specs.Passes.{arrive, change_by, applied, cross, edges, look, check_of}

pub record Checked (t : Routine) : Type 0 where
  -- 20
  pub policy : policy_ok t.policy ≡ true
  -- 21
  pub some : 1 ≤ count t
  pub most : count t ≤ most_words
  pub entry-formed : form_fault t.policy.regions.count t.policy.regions.sizes t.entry 0 ≡ None
  pub entry_unset : scratch_unset t.entry 0 ≡ true
  pub result_formed : entry_formed_as t.policy.regions.count t.policy.regions.sizes t.result 0 result_register ≡ true
  -- 1
  pub rows_formed : (w : ℕ) → w < count t → form_fault t.policy.regions.count t.policy.regions.sizes t.rows (row_bytes * w) ≡ None
  -- 2, 24
  pub reads : (w : ℕ) → w < count t → passes (read_pass t.readings w) ≡ true
  -- 3
  pub flows : Flowing t.readings
  -- 25
  pub leaves : Leaving t.readings
  -- 15
  pub entry : misfit (entry_row t.entry) (row_at t.rows 0) ≡ None
  -- each word that is examined
  pub words : (w : ℕ) → w < count t → examined t.readings w ≡ true
      → passes (look t.policy t.rows t.result w (reading_at t.readings w) (reading_at t.readings (w + 1))) ≡ true

-- An accepted check has passed every pass.
abbrev pub Accepts : Type 0
Accepts = (e : Edition) (p : Policy) (words rows entry result : List ℕ) → check_of e p words rows entry result ≡ accepted → Checked (routine_of e p words rows entry result)

-- a row after a change
abbrev pub After : Row → Change → Row → Type 0
After row (Writes r entry note) after = after ≡ row_with row r entry note
After row Keeps after = after ≡ row
After row (Breaks number r) after = ⊥

-- a word that was applied to a row made another, of which the rest passed
pub record Made (p : Policy) (row : Row) (x : Reading) (rest : Row → Answer) : Type 0 where
  pub after : Row
  pub change : After row (change_by p row x) after
  pub passed : passes (rest after) ≡ true

abbrev pub WordMakes : Type 0
WordMakes =
    (p : Policy) (w : ℕ) (x : Reading) (row : Row) (rest : Row → Answer) → ReadingSound x → passes (applied p w x row rest) ≡ true → Made p row x rest

-- Each edge that there is was looked at, from the row that its class narrows to.
abbrev pub EdgesLooked : Type 0
EdgesLooked =
    (p : Policy) (rows result : List ℕ) (w : ℕ) (x : Instruction) (slot : Reading) (row : Row) → passes (edges p rows result w (Read x) slot row) ≡ true
    → (taken : Bool) → (edge_of w x taken).exists ≡ true
    → (narrowed : Row) → narrow_row (edge_of w x taken).narrowing row ≡ left narrowed
    → passes (cross p rows result w slot (edge_of w x taken) narrowed) ≡ true

-- An edge whose slot runs applied it; one whose slot does not run arrives as it is.
abbrev pub SlotApplied : Type 0
SlotApplied =
    (p : Policy) (rows result : List ℕ) (w : ℕ) (slot : Reading) (e : Edge) (row : Row) → passes (cross p rows result w slot e row) ≡ true
    → e.slot ≡ true → passes (applied p (w + 1) slot row (arrive rows result w e.to)) ≡ true

abbrev pub SlotSkipped : Type 0
SlotSkipped =
    (p : Policy) (rows result : List ℕ) (w : ℕ) (slot : Reading) (e : Edge) (row : Row) → passes (cross p rows result w slot e row) ≡ true
    → e.slot ≡ false → passes (arrive rows result w e.to row) ≡ true

-- A row that arrived at a word fits that word's row; at the caller its r8 fits the result entry.
abbrev pub FitsThere : List ℕ → List ℕ → Destination → Row → Type 0
FitsThere rows result (To i) row = misfit row (row_at rows i.0) ≡ None
FitsThere rows result Caller row = fits (entry_at row result_register) (result_entry result) ≡ true

abbrev pub Arrives : Type 0
Arrives = (rows result : List ℕ) (w : ℕ) (d : Destination) (row : Row) → passes (arrive rows result w d row) ≡ true → FitsThere rows result d row
