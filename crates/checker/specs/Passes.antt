-- The last pass of the check, over the words and their edges, and the passes in their order (document 01, "Then each word outside slots"; request 4).
use Rattle.std.specs.Prelude.{ℕ, ◌+◌, true, false, cond, List}
use Rattle.v8.specs.Numbers.{edge_misfit, result_misfit}
use Rattle.v8.specs.declared.Edition.{Edition}
use Rattle.v8.specs.declared.Reading.{Reading}
use Rattle.v8.specs.declared.Reading.TheVariants.{Read, Unread}
use Rattle.flow_edges.specs.declared.Destination.{Destination}
use Rattle.flow_edges.specs.declared.Destination.TheVariants.{To, Caller}
use Rattle.flow_edges.specs.declared.Edge.{Edge}
use Rattle.flow_edges.specs.Edge.{edge_of}
use Rattle.flow_code.specs.Readings.{reading_at, examined}
use Rattle.policy.specs.declared.Policy.{Policy}
use Rattle.rows.specs.declared.Row.{Row}
use Rattle.rows.specs.Entry.{fits}
use Rattle.rows.specs.Row.{entry_at, row_with, misfit}
use Rattle.rules.specs.declared.Change.{Change}
use Rattle.rules.specs.declared.Change.TheVariants.{Writes, Keeps, Breaks}
use Rattle.rules.specs.Change.{change_of}
use Rattle.rules.specs.Narrow.{RowLeft, left, nothing, narrow_row}
use Rattle.passes.specs.declared.Answer.{Answer}
use Rattle.passes.specs.Answer.{accepted, refuse, and_then, need, pass_of}
use Rattle.passes_shape.specs.Shape.{result_register}
use Rattle.passes.specs.Passes.{row_at, unless_fault, policy_pass, shape_pass, row_pass, read_pass, flow_pass, entry_pass}
use Rattle.checker.specs.Routine.{Routine, routine_of, count, result_entry}

-- a word's own conditions, "each named with that word", then what follows on the row that it makes
abbrev pub made : ℕ → Row → (Row → Answer) → Change → Answer
made w row rest (Writes r e n) = rest (row_with row r e n)
made w row rest Keeps = rest row
made w row rest (Breaks number r) = refuse number w r

abbrev pub change_by : Policy → Row → Reading → Change
change_by p row (Read x) = change_of p row x
change_by p row (Unread number) = Breaks number 0

-- word w, read as x, applied to a row
abbrev pub applied : Policy → ℕ → Reading → Row → (Row → Answer) → Answer
applied p w x row rest = made w row rest (change_by p row x)

-- a row arrives: "12 if the row so made does not fit the next row (this word, not the slot; lowest register or 32), or at a return 14 if r8
-- does not fit the result entry (return's word, register 8)"
abbrev pub arrive : List ℕ → List ℕ → ℕ → Destination → Row → Answer
arrive rows result w (To i) row = unless_fault edge_misfit w (misfit row (row_at rows i.0))
arrive rows result w Caller row = need (fits (entry_at row result_register) (result_entry result)) result_misfit w result_register

-- "An edge with no members left is not examined."
abbrev pub if_left : (Row → Answer) → RowLeft → Answer
if_left rest (left row) = rest row
if_left rest nothing = accepted

module _ (p : Policy) (rows result : List ℕ) where
  -- along an edge of word w, whose slot is read as x: "an edge applies its slot (named as the slot's word), then 12 .. or at a return 14"
  unfoldable pub cross : ℕ → Reading → Edge → Row → Answer
  cross w x e row = cond e.slot (applied p (w + 1) x row (arrive rows result w e.to)) (arrive rows result w e.to row)

  -- its class narrows the row; "A slot that runs is applied after narrowing."
  unfoldable pub narrowed_edge : ℕ → Reading → Edge → Row → Answer
  narrowed_edge w x e row = if_left (cross w x e) (narrow_row e.narrowing row)

  -- an edge, if there is one
  abbrev pub edge_pass : ℕ → Reading → Edge → Row → Answer
  edge_pass w x e row = cond e.exists (narrowed_edge w x e row) accepted

  -- "then the taken edge, then the other"
  abbrev pub edges : ℕ → Reading → Reading → Row → Answer
  edges w (Read x) slot row = and_then (edge_pass w slot (edge_of w x true) row) (edge_pass w slot (edge_of w x false) row)
  edges w (Unread number) slot row = accepted

  -- word w, read as x, with its row: "its own conditions, then the taken edge, then the other"
  abbrev pub look : ℕ → Reading → Reading → Answer
  look w x slot = applied p w x (row_at rows w) (edges w x slot)

-- "Then each word outside slots"; request 4: "A slot that a taken edge lands on is also examined as an ordinary word, with its own row read and
-- the following word as its next."
unfoldable pub word_pass : Policy → List Reading → List ℕ → List ℕ → ℕ → Answer
word_pass p readings rows result w =
    cond (examined readings w) (look p rows result w (reading_at readings w) (reading_at readings (w + 1))) accepted

-- the check of a routine
unfoldable pub answer_of : Routine → Answer
answer_of t =
    and_then (policy_pass t.policy)
    (and_then (shape_pass t.policy (count t) t.rows t.entry t.result)
    (and_then (pass_of (row_pass t.policy t.rows) (count t))
    (and_then (pass_of (read_pass t.readings) (count t))
    (and_then (pass_of (flow_pass t.readings) (count t))
    (and_then (entry_pass t.rows t.entry)
    (pass_of (word_pass t.policy t.readings t.rows t.result) (count t)))))))

-- the check, for a terminal of the edition
unfoldable pub check_of : Edition → Policy → List ℕ → List ℕ → List ℕ → List ℕ → Answer
check_of e p words rows entry result = answer_of (routine_of e p words rows entry result)
