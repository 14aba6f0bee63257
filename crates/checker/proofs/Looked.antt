-- What an accepted word shows of its edges and what arrives, each from the definition's own tests.
use Prim.Native.Nat.{ℕ}
use mathlib.Core.Path.{◌≡◌, refl, sym, ◌∙◌, subst}
use mathlib.Core.Bool.{Bool, true, false, cond}
use mathlib.Core.List.{List}
use Rattle.v8.specs.Numbers.{edge_misfit, result_misfit}
use Rattle.v8.specs.declared.Reading.{Reading}
use Rattle.v8.specs.declared.Reading.TheVariants.{Read, Unread}
use Rattle.v8.specs.Laws.{ReadingSound}
use Rattle.v8.proofs.Choice.{false_true}
use Rattle.flow_edges.specs.declared.Destination.TheVariants.{To, Caller}
use Rattle.flow_edges.specs.declared.Edge.{Edge}
use Rattle.flow_edges.specs.Edge.{edge_of}
use Rattle.policy.specs.declared.Policy.{Policy}
use Rattle.rows.specs.declared.Row.{Row}
use Rattle.rows.specs.Entry.{fits}
use Rattle.rows.specs.Row.{entry_at, row_with, misfit}
use Rattle.rules.specs.declared.Change.{Change}
use Rattle.rules.specs.declared.Change.TheVariants.{Writes, Keeps, Breaks}
use Rattle.rules.specs.Narrow.{RowLeft, left, narrow_row}
use Rattle.rules.proofs.Numbered.{Numbered, change_numbered}
use Rattle.passes.specs.declared.Answer.{Answer}
use Rattle.passes.specs.Answer.{accepted, passes}
use Rattle.passes_shape.specs.Shape.{result_register}
use Rattle.passes.specs.Passes.{row_at}
use Rattle.checker.specs.Routine.{result_entry}
use Rattle.checker.specs.Passes.{made, change_by, cross, if_left, narrowed_edge, edge_pass}
use Rattle.checker.specs.Laws.{After, WordMakes, EdgesLooked, SlotApplied, SlotSkipped, Arrives}
use Rattle.passes.proofs.Accepting.{both_pass, need_holds, no_fault}

-- what breaks a condition has a number
numbered_by : (p : Policy) (row : Row) (x : Reading) → ReadingSound x → Numbered (change_by p row x)
numbered_by p row (Read x) s = change_numbered p row x
numbered_by p row (Unread n) s = s

record Passed (row : Row) (rest : Row → Answer) (ch : Change) : Type 0 where
  after : Row
  change : After row ch after
  passed : passes (rest after) ≡ true

made_passes : (w : ℕ) (row : Row) (rest : Row → Answer) (ch : Change) → Numbered ch → passes (made w row rest ch) ≡ true → Passed row rest ch
made_passes w row rest (Writes r e n) k q = record { after = row_with row r e n; change = refl; passed = q }
made_passes w row rest Keeps k q = record { after = row; change = refl; passed = q }
made_passes w row rest (Breaks n r) k q = false_true (sym k ∙ q)

pub word_makes : WordMakes
word_makes p w x row rest s e =
    let m = made_passes w row rest (change_by p row x) (numbered_by p row x s) e in
    record { after = m.after; change = m.change; passed = m.passed }

module _ (p : Policy) (rows result : List ℕ) where
  -- an edge that there is, and that narrowing leaves a row of
  edge_looked : (w : ℕ) (slot : Reading) (e : Edge) (row : Row) → passes (edge_pass p rows result w slot e row) ≡ true → e.exists ≡ true
      → (narrowed : Row) → narrow_row e.narrowing row ≡ left narrowed → passes (cross p rows result w slot e narrowed) ≡ true
  unfolding narrowed_edge
  edge_looked w slot e row q t narrowed n =
      subst (λ (x : RowLeft). passes (if_left (cross p rows result w slot e) x) ≡ true) n
      (subst (λ (b : Bool). passes (cond b (narrowed_edge p rows result w slot e row) accepted) ≡ true) t q)

pub edges_looked : EdgesLooked
edges_looked p rows result w x slot row e taken =
    let b = both_pass (edge_pass p rows result w slot (edge_of w x true) row) (edge_pass p rows result w slot (edge_of w x false) row) e in
    at taken b.0 b.1
  where
    at : (taken : Bool) → passes (edge_pass p rows result w slot (edge_of w x true) row) ≡ true → passes (edge_pass p rows result w slot (edge_of w x false) row) ≡ true
        → (edge_of w x taken).exists ≡ true → (narrowed : Row) → narrow_row (edge_of w x taken).narrowing row ≡ left narrowed
        → passes (cross p rows result w slot (edge_of w x taken) narrowed) ≡ true
    at true q r = edge_looked p rows result w slot (edge_of w x true) row q
    at false q r = edge_looked p rows result w slot (edge_of w x false) row r

pub slot_applied : SlotApplied
unfolding cross
slot_applied p rows result w slot e row q t = rw t at q

pub slot_skipped : SlotSkipped
unfolding cross
slot_skipped p rows result w slot e row q t = rw t at q

pub arrives : Arrives
arrives rows result w (To i) row e = no_fault edge_misfit w (misfit row (row_at rows i.0)) refl e
arrives rows result w Caller row e = need_holds (fits (entry_at row result_register) (result_entry result)) result_misfit w result_register refl e
