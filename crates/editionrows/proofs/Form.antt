-- A branch's form has no effect: no definition but those of reading and writing looks at it.
use Prim.Native.Nat.{ℕ}
use mathlib.Core.Path.{refl}
use mathlib.Core.Bool.{Bool}
use Rattle.v8.specs.declared.BranchForm.{BranchForm}
use Rattle.flow_edges.specs.Transfer.{slot_runs, target_of}
use Rattle.editionrows.specs.Form.{FormNoEffect}

pub form_no_effect : (annul : Bool) (cnd distance : ℕ) (f g : BranchForm) → FormNoEffect annul cnd distance f g
unfolding slot_runs target_of
form_no_effect annul cnd distance f g =
    record { edges = λ at taken. refl; flow = λ readings at. refl; change = λ p row. refl; marks = λ m. refl; step = λ l returns st. refl }
