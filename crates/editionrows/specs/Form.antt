-- A branch's form has no effect (document 02, request 5: "a prediction hint .. kept but with no effect"): of two branches that differ in nothing else
-- edges, the flow that they ask for, what they do to a row and to marks, and the machine's step are the same.
use Rattle.std.specs.Prelude.{ℕ, ◌≡◌, Bool, List}
use Rattle.v8.specs.declared.BranchForm.{BranchForm}
use Rattle.v8.specs.declared.Instruction.{Instruction}
use Rattle.v8.specs.declared.Instruction.TheVariants.{Branch}
use Rattle.v8.specs.declared.Reading.{Reading}
use Rattle.v8.specs.declared.Reading.TheVariants.{Read}
use Rattle.flow_edges.specs.Edge.{edge_of}
use Rattle.flow.specs.Flow.{flow_of}
use Rattle.policy.specs.declared.Policy.{Policy}
use Rattle.access.specs.Layout.{Layout}
use Rattle.step.specs.Step.{State, step_with}
use Rattle.rows.specs.declared.Row.{Row}
use Rattle.rules.specs.Change.{change_of}
use Rattle.marks.specs.Effect.{marks_after}

-- a branch of a form
abbrev pub formed : Bool → ℕ → ℕ → BranchForm → Instruction
formed annul cnd distance form = Branch (record { annul = annul; cond = cnd; distance = record { 0 = distance }; form = form })

pub record FormNoEffect (annul : Bool) (cnd distance : ℕ) (f g : BranchForm) : Type 0 where
  pub edges : (at : ℕ) (taken : Bool) → edge_of at (formed annul cnd distance f) taken ≡ edge_of at (formed annul cnd distance g) taken
  pub flow : (readings : List Reading) (at : ℕ)
      → flow_of readings at (Read (formed annul cnd distance f)) ≡ flow_of readings at (Read (formed annul cnd distance g))
  pub change : (p : Policy) (row : Row) → change_of p row (formed annul cnd distance f) ≡ change_of p row (formed annul cnd distance g)
  pub marks : (m : List ℕ) → marks_after m (formed annul cnd distance f) ≡ marks_after m (formed annul cnd distance g)
  pub step : (l : Layout) (returns : ℕ) (st : State)
      → step_with l returns st (Read (formed annul cnd distance f)) ≡ step_with l returns st (Read (formed annul cnd distance g))
