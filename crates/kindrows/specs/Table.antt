-- The table of request 2's worked cases, in parts small enough for one proof each.
use Rattle.std.specs.Prelude.{◌≡◌, List, map}
use Rattle.v8.specs.declared.Edition.{Edition}
use Rattle.kindrows.specs.Case.{Row, outcome}
use Rattle.kindrows.specs.MarkRows.{meet_rows, word_rows}
use Rattle.kindrows.specs.ListRows.{list_rows, refused_rows}

-- the rows of a list hold, on a terminal of the edition: each has the outcome that it expects
abbrev pub Holds : Edition → List Row → Type 0
Holds e rows = map (λ (r : Row). outcome e r.given) rows ≡ map (λ (r : Row). r.expected) rows

pub record TableHolds (e : Edition) : Type 0 where
  pub meets : Holds e meet_rows
  pub words : Holds e word_rows
  pub lists : Holds e list_rows
  pub refusals : Holds e refused_rows
