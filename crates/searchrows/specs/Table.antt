-- The table of request 3's worked cases, in parts small enough for one proof each.
use Rattle.std.specs.Prelude.{◌≡◌, List, map}
use Rattle.searchrows.specs.Case.{Row, outcome}
use Rattle.searchrows.specs.Rows.{search_rows, refused_rows, list_rows}

-- the rows of a list hold: each has the outcome that it expects
abbrev pub Holds : List Row → Type 0
Holds rows = map (λ (r : Row). outcome r.given) rows ≡ map (λ (r : Row). r.expected) rows

pub record TableHolds : Type 0 where
  pub searches : Holds search_rows
  pub refusals : Holds refused_rows
  pub untested : Holds list_rows
