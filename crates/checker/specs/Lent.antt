-- What the code needs of the rows that are lent: those that it reads lie in them.
use Rattle.std.specs.Prelude.{ℕ, ◌≡◌, Bool, true}
use Rattle.flow_edges.specs.declared.Destination.{Destination}
use Rattle.flow_edges.specs.declared.Destination.TheVariants.{To, Caller}
use Rattle.flow_edges.specs.declared.Edge.{Edge}
use Rattle.flow_edges.specs.Edge.{edge_of}
use Rattle.v8.specs.declared.Instruction.{Instruction}
use Rattle.v8.specs.declared.Reading.{Reading}
use Rattle.v8.specs.declared.Reading.TheVariants.{Read, Unread}
use Rattle.rows.specs.Geometry.{RowIn}

-- the row where an edge ends, if it ends at a word, lies in n bytes
abbrev pub EndIn : Destination → ℕ → Type 0
EndIn (To w) n = RowIn w.0 n
EndIn Caller n = Unit {0}

abbrev pub EdgeIn : Edge → ℕ → Type 0
EdgeIn e n = e.exists ≡ true → EndIn e.to n

-- the rows where the edges of a word end lie in n bytes
abbrev pub EdgesIn : ℕ → Instruction → ℕ → Type 0
EdgesIn w x n = (taken : Bool) → EdgeIn (edge_of w x taken) n

abbrev pub ReadingIn : ℕ → Reading → ℕ → Type 0
ReadingIn w (Read x) n = EdgesIn w x n
ReadingIn w (Unread number) n = Unit {0}
