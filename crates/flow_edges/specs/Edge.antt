-- The edges of a word: where control may go on from it (document 01, "its own conditions, then the taken edge, then the other"). Every word
-- has two, the one taken and the other, of which one may not exist. The check looks at them, the machine follows them.
use Rattle.std.specs.Prelude.{ℕ, ◌+◌, Bool, true, false, cond}
use Rattle.v8.specs.declared.Bicc.{Bicc}
use Rattle.v8.specs.declared.Instruction.{Instruction}
use Rattle.v8.specs.declared.Instruction.TheVariants.{Plain, Branch, Return}
use Rattle.alu.specs.declared.condition.Narrowing.{Narrowing}
use Rattle.alu.specs.declared.condition.Narrowing.TheVariants.{Unrelated}
use Rattle.alu.specs.Condition.{condition_of, opposite_of}
use Rattle.flow_edges.specs.declared.Destination.{Destination}
use Rattle.flow_edges.specs.declared.Destination.TheVariants.{To, Caller}
use Rattle.flow_edges.specs.declared.Edge.{Edge}
use Rattle.flow_edges.specs.Transfer.{has_edge, slot_runs, landing}

-- an edge to word w
abbrev pub to_word : ℕ → Destination
to_word w = To (record { 0 = w })

-- there is no such edge
abbrev pub no_edge : Edge
no_edge = record { exists = false; slot = false; to = Caller; narrowing = Unrelated }

-- to the next word
abbrev pub onward : ℕ → Edge
onward at = record { exists = true; slot = false; to = to_word (at + 1); narrowing = Unrelated }

-- over the slot to the caller
abbrev pub homeward : Edge
homeward = record { exists = true; slot = true; to = Caller; narrowing = Unrelated }

-- the narrowing class of a branch's edge: that of its condition; "On the untaken edge the opposite condition holds."
abbrev pub class_of : Bicc → Bool → Narrowing
class_of b taken = (condition_of (cond taken b.cond (opposite_of b.cond))).narrowing

-- the edge of a branch that is taken, and the other
abbrev pub branch_edge : ℕ → Bicc → Bool → Edge
branch_edge at b taken =
    record { exists = has_edge b.cond taken; slot = slot_runs b taken; to = to_word (landing at b taken); narrowing = class_of b taken }

-- the edge of the word at an index that is taken, and the other: a return's is taken, any other's that is no branch is not
abbrev pub edge_of : ℕ → Instruction → Bool → Edge
edge_of at (Plain x) true = no_edge
edge_of at (Plain x) false = onward at
edge_of at (Branch b) taken = branch_edge at b taken
edge_of at Return true = homeward
edge_of at Return false = no_edge
