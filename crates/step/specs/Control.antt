-- Where control stands, and where it goes from there (V8, delayed control transfer): the next word, and what follows it if that word is a slot.
use Rattle.std.specs.Prelude.{ℕ, ◌+◌, Bool, true, false, Option, Some, None}
use Rattle.flow_edges.specs.declared.Destination.{Destination}
use Rattle.flow_edges.specs.Edge.{to_word}
use Rattle.step.specs.declared.Control.{Control}

-- control stands at word n, nothing pending
abbrev pub go_to : ℕ → Control
go_to n = record { at = record { 0 = n }; pending = None }

-- control stands at the slot of the word at an index, a destination pending
abbrev pub at_slot : ℕ → Destination → Control
at_slot at d = record { at = record { 0 = at + 1 }; pending = Some d }

-- the next word is a slot
abbrev pub in_slot : Option Destination → Bool
in_slot None = false
in_slot (Some d) = true

-- where control goes after the word at an index: to the next word, or where the transfer before it goes
abbrev pub due_at : ℕ → Option Destination → Destination
due_at at None = to_word (at + 1)
due_at at (Some d) = d
