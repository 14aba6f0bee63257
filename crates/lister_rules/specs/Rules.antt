-- The rules of a listing (document 02, requests 2 and 4): where the marks of each word go on, and what it is that a table is closed under
-- these rules.
use Rattle.std.specs.Prelude.{ℕ, ◌+◌, Bool, true, false, cond, ◌&&◌, List, [], ◌∷◌, ltb, length}
use Rattle.v8.specs.Search.{all}
use Rattle.v8.specs.declared.Instruction.{Instruction}
use Rattle.v8.specs.declared.Reading.{Reading}
use Rattle.v8.specs.declared.Reading.TheVariants.{Read, Unread}
use Rattle.flow_edges.specs.declared.Destination.{Destination}
use Rattle.flow_edges.specs.declared.Destination.TheVariants.{To, Caller}
use Rattle.flow_edges.specs.declared.Edge.{Edge}
use Rattle.flow_edges.specs.Transfer.{is_transfer}
use Rattle.flow_edges.specs.Edge.{edge_of}
use Rattle.flow_code.specs.Readings.{reading_at, examined}
use Rattle.rows.specs.Geometry.{entry_start}
use Rattle.rows.specs.Row.{entry_of}
use Rattle.marks.specs.Marks.{mark_of_kind, at_most, register_count, marks_by, mark_of}
use Rattle.marks.specs.Effect.{marks_after, marks_after_word}
use Rattle.lister_rules.specs.Table.{place_of, mark_at, marks_at, reached, raised_at}

-- marks that go on: to a word, or to none
pub data Sent : Type 0 where
  nowhere : Sent
  arriving : ℕ → List ℕ → Sent

-- marks go on to a word of the code, of n words; the flow pass (3) has refused every routine that has an edge to another
abbrev pub to_word : ℕ → ℕ → List ℕ → Sent
to_word n w marks = cond (ltb w n) (arriving w marks) nowhere

-- where an edge ends; the caller has no marks
abbrev pub to_end : ℕ → Destination → List ℕ → Sent
to_end n (To w) marks = to_word n w.0 marks
to_end n Caller marks = nowhere

-- "each edge carries the marks after a slot that runs": marks along an edge, the slot being read as x; "Narrowing is ignored."
abbrev pub carried : Edge → Reading → List ℕ → List ℕ
carried e x marks = cond e.slot (marks_after_word marks x) marks

abbrev pub sent_along : ℕ → Reading → Edge → List ℕ → Sent
sent_along n x e marks = cond e.exists (to_end n e.to (carried e x marks)) nowhere

-- "A slot shows its transfer's marks"
abbrev pub shown : ℕ → ℕ → Instruction → List ℕ → Sent
shown n w x marks = cond (is_transfer x) (to_word n (w + 1) marks) nowhere

-- all that word w sends, of n words, read as it is, with its slot and its marks: to the slot it has, along the taken edge, along the other
abbrev pub sends : ℕ → ℕ → Reading → Reading → List ℕ → List Sent
sends n w (Read x) slot marks =
    shown n w x marks
    ∷ sent_along n slot (edge_of w x true) (marks_after marks x)
    ∷ sent_along n slot (edge_of w x false) (marks_after marks x)
    ∷ []
sends n w (Unread number) slot marks = []

-- .. if it is reached
abbrev pub sends_reached : ℕ → ℕ → Reading → Reading → List ℕ → List Sent
sends_reached n w x slot marks = cond (reached marks) (sends n w x slot marks) []

-- "Begin with the entry row's kinds at word 0"
unfoldable pub entry_marks : List ℕ → List ℕ
entry_marks entry = marks_by (λ r. mark_of_kind (entry_of entry (entry_start 0 r)).kind)

abbrev pub entry_sent : ℕ → List ℕ → Sent
entry_sent n entry = to_word n 0 (entry_marks entry)

module _ (readings : List Reading) where
  -- all that word w sends in a table, if it is examined as an ordinary word. Request 4, of a slot that a taken edge lands on: "such a slot shows its
  -- transfer's marks met with those on the edges into it, and passes these on as an ordinary word; its transfer's edges go on from the transfer's
  -- marks alone". Any other slot sends nothing of its own.
  unfoldable pub sent_by : List ℕ → ℕ → List Sent
  sent_by table w =
      cond (examined readings w)
      (sends_reached (length readings) w (reading_at readings w) (reading_at readings (w + 1)) (marks_at table w))
      []

-- what is sent to a word is at most what the table has there
abbrev pub at_most_at : List ℕ → ℕ → List ℕ → ℕ → Bool
at_most_at table w marks r = at_most (mark_of marks r) (mark_at table (place_of w r))

unfoldable pub taken_in : List ℕ → Sent → Bool
taken_in table nowhere = true
taken_in table (arriving w marks) = all (at_most_at table w marks) register_count

abbrev pub all_taken_in : List ℕ → List Sent → Bool
all_taken_in table [] = true
all_taken_in table (s ∷ ss) = taken_in table s && all_taken_in table ss

-- "closed under these rules": the table has what the entry row and each word send
unfoldable pub closed_at : List Reading → List ℕ → ℕ → Bool
closed_at readings table w = all_taken_in table (sent_by readings table w)

unfoldable pub closed : List Reading → List ℕ → List ℕ → Bool
closed readings entry table = taken_in table (entry_sent (length readings) entry) && all (closed_at readings table) (length readings)

-- a table raised by what is sent
abbrev pub raised_by : List ℕ → Sent → List ℕ
raised_by table nowhere = table
raised_by table (arriving w marks) = raised_at table w marks

abbrev pub raised_by_all : List ℕ → List Sent → List ℕ
raised_by_all table [] = table
raised_by_all table (s ∷ ss) = raised_by_all (raised_by table s) ss
