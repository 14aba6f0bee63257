-- Where control may go (document 01, "3 flow, its word: a transfer (Bicc or return) that is the last word; a transfer in a slot; the next word
-- outside the code, that is one on for other words outside slots and two on for a branch with an untaken edge; for a branch with a taken edge, a
-- target outside the code"; request 4: "3 no longer covers a target that is a slot; a targeted slot whose next word is outside gives 3, with
-- the slot's word").
use Rattle.std.specs.Prelude.{ℕ, ◌+◌, Bool, true, false, not, ◌&&◌, ◌||◌, List, ltb, length}
use Rattle.v8.specs.declared.Instruction.{Instruction}
use Rattle.v8.specs.declared.Reading.{Reading}
use Rattle.v8.specs.declared.Reading.TheVariants.{Read, Unread}
use Rattle.flow_edges.specs.declared.Destination.{Destination}
use Rattle.flow_edges.specs.declared.Destination.TheVariants.{To, Caller}
use Rattle.flow_edges.specs.declared.Edge.{Edge}
use Rattle.flow_edges.specs.Transfer.{is_transfer}
use Rattle.flow_edges.specs.Edge.{edge_of}
use Rattle.flow_code.specs.Readings.{is_slot, examined}

-- of n words
module _ (n : ℕ) where
  -- an edge ends at a word of the code, or at the caller
  abbrev pub in_code : Destination → Bool
  in_code (To w) = ltb w.0 n
  in_code Caller = true

  -- an edge, if there is one, ends there
  abbrev pub edge_flow : Edge → Bool
  edge_flow e = not e.exists || in_code e.to

  abbrev pub edges_flow : ℕ → Instruction → Bool
  edges_flow w x = edge_flow (edge_of w x true) && edge_flow (edge_of w x false)

  -- the slot of a transfer is in the code, and it stands in none
  abbrev pub transfer_flow : Bool → ℕ → Bool
  transfer_flow in_slot w = ltb (w + 1) n && not in_slot

  -- the flow of word w, in a slot or not, examined or not, as it is read: a transfer's, and that of the edges of a word that is examined
  abbrev pub flow_with : Bool → Bool → ℕ → Reading → Bool
  flow_with in_slot ordinary w (Read x) = (not (is_transfer x) || transfer_flow in_slot w) && (not ordinary || edges_flow w x)
  flow_with in_slot ordinary w (Unread number) = true

-- the flow of word w among the readings
abbrev pub flow_of : List Reading → ℕ → Reading → Bool
flow_of readings w x = flow_with (length readings) (is_slot readings w) (examined readings w) w x
