-- Where control goes in words that each pass 3, and what they write where each passes 25. Later parts use these and not the definition. The proofs
-- are in proofs/Onward.antt and proofs/Leaving.antt.
use Rattle.std.specs.Prelude.{ℕ, ◌+◌, ◌<◌, ◌≡◌, Bool, true, false, List, length}
use Rattle.v8.specs.declared.Instruction.{Instruction}
use Rattle.v8.specs.declared.Reading.{Reading}
use Rattle.v8.specs.declared.Reading.TheVariants.{Read}
use Rattle.flow_edges.specs.declared.Destination.{Destination}
use Rattle.flow_edges.specs.declared.Destination.TheVariants.{To, Caller}
use Rattle.flow_edges.specs.Transfer.{is_transfer}
use Rattle.flow_writes.specs.Written.{written_by, is_callers, leaves_callers}
use Rattle.flow_edges.specs.Edge.{edge_of}
use Rattle.flow_code.specs.Readings.{reading_at, transfers, is_slot, examined}
use Rattle.flow.specs.Flow.{flow_of}

-- an edge ends at a word of the code, or at the caller
abbrev pub InCode : List Reading → Destination → Type 0
InCode readings (To w) = w.0 < length readings
InCode readings Caller = Unit {0}

-- where an instruction goes: a transfer's slot is in the code and it stands in none; each edge of a word that is examined ends in the code
pub record Flows (readings : List Reading) (w : ℕ) (x : Instruction) : Type 0 where
  pub slot : is_transfer x ≡ true → w + 1 < length readings
  pub free : is_transfer x ≡ true → is_slot readings w ≡ false
  pub ends : examined readings w ≡ true → (taken : Bool) → (edge_of w x taken).exists ≡ true → InCode readings (edge_of w x taken).to

-- An instruction that passed 3 flows so.
abbrev pub InstructionFlows : Type 0
InstructionFlows = (readings : List Reading) (w : ℕ) (x : Instruction) → flow_of readings w (Read x) ≡ true → Flows readings w x

-- each word passes 3
abbrev pub Flowing : List Reading → Type 0
Flowing readings = (w : ℕ) → w < length readings → flow_of readings w (reading_at readings w) ≡ true

-- an edge ends at a word of the code that is examined, or at the caller
abbrev pub Lands : List Reading → Destination → Type 0
Lands readings (To w) = (w.0 < length readings) × (examined readings w.0 ≡ true)
Lands readings Caller = Unit {0}

-- Where each word passes 3, an edge of a word that is examined leads to another that is. Request 4 rests on it: a taken edge may land on a slot,
-- which is examined then.
abbrev pub EdgesLand : Type 0
EdgesLand =
    (readings : List Reading) → Flowing readings → (w : ℕ) (x : Instruction) → reading_at readings w ≡ Read x → w < length readings
    → examined readings w ≡ true → (taken : Bool) → (edge_of w x taken).exists ≡ true → Lands readings (edge_of w x taken).to

-- .. and no transfer stands in the slot of another
abbrev pub SlotNoTransfer : Type 0
SlotNoTransfer =
    (readings : List Reading) → Flowing readings → (w : ℕ) → w + 1 < length readings → transfers (reading_at readings w) ≡ true
    → transfers (reading_at readings (w + 1)) ≡ false

-- each word leaves the caller's registers alone
abbrev pub Leaving : List Reading → Type 0
Leaving readings = (w : ℕ) → w < length readings → leaves_callers (reading_at readings w) ≡ true

-- What then stands at an index, whichever it is, writes no register of the caller: a word outside the code is not read, and writes none.
abbrev pub LeavesEverywhere : Type 0
LeavesEverywhere = (readings : List Reading) → Leaving readings → (w : ℕ) → is_callers (written_by (reading_at readings w)) ≡ false
