-- The words of a routine as they are read, which of them are slots, which a taken edge lands on, and which are examined as ordinary words.
use Rattle.std.specs.Prelude.{ℕ, ◌-◌, Bool, true, false, cond, not, ◌&&◌, ◌||◌, List, map, eqb, get_or, length}
use Rattle.v8.specs.Numbers.{not_read}
use Rattle.v8.specs.Search.{any}
use Rattle.v8.specs.Read.{reading_of}
use Rattle.v8.specs.declared.Edition.{Edition}
use Rattle.v8.specs.declared.Reading.{Reading}
use Rattle.v8.specs.declared.Reading.TheVariants.{Read, Unread}
use Rattle.flow_edges.specs.declared.Destination.{Destination}
use Rattle.flow_edges.specs.declared.Destination.TheVariants.{To, Caller}
use Rattle.flow_edges.specs.Transfer.{is_transfer}
use Rattle.flow_edges.specs.Edge.{edge_of}

-- the words as a terminal of the edition reads them
abbrev pub readings_of : Edition → List ℕ → List Reading
readings_of e words = map (reading_of e) words

-- what the word at an index is read as; a word outside the code is not read
abbrev pub reading_at : List Reading → ℕ → Reading
reading_at readings w = get_or readings w (Unread not_read)

-- a word is read as a transfer
abbrev pub transfers : Reading → Bool
transfers (Read x) = is_transfer x
transfers (Unread n) = false

-- an edge ends at word w
abbrev pub ends_at : Destination → ℕ → Bool
ends_at (To i) w = eqb i.0 w
ends_at Caller w = false

-- the taken edge of word v, if it has one, lands on word w
abbrev pub lands_on : ℕ → Reading → ℕ → Bool
lands_on v (Read x) w = (edge_of v x true).exists && ends_at (edge_of v x true).to w
lands_on v (Unread n) w = false

module _ (readings : List Reading) where
  -- "The word after a Bicc or return is its slot."
  unfoldable pub is_slot : ℕ → Bool
  is_slot w = cond (eqb w 0) false (transfers (reading_at readings (w - 1)))

  -- request 4: a word "that a taken edge lands on", by the words alone, whether or not they are reached
  unfoldable pub is_target : ℕ → Bool
  is_target w = any (λ v. lands_on v (reading_at readings v) w) (length readings)

  -- examined as an ordinary word: "each word outside slots"; request 4: "A slot that a taken edge lands on is also examined as an ordinary word"
  abbrev pub examined : ℕ → Bool
  examined w = not (is_slot w) || is_target w
