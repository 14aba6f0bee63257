-- When an access lies in a memory: in its region's part, or in the frame's. Nothing has to be believed of it.
use Rattle.std.specs.Prelude.{ℕ, ◌+◌, ◌≤◌, ◌<◌, List, get_or}
use Rattle.v8.specs.declared.Access.{Access}
use Rattle.policy.specs.declared.Regions.{Regions}
use Rattle.memory.specs.Frame.{frame_bytes, scratch_count, scratch_offset}
use Rattle.memory.specs.Place.{part_start, length_of}
use Rattle.access.specs.declared.Located.{Located}
use Rattle.access.specs.declared.Located.TheVariants.{At, Scratch, Nowhere}
use Rattle.access.specs.Serve.{access_width}
use Rattle.access.specs.Layout.{Layout}
use Rattle.access.specs.Locate.{locate}

-- an access at an offset of region r lies in the region's part of a memory of n bytes
pub record Covered (sizes : List ℕ) (n width r offset : ℕ) : Type 0 where
  pub region : r < 8
  pub inside : offset + width ≤ get_or sizes r 0
  pub part : part_start sizes r + get_or sizes r 0 ≤ n

-- an access to scratch word k lies in the frame's part of it, after those of the regions
pub record Framed (sizes : List ℕ) (regions n width k : ℕ) : Type 0 where
  pub few : regions ≤ 8
  pub word : k < scratch_count
  pub inside : scratch_offset k + width ≤ frame_bytes
  pub part : length_of sizes regions ≤ n

-- an access lies so wherever it is located
abbrev pub Lies : Regions → ℕ → ℕ → Located → Type 0
Lies regions n width (At r offset) = Covered regions.sizes n width r offset.0
Lies regions n width (Scratch k) = Framed regions.sizes regions.count n width k
Lies regions n width Nowhere = Unit {0}

-- every access lies so
abbrev pub Covers : Layout → ℕ → Type 0
Covers l n = (a : Access) (address : ℕ) → Lies l.regions n (access_width a) (locate l a address)
