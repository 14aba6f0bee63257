-- Where a region's part of the lent memory begins, "after the parts of all lower regions", where the frame does, and how long the memory of
-- some regions is, "as long as all sizes together" (document 01, the machine's run), "and 120 bytes more of lent memory after the regions" (request 7).
use Rattle.std.specs.Prelude.{ℕ, zero, suc, ◌+◌, List, get_or}
use Rattle.memory.specs.Frame.{frame_bytes, scratch_offset}

-- the sizes of all regions below the one numbered, added up
unfoldable pub part_start : List ℕ → ℕ → ℕ
part_start sizes zero = 0
part_start sizes (suc region) = part_start sizes region + get_or sizes region 0

-- where the frame's part begins, after those of the first n regions; where scratch word k stands
abbrev pub frame_start : List ℕ → ℕ → ℕ
frame_start sizes n = part_start sizes n

abbrev pub scratch_place : List ℕ → ℕ → ℕ → ℕ
scratch_place sizes n k = frame_start sizes n + scratch_offset k

-- the length of the memory of the first n regions and the frame
abbrev pub length_of : List ℕ → ℕ → ℕ
length_of sizes n = frame_start sizes n + frame_bytes
