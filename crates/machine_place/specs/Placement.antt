-- When the host has laid the regions, the return address, the frame and the memory as document 01 says ("Machine run", 22), and document 02, request 7
-- ("22 covers the frame").
use Rattle.std.specs.Prelude.{ℕ, ◌+◌, ◌%◌, Bool, ◌&&◌, ◌||◌, List, leb, ltb, eqb, get_or, length}
use Rattle.v8.specs.Search.{all}
use Rattle.memory.specs.Frame.{frame_bytes}
use Rattle.memory.specs.Place.{length_of}

-- "bases are nonzero multiples of 8, base + size is below 2^32"
abbrev pub base_placed : ℕ → ℕ → Bool
base_placed base size = leb 1 base && eqb (base % 8) 0 && ltb (base + size) 4294967296

-- bytes at base and bytes at other, as many as the sizes given, share none
abbrev pub apart_from : ℕ → ℕ → ℕ → ℕ → Bool
apart_from base size other other_size = leb (base + size) other || leb (other + other_size) base

module _ (sizes bases : List ℕ) where
  -- region r has such a base
  abbrev pub base_placed_at : ℕ → Bool
  base_placed_at r = base_placed (get_or bases r 0) (get_or sizes r 0)

  -- bytes at a base, as many as the size given, share none with region q
  abbrev pub apart_from_region : ℕ → ℕ → ℕ → Bool
  apart_from_region base size q = apart_from base size (get_or bases q 0) (get_or sizes q 0)

  -- .. nor with any of the first n regions
  abbrev pub apart_from_all : ℕ → ℕ → ℕ → Bool
  apart_from_all base size n = all (apart_from_region base size) n

  -- "regions are disjoint": region r shares no byte with a lower one
  unfoldable pub disjoint_in : ℕ → Bool
  disjoint_in r = apart_from_all (get_or bases r 0) (get_or sizes r 0) r

  -- "The frame address is a nonzero multiple of 8, with 120 added it is below 2^32, and the frame overlaps no region", of the first n
  abbrev pub frame_placed : ℕ → ℕ → Bool
  frame_placed frame n = base_placed frame frame_bytes && apart_from_all frame frame_bytes n

  -- the first n regions have such bases and share no byte
  abbrev pub laid_in : ℕ → Bool
  laid_in n = all base_placed_at n && all disjoint_in n

-- "The return address is a multiple of 4, bases are nonzero multiples of 8, base + size is below 2^32, regions are disjoint,
-- memory is as long as all sizes together", and the frame is placed so, with "120 bytes more of lent memory after the regions"; one base for each region
unfoldable pub placed_in : ℕ → List ℕ → List ℕ → ℕ → ℕ → List ℕ → Bool
placed_in regions sizes bases returns frame memory =
    eqb (returns % 4) 0
    && eqb (length bases) regions
    && all (base_placed_at sizes bases) regions
    && all (disjoint_in sizes bases) regions
    && frame_placed sizes bases frame regions
    && eqb (length memory) (length_of sizes regions)
