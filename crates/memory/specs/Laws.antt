-- The laws of loads and stores (V8, appendix B) and of the regions' parts of the memory (document 01), as statements.
-- Everything above rests on these and on the definitions; their proofs are in proofs/.
use Rattle.std.specs.Prelude.{ℕ, ◌+◌, ◌%◌, ◌≤◌, ◌<◌, ◌≡◌, true, List, length, get_or}
use Rattle.v8.specs.Signed.{sign_extend}
use Rattle.v8.specs.declared.LoadOp.{LoadOp}
use Rattle.v8.specs.declared.LoadOp.TheVariants.{Ld, Ldub, Lduh, Ldsb, Ldsh}
use Rattle.v8.specs.declared.StoreOp.{StoreOp}
use Rattle.memory.specs.Memory.{byte_at, Bytes, load_width, load_of, store_width, store_of}
use Rattle.memory.specs.Frame.{scratch_count, scratch_first, scratch_offset, is_scratch, scratch_at, frame_bytes}
use Rattle.memory.specs.Place.{part_start}

-- Place i is none of the n places from a on.
abbrev pub Outside : ℕ → ℕ → ℕ → Type 0
Outside a n i = a ≤ i → i < a + n → ⊥

-- The n places from a on and the k places from b on have none in common.
abbrev pub Apart : ℕ → ℕ → ℕ → ℕ → Type 0
Apart a n b k = (i : ℕ) → b ≤ i → i < b + k → Outside a n i

-- A store keeps the memory's length.
abbrev pub StoreKeepsLength : Type 0
StoreKeepsLength = (op : StoreOp) (v a : ℕ) (m : List ℕ) → length (store_of op v a m) ≡ length m

-- A store keeps every byte outside those that it writes.
abbrev pub StoreKeepsOthers : Type 0
StoreKeepsOthers = (op : StoreOp) (v a : ℕ) (m : List ℕ) (i : ℕ) → Outside a (store_width op) i → byte_at (store_of op v a m) i ≡ byte_at m i

-- A store leaves bytes where there were bytes.
abbrev pub StoreKeepsBytes : Type 0
StoreKeepsBytes = (op : StoreOp) (v a : ℕ) (m : List ℕ) → Bytes m → Bytes (store_of op v a m)

-- A load that reads no byte that a store writes gives what it gave before.
abbrev pub LoadKept : Type 0
LoadKept =
    (load : LoadOp) (store : StoreOp) (v a : ℕ) (m : List ℕ) (b : ℕ) → Apart a (store_width store) b (load_width load)
    → load_of load (store_of store v a m) b ≡ load_of load m b

-- what a load gives of the value that a store of its width wrote
abbrev pub low_of : LoadOp → ℕ → ℕ
low_of Ld v = v % 4294967296
low_of Ldub v = v % 256
low_of Lduh v = v % 65536
low_of Ldsb v = sign_extend 8 (v % 256)
low_of Ldsh v = sign_extend 16 (v % 65536)

-- A load gives the low bits of the value that a store of its width wrote at its place, inside the memory.
abbrev pub LoadAfterStore : Type 0
LoadAfterStore =
    (load : LoadOp) (store : StoreOp) (v a : ℕ) (m : List ℕ) → load_width load ≡ store_width store → a + store_width store ≤ length m
    → load_of load (store_of store v a m) a ≡ low_of load v

-- A load gives a 32-bit word.
abbrev pub LoadFits : Type 0
LoadFits = (op : LoadOp) (m : List ℕ) (a : ℕ) → Bytes m → load_of op m a < 4294967296

-- A higher region's part begins no lower.
abbrev pub StartGrows : Type 0
StartGrows = (sizes : List ℕ) (i j : ℕ) → i ≤ j → part_start sizes i ≤ part_start sizes j

-- A region's part ends where or before a higher region's part begins; so too before the end of a memory that has the region.
abbrev pub PartEnds : Type 0
PartEnds = (sizes : List ℕ) (i j : ℕ) → i < j → part_start sizes i + get_or sizes i 0 ≤ part_start sizes j

-- place a lies in a region's part
abbrev pub InPart : List ℕ → ℕ → ℕ → Type 0
InPart sizes region a = (part_start sizes region ≤ a) × (a < part_start sizes region + get_or sizes region 0)

-- A place lies in the part of at most one region.
abbrev pub OnePart : Type 0
OnePart = (sizes : List ℕ) (i j a : ℕ) → InPart sizes i a → InPart sizes j a → i ≡ j

-- A store inside one region's part keeps every byte of another region's part.
abbrev pub StoreKeepsParts : Type 0
StoreKeepsParts =
    (sizes : List ℕ) (i j : ℕ) (op : StoreOp) (v offset : ℕ) (m : List ℕ) (a : ℕ)
    → offset + store_width op ≤ get_or sizes i 0 → InPart sizes j a → (i ≡ j → ⊥)
    → byte_at (store_of op v (part_start sizes i + offset) m) a ≡ byte_at m a

-- the offset of a scratch word
pub record ScratchRules (offset : ℕ) : Type 0 where
  pub low : scratch_first ≤ offset
  pub high : offset < frame_bytes
  pub aligned : offset % 4 ≡ 0
  -- it is that of the word that it names
  pub word : scratch_at offset < scratch_count
  pub here : offset ≡ scratch_offset (scratch_at offset)

-- An offset that passes the test is one.
abbrev pub ScratchOffsets : Type 0
ScratchOffsets = (offset : ℕ) → is_scratch offset ≡ true → ScratchRules offset

-- The offset of each scratch word passes it, and names that word.
abbrev pub ScratchWords : Type 0
ScratchWords = (k : ℕ) → k < scratch_count → (is_scratch (scratch_offset k) ≡ true) × (scratch_at (scratch_offset k) ≡ k)
