-- The frame that the host gives a routine, and the six words of it that are the routine's (document 02, request 7): "The host now gives a frame of
-- 120 bytes, its address in r14, and the words at offsets 96, 100, .. 116 are the routine's."
use Rattle.std.specs.Prelude.{ℕ, ◌+◌, ◌-◌, ◌*◌, ◌/◌, ◌%◌, Bool, ◌&&◌, leb, ltb, eqb}

-- "a frame of 120 bytes"
abbrev pub frame_bytes : ℕ
frame_bytes = 120

-- the scratch words: "six", the first at offset 96
abbrev pub scratch_count : ℕ
scratch_count = 6

abbrev pub scratch_first : ℕ
scratch_first = 96

-- the offset of scratch word k in the frame
abbrev pub scratch_offset : ℕ → ℕ
scratch_offset k = scratch_first + 4 * k

-- an offset of the frame is that of a scratch word, "96, 100, .. 116"
unfoldable pub is_scratch : ℕ → Bool
is_scratch offset = leb scratch_first offset && ltb offset frame_bytes && eqb (offset % 4) 0

-- .. of this one
abbrev pub scratch_at : ℕ → ℕ
scratch_at offset = (offset - scratch_first) / 4
