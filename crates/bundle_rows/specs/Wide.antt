-- The rows of a bundle as the check takes them, of 464 bytes each: those of version 2 as they stand, and "version 1 is read with six unset
-- entries" (request 7), which stand "after the 32 registers and before the note" and whose bytes are all 0.
use Rattle.std.specs.Prelude.{ℕ, zero, suc, ◌+◌, ◌*◌, cond, List, [], ◌++◌, take, drop, replicate}
use Rattle.memory.specs.Frame.{scratch_count}
use Rattle.rows.specs.Geometry.{register_count, entry_bytes, note_bytes, row_bytes}
use Rattle.bundle_layout.specs.Layout.{narrow, narrow_row_bytes}

-- n bytes from a place on
abbrev pub part : List ℕ → ℕ → ℕ → List ℕ
part b at n = take n (drop at b)

-- how many bytes the registers' entries take, and those of the scratch words
abbrev pub registers_bytes : ℕ
registers_bytes = entry_bytes * register_count

abbrev pub scratch_bytes : ℕ
scratch_bytes = entry_bytes * scratch_count

module _ (b : List ℕ) where
  -- the row of version 1 that stands at a place, with six unset entries
  abbrev pub wide_row : ℕ → List ℕ
  wide_row at = part b at registers_bytes ++ replicate scratch_bytes 0 ++ part b (at + registers_bytes) note_bytes

  -- the n such rows that stand from a place on
  abbrev pub wide_rows : ℕ → ℕ → List ℕ
  wide_rows at zero = []
  wide_rows at (suc n) = wide_rows at n ++ wide_row (at + narrow_row_bytes * n)

  -- the n rows that stand from a place on, as they are read
  abbrev pub rows_read : ℕ → ℕ → List ℕ
  rows_read at n = cond (narrow b) (wide_rows at n) (part b at (row_bytes * n))

  -- the entry row, as it is read
  abbrev pub entry_read : ℕ → List ℕ
  entry_read at = rows_read at 1
