-- Where the parts of a bundle stand (document 01, "Bundle"): "Big-endian: bytes 57 54 52 hexadecimal ("WTR"), 16-bit version 1, region count
-- (byte), word count (16-bit); regions (size 16-bit, field count, zero); all fields (element, permission, target, zero, offset and count
-- 16-bit, lo, hi); entry row; result entry; words; rows. At most 53,180 bytes." Request 7: "Bundle version 2, at most 62,468 bytes, has such rows",
-- that is rows of 464 bytes; version 1 keeps 392 and its limit. A place beyond the end reads as 0.
use Rattle.std.specs.Prelude.{ℕ, zero, suc, ◌+◌, ◌*◌, Bool, cond, ◌&&◌, ◌||◌, List, leb, eqb, length}
use Rattle.v8.specs.Search.{all}
use Rattle.v8.specs.Signed.{excess}
use Rattle.memory.specs.Memory.{byte_at, half_at, word_at}
use Rattle.policy.specs.declared.Field.{Field}
use Rattle.rows.specs.Geometry.{row_bytes, entry_bytes}

-- version 1: "A row is 32 entries of 12 bytes and a note of 8", "At most 53,180 bytes"
abbrev pub narrow_version : ℕ
narrow_version = 1

abbrev pub narrow_row_bytes : ℕ
narrow_row_bytes = 392

abbrev pub narrow_most : ℕ
narrow_most = 53180

-- "version 2, at most 62,468 bytes"
abbrev pub wide_version : ℕ
wide_version = 2

abbrev pub wide_most : ℕ
wide_most = 62468

-- in either version so many bytes give no more words, each with its row, after the head, the entry row and the result entry
abbrev pub most_given : ℕ
most_given = 133

-- how many bytes the parts take: the head, a region, a field, a word (a row and an entry: rows' Geometry)
abbrev pub head_bytes : ℕ
head_bytes = 8

abbrev pub region_bytes : ℕ
region_bytes = 4

abbrev pub field_bytes : ℕ
field_bytes = 16

abbrev pub word_bytes : ℕ
word_bytes = 4

module _ (b : List ℕ) where
  -- the version, and whether it is that of narrow rows
  abbrev pub version_of : ℕ
  version_of = half_at b 3

  abbrev pub narrow : Bool
  narrow = eqb version_of narrow_version

  -- the most bytes of its version, and how many bytes n of its rows take
  abbrev pub most_bytes : ℕ
  most_bytes = cond narrow narrow_most wide_most

  abbrev pub rows_bytes : ℕ → ℕ
  rows_bytes n = cond narrow (narrow_row_bytes * n) (row_bytes * n)

  -- the counts in the head
  abbrev pub region_count : ℕ
  region_count = byte_at b 5

  abbrev pub word_count : ℕ
  word_count = half_at b 6

  -- region r: its size, how many fields it has, and its zero
  abbrev pub region_place : ℕ → ℕ
  region_place r = head_bytes + region_bytes * r

  abbrev pub region_size : ℕ → ℕ
  region_size r = half_at b (region_place r)

  abbrev pub field_count : ℕ → ℕ
  field_count r = byte_at b (region_place r + 2)

  abbrev pub region_zero : ℕ → Bool
  region_zero r = eqb (byte_at b (region_place r + 3)) 0

  -- how many fields the first n regions have together
  unfoldable pub fields_before : ℕ → ℕ
  fields_before zero = 0
  fields_before (suc n) = fields_before n + field_count n

  abbrev pub field_total : ℕ
  field_total = fields_before region_count

  -- field i of all
  abbrev pub field_place : ℕ → ℕ
  field_place i = head_bytes + region_bytes * region_count + field_bytes * i

  unfoldable pub field_read : ℕ → Field
  field_read i =
      record {
        element = byte_at b (field_place i);
        permission = byte_at b (field_place i + 1);
        target = byte_at b (field_place i + 2);
        offset = record { 0 = half_at b (field_place i + 4) };
        count = half_at b (field_place i + 6);
        lo = excess (word_at b (field_place i + 8));
        hi = excess (word_at b (field_place i + 12));
      }

  abbrev pub field_zero : ℕ → Bool
  field_zero i = eqb (byte_at b (field_place i + 3)) 0

  -- the parts after the fields
  abbrev pub entry_place : ℕ
  entry_place = field_place field_total

  abbrev pub result_place : ℕ
  result_place = entry_place + rows_bytes 1

  abbrev pub words_place : ℕ
  words_place = result_place + entry_bytes

  abbrev pub rows_place : ℕ
  rows_place = words_place + word_bytes * word_count

  -- the length that the counts give
  abbrev pub length_given : ℕ
  length_given = rows_place + rows_bytes word_count

  -- the mark "WTR" and a version that is read
  abbrev pub head_ok : Bool
  head_ok =
      eqb (byte_at b 0) 0x57 && eqb (byte_at b 1) 0x54 && eqb (byte_at b 2) 0x52 && (eqb version_of narrow_version || eqb version_of wide_version)

  -- "23 if over the size below, if mark, version or a zero of a region or field is wrong, or if its length is not what its counts give"
  unfoldable pub bundle_ok : Bool
  bundle_ok = leb (length b) most_bytes && head_ok && eqb (length b) length_given && all region_zero region_count && all field_zero field_total
