-- Entries, notes and rows as the rows of the table write them, and their bytes (document 01, "Rows"; document 02, request 7).
use Rattle.std.specs.Prelude.{ℕ, ◌+◌, ◌-◌, ◌/◌, ◌%◌, List, [], ◌∷◌, replicate, set, take}
use Rattle.v8.specs.Signed.{excess, bias}
use Rattle.sets.specs.Sets.{numbers, single, full}
use Rattle.rows.specs.declared.Entry.{Entry}
use Rattle.rows.specs.declared.Note.{Note}
use Rattle.rows.specs.declared.Row.{Row}
use Rattle.rows.specs.Entry.{number_in, address_in, blank}
use Rattle.rows.specs.Geometry.{register_count, entry_count}

-- the numbers n and -n in excess form
abbrev pub above : ℕ → ℕ
above n = 2147483648 + n

abbrev pub below : ℕ → ℕ
below n = 2147483648 - n

-- the least and the greatest signed number
abbrev pub least : ℕ
least = below 2147483648

abbrev pub most : ℕ
most = above 2147483647

-- an entry of any fields: kind, region, step, lo, hi
abbrev pub entry_with : ℕ → ℕ → ℕ → ℕ → ℕ → Entry
entry_with kind region step lo hi = record { kind = kind; region = region; set = numbers step lo hi }

-- a number: step, lo, hi
abbrev pub num : ℕ → ℕ → ℕ → Entry
num step lo hi = number_in (numbers step lo hi)

-- a single number, and all numbers
abbrev pub just : ℕ → Entry
just n = number_in (single n)

abbrev pub any_number : Entry
any_number = number_in full

-- an address: region, step, the least and the greatest offset; one offset alone
abbrev pub addr : ℕ → ℕ → ℕ → ℕ → Entry
addr region step lo hi = address_in region (numbers step lo hi)

abbrev pub at : ℕ → ℕ → Entry
at region offset = address_in region (single (above offset))

-- kind 0, unset; kind 3, the start of a region, or null; kind 4, the return address; kind 5, the frame address
abbrev pub unset : Entry
unset = record { kind = 0; region = 0; set = blank }

abbrev pub start_or_null : ℕ → Entry
start_or_null region = record { kind = 3; region = region; set = blank }

abbrev pub return_address : Entry
return_address = record { kind = 4; region = 0; set = blank }

abbrev pub frame_address : Entry
frame_address = record { kind = 5; region = 0; set = blank }

-- a note of any fields: kind, register, number
abbrev pub note_with : ℕ → ℕ → ℕ → Note
note_with kind register number = record { kind = kind; register = register; number = number }

-- the codes are unset; they are set; they are those of a comparison of a register with a number
abbrev pub no_codes : Note
no_codes = note_with 0 0 bias

abbrev pub some_codes : Note
some_codes = note_with 1 0 bias

abbrev pub compared : ℕ → ℕ → Note
compared register number = note_with 2 register number

-- a row where nothing is set
abbrev pub bare : Row
bare = record { entries = just bias ∷ replicate (entry_count - 1) unset; note = no_codes }

-- a row with another entry of register r, or as it stands in the bytes of a scratch word; with another note
abbrev pub put : ℕ → Entry → Row → Row
put r e row = record { entries = set row.entries r e; note = row.note }

abbrev pub noted : Note → Row → Row
noted n row = record { entries = row.entries; note = n }

-- the bytes of an entry, of a note, of a row, of rows; numbers big-endian. Each is written before what follows it.
abbrev pub word_then : ℕ → List ℕ → List ℕ
word_then w more = w / 16777216 % 256 ∷ w / 65536 % 256 ∷ w / 256 % 256 ∷ w % 256 ∷ more

abbrev pub entry_then : Entry → List ℕ → List ℕ
entry_then e more =
    e.kind ∷ e.region ∷ e.set.step ∷ 0 ∷ word_then (excess e.set.lo) (word_then (excess e.set.hi) more)

abbrev pub note_then : Note → List ℕ → List ℕ
note_then n more = n.kind ∷ n.register ∷ 0 ∷ 0 ∷ word_then (excess n.number) more

abbrev pub row_then : List Entry → Note → List ℕ → List ℕ
row_then [] n more = note_then n more
row_then (e ∷ es) n more = entry_then e (row_then es n more)

abbrev pub bytes_of_entry : Entry → List ℕ
bytes_of_entry e = entry_then e []

abbrev pub bytes_of_rows : List Row → List ℕ
bytes_of_rows [] = []
bytes_of_rows (row ∷ rows) = row_then row.entries row.note (bytes_of_rows rows)

abbrev pub bytes_of : Row → List ℕ
bytes_of row = bytes_of_rows (row ∷ [])

-- the bytes of rows, of a row, in a bundle of version 1: without the entries of the scratch words
abbrev pub narrow_of_rows : List Row → List ℕ
narrow_of_rows [] = []
narrow_of_rows (row ∷ rows) = row_then (take register_count row.entries) row.note (narrow_of_rows rows)

abbrev pub narrow_of : Row → List ℕ
narrow_of row = narrow_of_rows (row ∷ [])
