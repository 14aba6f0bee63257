-- How a row lies in bytes, and by which numbers its places are named in an answer (document 01, "Rows": "A row is 32 entries of 12 bytes
-- and a note of 8"; request 7: "A row gains six entries, one per scratch word, after the 32 registers and before the note, so it is 464 bytes"). A
-- place that is named is a register, "32 for the note", or for scratch words "33 to 38"; the index of an entry counts the entries as they stand
-- in the bytes.
use Rattle.std.specs.Prelude.{ℕ, ◌+◌, ◌*◌, ◌-◌, ◌≤◌, cond, ltb}
use Rattle.memory.specs.Frame.{scratch_count}

-- "the 32 registers"
abbrev pub register_count : ℕ
register_count = 32

-- .. "and six entries, one per scratch word"
abbrev pub entry_count : ℕ
entry_count = register_count + scratch_count

-- the index of scratch word k's entry: "after the 32 registers"
abbrev pub scratch_entry : ℕ → ℕ
scratch_entry k = register_count + k

-- "of 12 bytes"
abbrev pub entry_bytes : ℕ
entry_bytes = 12

-- "a note of 8"
abbrev pub note_bytes : ℕ
note_bytes = 8

-- "464 bytes"
abbrev pub row_bytes : ℕ
row_bytes = 464

-- where the note stands in a row: after the entries
abbrev pub note_offset : ℕ
note_offset = entry_bytes * entry_count

-- where entry i of the row that begins at a byte begins, and where its note does
abbrev pub entry_start : ℕ → ℕ → ℕ
entry_start at i = at + entry_bytes * i

abbrev pub note_start : ℕ → ℕ
note_start at = at + note_offset

-- "32 for the note": the place that is named for it
abbrev pub note_name : ℕ
note_name = 32

-- how many places are named: the entries and the note
abbrev pub places : ℕ
places = entry_count + 1

-- the index of the entry that a place names which is not the note's
abbrev pub entry_named : ℕ → ℕ
entry_named place = cond (ltb place note_name) place (place - 1)

-- the place that names entry i: a register's number, and "the register answered for scratch words is 33 to 38"
abbrev pub entry_name : ℕ → ℕ
entry_name i = cond (ltb i note_name) i (i + 1)

-- an entry, a note, a row that begins at a byte lies in n bytes
abbrev pub EntryLies : ℕ → ℕ → Type 0
EntryLies at n = at + entry_bytes ≤ n

abbrev pub NoteLies : ℕ → ℕ → Type 0
NoteLies at n = at + note_bytes ≤ n

abbrev pub RowLies : ℕ → ℕ → Type 0
RowLies at n = at + row_bytes ≤ n

-- row w of rows that stand one after the other lies in n bytes
abbrev pub RowIn : ℕ → ℕ → Type 0
RowIn w n = RowLies (row_bytes * w) n
