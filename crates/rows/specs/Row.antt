-- Rows, read from bytes (document 01, "Rows"; request 7): "An entry: kind, region, step, zero (a byte each), lo, hi (signed 32-bit)." "Note: kind,
-- register, two zero bytes, a signed number." Numbers are big-endian. How many bytes each takes, and where it stands, is in Geometry.
use Rattle.std.specs.Prelude.{ℕ, zero, suc, ◌+◌, Bool, cond, not, ◌&&◌, ◌||◌, List, [], ◌∷◌, ltb, eqb, get_or, set, Option}
use Rattle.v8.specs.Search.{all}
use Rattle.v8.specs.Signed.{excess}
use Rattle.memory.specs.Frame.{scratch_count}
use Rattle.memory.specs.Memory.{byte_at, word_at}
use Rattle.sets.specs.Sets.{numbers}
use Rattle.rows.specs.declared.Entry.{Entry}
use Rattle.rows.specs.declared.Note.{Note}
use Rattle.rows.specs.declared.Row.{Row}
use Rattle.rows.specs.Entry.{no_entry, is_unset, is_frame, is_zero, entry_ok, fits, note_ok, fits_note}
use Rattle.rows.specs.Geometry.{entry_count, entry_bytes, scratch_entry, entry_start, note_start, note_name, entry_named}
use Rattle.rows.specs.Flaw.{flaw_from}

-- entry i of a row, register i's or after them a scratch word's; there is none after the last
unfoldable pub entry_at : Row → ℕ → Entry
entry_at row i = cond (ltb i entry_count) (get_or row.entries i no_entry) no_entry

-- a row after entry r is written: "writes to it vanish" for r0
unfoldable pub entries_with : List Entry → ℕ → Entry → List Entry
entries_with entries r e = cond (eqb r 0) entries (cond (ltb r entry_count) (set entries r e) entries)

abbrev pub row_with : Row → ℕ → Entry → Note → Row
row_with row r e n = record { entries = entries_with row.entries r e; note = n }

-- the entry that begins at a byte
unfoldable pub entry_of : List ℕ → ℕ → Entry
entry_of bytes at =
    record {
      kind = byte_at bytes at;
      region = byte_at bytes (at + 1);
      set = numbers (byte_at bytes (at + 2)) (excess (word_at bytes (at + 4))) (excess (word_at bytes (at + 8)));
    }

-- it is well formed, its zero byte too
abbrev pub entry_formed : ℕ → List ℕ → List ℕ → ℕ → Bool
entry_formed regions sizes bytes at = eqb (byte_at bytes (at + 3)) 0 && entry_ok regions sizes (entry_of bytes at)

-- the note that begins at a byte; it is well formed, its zero bytes too
unfoldable pub note_of : List ℕ → ℕ → Note
note_of bytes at = record { kind = byte_at bytes at; register = byte_at bytes (at + 1); number = excess (word_at bytes (at + 4)) }

abbrev pub note_formed : List ℕ → ℕ → Bool
note_formed bytes at = eqb (byte_at bytes (at + 2)) 0 && eqb (byte_at bytes (at + 3)) 0 && note_ok (note_of bytes at)

-- n entries, from a byte on
abbrev pub entries_from : List ℕ → ℕ → ℕ → List Entry
entries_from bytes at zero = []
entries_from bytes at (suc n) = entry_of bytes at ∷ entries_from bytes (at + entry_bytes) n

-- the row that begins at a byte
unfoldable pub row_of : List ℕ → ℕ → Row
row_of bytes at = record { entries = entries_from bytes at entry_count; note = note_of bytes (note_start at) }

-- "r0 is the single number 0"
abbrev pub r0_ok : ℕ → Entry → Bool
r0_ok i e = not (eqb i 0) || is_zero e

-- request 7: kind 5 "may stand only in r14"
abbrev pub frame_register : ℕ
frame_register = 14

abbrev pub frame_ok : ℕ → Entry → Bool
frame_ok i e = not (is_frame e) || eqb i frame_register

-- the entry that begins at a byte is well formed as entry i of a row
abbrev pub entry_formed_as : ℕ → List ℕ → List ℕ → ℕ → ℕ → Bool
entry_formed_as regions sizes bytes at i = entry_formed regions sizes bytes at && r0_ok i (entry_of bytes at) && frame_ok i (entry_of bytes at)

-- .. which is entry i of the row that begins at a byte
abbrev pub entry_formed_at : ℕ → List ℕ → List ℕ → ℕ → ℕ → Bool
entry_formed_at regions sizes bytes at i = entry_formed_as regions sizes bytes (entry_start at i) i

-- the place so named of the row that begins at a byte is well formed
unfoldable pub formed_at : ℕ → List ℕ → List ℕ → ℕ → ℕ → Bool
formed_at regions sizes bytes at place =
    cond (eqb place note_name) (note_formed bytes (note_start at)) (entry_formed_at regions sizes bytes at (entry_named place))

abbrev pub broken_at : ℕ → List ℕ → List ℕ → ℕ → ℕ → Bool
broken_at regions sizes bytes at place = not (formed_at regions sizes bytes at place)

-- the lowest badly formed place of the row that begins at a byte
unfoldable pub form_fault : ℕ → List ℕ → List ℕ → ℕ → Option ℕ
form_fault regions sizes bytes at = flaw_from (broken_at regions sizes bytes at) 0

-- request 7: "in a well-formed entry row, the six are unset": so they are in the row that begins at a byte
abbrev pub scratch_unset_at : List ℕ → ℕ → ℕ → Bool
scratch_unset_at bytes at k = is_unset (entry_of bytes (entry_start at (scratch_entry k)))

unfoldable pub scratch_unset : List ℕ → ℕ → Bool
scratch_unset bytes at = all (scratch_unset_at bytes at) scratch_count

-- the place so named of row a fits that of row b
unfoldable pub fits_at : Row → Row → ℕ → Bool
fits_at a b place =
    cond (eqb place note_name) (fits_note a.note b.note) (fits (entry_at a (entry_named place)) (entry_at b (entry_named place)))

abbrev pub misfits_at : Row → Row → ℕ → Bool
misfits_at a b place = not (fits_at a b place)

-- the lowest place of row a that does not fit row b
unfoldable pub misfit : Row → Row → Option ℕ
misfit a b = flaw_from (misfits_at a b) 0
