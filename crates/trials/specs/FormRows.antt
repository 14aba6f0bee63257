-- The form of rows, by their bytes (document 01, "Rows"; "1 row badly formed: .. the lowest register .. is the one named, 32 for the
-- note"): the register named, or none where the row is well formed.
use Rattle.std.specs.Prelude.{ℕ, ◌+◌, List, [], ◌∷◌, ◌++◌, replicate, set, Some, None}
use Rattle.rows.specs.declared.Entry.{Entry}
use Rattle.rows.specs.declared.Note.{Note}
use Rattle.rows.specs.declared.Row as Rows·
use Rattle.rows.specs.Geometry.{entry_start, note_start}
use Rattle.trials.specs.Case.{Row, ◌gives◌, Given, form, flaw}
use Rattle.trials.specs.Entries.{above, below, least, most, entry_with, num, just, any_number, addr, at, unset, start_or_null, return_address, note_with, some_codes, compared, bare, put, noted, bytes_of}
use Rattle.v8.specs.Signed.{bias}

-- the bytes of a row, where there are two regions, of 16 and of 8 bytes
abbrev pub form_of : List ℕ → Given
form_of bytes = form 2 (16 ∷ 8 ∷ replicate 6 0) bytes

-- a row with an entry of each kind and with a comparison
abbrev pub mixed : Rows·.Row
mixed =
    noted (compared 1 (above 9))
    (put 1 (num 4 bias (above 36))
    (put 2 (addr 0 8 bias (above 16))
    (put 3 (start_or_null 1)
    (put 15 return_address bare))))

-- it, with an entry of a register; with a note; with a byte at a place
abbrev pub entry_in : ℕ → Entry → Given
entry_in r e = form_of (bytes_of (put r e mixed))

abbrev pub note_in : Note → Given
note_in n = form_of (bytes_of (noted n mixed))

abbrev pub byte_in : ℕ → ℕ → Given
byte_in place byte = form_of (set (bytes_of mixed) place byte)

-- well formed
abbrev pub sound_rows : List Row
sound_rows =
    form_of (bytes_of mixed) gives flaw None
    ∷ form_of (bytes_of bare) gives flaw None
    -- all numbers; the least two of them; the greatest alone; offsets up to the size; the size alone; the codes set
    ∷ form_of
    (bytes_of
    (noted some_codes
    (put 31 any_number
    (put 30 (num 1 least (below 2147483647)) (put 29 (just most) (put 28 (addr 1 4 bias (above 8)) (put 27 (at 0 16) bare)))))))
    gives flaw None
    -- compared for r31, which is unset, with any number
    ∷ note_in (compared 31 least) gives flaw None
    ∷ []

-- badly formed entries
abbrev pub broken_rows : List Row
broken_rows =
    -- no such kind
    entry_in 7 (entry_with 6 0 0 bias bias) gives flaw (Some 7)
    ∷ entry_in 31 (entry_with 255 0 0 bias bias) gives flaw (Some 31)
    -- the zero byte of an unset entry, of a number, of the return address
    ∷ byte_in (entry_start 0 4 + 3) 1 gives flaw (Some 4)
    ∷ byte_in (entry_start 0 1 + 3) 255 gives flaw (Some 1)
    ∷ byte_in (entry_start 0 15 + 3) 1 gives flaw (Some 15)
    -- "0 unset, 4 return address: all else zero": region, step, lo, hi
    ∷ entry_in 5 (entry_with 0 1 0 bias bias) gives flaw (Some 5)
    ∷ entry_in 5 (entry_with 0 0 8 bias bias) gives flaw (Some 5)
    ∷ entry_in 5 (entry_with 0 0 0 (below 1) bias) gives flaw (Some 5)
    ∷ entry_in 5 (entry_with 0 0 0 bias (above 1)) gives flaw (Some 5)
    ∷ entry_in 6 (entry_with 4 1 0 bias bias) gives flaw (Some 6)
    ∷ entry_in 6 (entry_with 4 0 8 bias bias) gives flaw (Some 6)
    ∷ entry_in 6 (entry_with 4 0 0 (below 1) bias) gives flaw (Some 6)
    ∷ entry_in 6 (entry_with 4 0 0 bias (above 1)) gives flaw (Some 6)
    -- a number with a region; with steps 0, 3 and 16; lo above hi; hi - lo no multiple, of all numbers too; single with steps 1 and 4
    ∷ entry_in 1 (entry_with 1 1 4 bias (above 36)) gives flaw (Some 1)
    ∷ entry_in 1 (num 0 bias bias) gives flaw (Some 1)
    ∷ entry_in 1 (num 3 bias (above 36)) gives flaw (Some 1)
    ∷ entry_in 1 (num 16 bias (above 32)) gives flaw (Some 1)
    ∷ entry_in 1 (num 4 (above 36) bias) gives flaw (Some 1)
    ∷ entry_in 1 (num 1 bias (below 1)) gives flaw (Some 1)
    ∷ entry_in 1 (num 4 bias (above 6)) gives flaw (Some 1)
    ∷ entry_in 1 (num 2 least most) gives flaw (Some 1)
    ∷ entry_in 1 (num 1 (above 9) (above 9)) gives flaw (Some 1)
    ∷ entry_in 1 (num 4 bias bias) gives flaw (Some 1)
    -- an address below the start; above the size; of a region that does not exist; its set badly formed
    ∷ entry_in 2 (addr 0 8 (below 8) (above 8)) gives flaw (Some 2)
    ∷ entry_in 2 (addr 0 1 bias (above 17)) gives flaw (Some 2)
    ∷ entry_in 2 (addr 1 8 bias (above 16)) gives flaw (Some 2)
    ∷ entry_in 2 (at 2 0) gives flaw (Some 2)
    ∷ entry_in 2 (at 255 0) gives flaw (Some 2)
    ∷ entry_in 2 (addr 0 1 bias bias) gives flaw (Some 2)
    ∷ entry_in 2 (addr 0 8 bias (above 12)) gives flaw (Some 2)
    -- the start of a region, or null: with a step, lo, hi; of a region that does not exist
    ∷ entry_in 3 (entry_with 3 1 8 bias bias) gives flaw (Some 3)
    ∷ entry_in 3 (entry_with 3 1 0 (below 1) bias) gives flaw (Some 3)
    ∷ entry_in 3 (entry_with 3 1 0 bias (above 8)) gives flaw (Some 3)
    ∷ entry_in 3 (start_or_null 2) gives flaw (Some 3)
    -- "r0 is the single number 0": unset, another number, 0 among others, a region's start, or null
    ∷ entry_in 0 unset gives flaw (Some 0)
    ∷ entry_in 0 (just (above 1)) gives flaw (Some 0)
    ∷ entry_in 0 (num 8 bias (above 8)) gives flaw (Some 0)
    ∷ entry_in 0 (at 0 0) gives flaw (Some 0)
    ∷ entry_in 0 (start_or_null 0) gives flaw (Some 0)
    ∷ []

-- badly formed notes, and two faults in one row
abbrev pub broken_note_rows : List Row
broken_note_rows =
    -- no such kind; compared for register 0 and for 32
    note_in (note_with 3 0 bias) gives flaw (Some 32)
    ∷ note_in (compared 0 (above 9)) gives flaw (Some 32)
    ∷ note_in (compared 32 (above 9)) gives flaw (Some 32)
    -- the codes unset with a register, set with a number
    ∷ note_in (note_with 0 1 bias) gives flaw (Some 32)
    ∷ note_in (note_with 1 0 (above 9)) gives flaw (Some 32)
    -- either zero byte
    ∷ byte_in (note_start 0 + 2) 1 gives flaw (Some 32)
    ∷ byte_in (note_start 0 + 3) 1 gives flaw (Some 32)
    -- "the lowest register"
    ∷ form_of (bytes_of (put 9 (num 3 bias bias) (put 5 (num 3 bias bias) mixed))) gives flaw (Some 5)
    ∷ form_of (bytes_of (noted (compared 0 bias) (put 7 (num 3 bias bias) mixed))) gives flaw (Some 7)
    ∷ form_of (bytes_of (noted (compared 0 bias) (put 0 unset mixed))) gives flaw (Some 0)
    ∷ []

-- all of them
abbrev pub form_rows : List Row
form_rows = sound_rows ++ broken_rows ++ broken_note_rows
