-- The form of rows and entry rows with the frame address and scratch words (document 02, request 7): "Kind 5 is the frame address, all else zero, and
-- may stand only in r14"; "the register answered for scratch words is 33 to 38, the lowest number named first"; "in a well-formed entry row, the six are
-- unset". A place is told by its index in the bytes: r0 to r31, then the scratch words, 32 to 37.
use Rattle.std.specs.Prelude.{ℕ, ◌+◌, true, false, List, [], ◌∷◌, ◌++◌, map, replicate, Some, None}
use Rattle.v8.specs.Signed.{bias}
use Rattle.rows.specs.declared.Entry.{Entry}
use Rattle.rows.specs.declared.Row as Rows·
use Rattle.rows.specs.Geometry.{entry_start}
use Rattle.trials.specs.Case.{Row, ◌gives◌, Given, flaw}
use Rattle.trials.specs.Entries.{above, below, entry_with, num, just, any_number, addr, at, unset, start_or_null, return_address, frame_address, compared, bare, put, noted, bytes_of}
use Rattle.trials.specs.FormRows.{form_of, byte_in}
use Rattle.scratchrows.specs.Case.{EntryRow}

-- a row where nothing else is set, with an entry at an index
abbrev pub alone : ℕ → Entry → Given
alone i e = form_of (bytes_of (put i e bare))

-- the registers but r14
abbrev pub other_registers : List ℕ
other_registers =
    0 ∷ 1 ∷ 2 ∷ 3 ∷ 4 ∷ 5 ∷ 6 ∷ 7 ∷ 8 ∷ 9 ∷ 10 ∷ 11 ∷ 12 ∷ 13 ∷ 15 ∷ 16 ∷ 17 ∷ 18 ∷ 19 ∷ 20 ∷ 21 ∷ 22 ∷ 23 ∷ 24 ∷ 25 ∷ 26 ∷ 27 ∷ 28 ∷ 29 ∷ 30 ∷ 31 ∷ []

-- kind 5 in every place
abbrev pub frame_rows : List Row
frame_rows =
    alone 14 frame_address gives flaw None
    ∷ map (λ (r : ℕ). alone r frame_address gives flaw (Some r)) other_registers
    ++ alone 32 frame_address gives flaw (Some 33)
    ∷ alone 33 frame_address gives flaw (Some 34)
    ∷ alone 34 frame_address gives flaw (Some 35)
    ∷ alone 35 frame_address gives flaw (Some 36)
    ∷ alone 36 frame_address gives flaw (Some 37)
    ∷ alone 37 frame_address gives flaw (Some 38)
    -- "all else zero": region, step, lo, hi, and the entry's zero byte
    ∷ alone 14 (entry_with 5 1 0 bias bias) gives flaw (Some 14)
    ∷ alone 14 (entry_with 5 0 8 bias bias) gives flaw (Some 14)
    ∷ alone 14 (entry_with 5 0 0 (below 1) bias) gives flaw (Some 14)
    ∷ alone 14 (entry_with 5 0 0 bias (above 96)) gives flaw (Some 14)
    ∷ byte_in (entry_start 0 14) 5 gives flaw None
    ∷ byte_in (entry_start 0 14 + 3) 1 gives flaw (Some 14)
    -- no such kind
    ∷ alone 14 (entry_with 6 0 0 bias bias) gives flaw (Some 14)
    -- r14 may hold all else
    ∷ alone 14 (at 0 16) gives flaw None
    ∷ alone 14 return_address gives flaw None
    ∷ []

-- scratch words
abbrev pub scratch_rows : List Row
scratch_rows =
    -- "any set kind but 5 may be kept there"
    form_of (bytes_of (put 32 (just (above 9)) (put 33 (num 4 bias (above 36)) (put 34 (addr 0 8 bias (above 16)) (put 35 (start_or_null 1) (put 36 return_address (put 37 any_number bare)))))))
    gives flaw None
    -- their form is that of registers: a step, a region, offsets above the size, another part than the kind has
    ∷ alone 32 (num 3 bias bias) gives flaw (Some 33)
    ∷ alone 33 (start_or_null 2) gives flaw (Some 34)
    ∷ alone 34 (addr 1 8 bias (above 16)) gives flaw (Some 35)
    ∷ alone 35 (entry_with 4 1 0 bias bias) gives flaw (Some 36)
    ∷ alone 36 (entry_with 0 0 8 bias bias) gives flaw (Some 37)
    ∷ alone 37 (entry_with 6 0 0 bias bias) gives flaw (Some 38)
    ∷ byte_in (entry_start 0 37 + 3) 1 gives flaw (Some 38)
    -- "the lowest number named first": a register, the note, a scratch word, though it stands before the note
    ∷ form_of (bytes_of (noted (compared 0 bias) (put 32 frame_address (put 31 frame_address bare)))) gives flaw (Some 31)
    ∷ form_of (bytes_of (noted (compared 0 bias) (put 32 frame_address bare))) gives flaw (Some 32)
    ∷ form_of (bytes_of (put 37 frame_address (put 34 frame_address bare))) gives flaw (Some 35)
    -- a note names no scratch word
    ∷ form_of (bytes_of (noted (compared 33 (above 9)) bare)) gives flaw (Some 32)
    -- r14 may be compared
    ∷ form_of (bytes_of (noted (compared 14 bias) (put 14 frame_address bare))) gives flaw None
    ∷ []

-- the sizes of two regions
abbrev pub sizes : List ℕ
sizes = 16 ∷ 8 ∷ replicate 6 0

-- bare, with an entry at an index, as an entry row: it is one; it is not
abbrev pub entering : Rows·.Row → EntryRow
entering row = record { bytes = bytes_of row; formed = true }

abbrev pub barred : ℕ → Entry → EntryRow
barred i e = record { bytes = bytes_of (put i e bare); formed = false }

abbrev pub entry_rows : List EntryRow
entry_rows =
    entering bare
    ∷ entering (put 14 frame_address bare)
    ∷ entering (put 14 (at 0 16) bare)
    ∷ barred 13 frame_address
    -- each scratch word set, and each kind
    ∷ barred 32 (just bias)
    ∷ barred 33 any_number
    ∷ barred 34 (at 0 0)
    ∷ barred 35 (start_or_null 1)
    ∷ barred 36 return_address
    ∷ barred 37 (just bias)
    ∷ barred 37 frame_address
    ∷ []
