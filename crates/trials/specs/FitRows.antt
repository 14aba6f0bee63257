-- What fits what (document 01, "Entry A fits B if .."; "Note A fits B if ..").
use Rattle.std.specs.Prelude.{true, false, List, [], ◌∷◌, ◌++◌, Some, None}
use Rattle.rows.specs.declared.Entry.{Entry}
use Rattle.trials.specs.Case.{Row, ◌gives◌, fitting, fitting_note, fitting_row, fitted, flaw}
use Rattle.trials.specs.Entries.{above, below, least, most, num, just, any_number, addr, at, unset, start_or_null, return_address, no_codes, some_codes, compared, bare, put, noted}
use Rattle.v8.specs.Signed.{bias}

-- 0, 4, .. 16
abbrev pub fours : Entry
fours = num 4 bias (above 16)

-- numbers and addresses: "A's set lies in B's"
abbrev pub set_rows : List Row
set_rows =
    -- 0 and 8 lie in 0, 4, .. 16, and not the other way; a finer step, a shifted grid, an end outside
    fitting (num 8 bias (above 8)) fours gives fitted true
    ∷ fitting fours (num 8 bias (above 8)) gives fitted false
    ∷ fitting (num 8 bias (above 16)) fours gives fitted true
    ∷ fitting fours (num 8 bias (above 16)) gives fitted false
    ∷ fitting (num 2 bias (above 16)) fours gives fitted false
    ∷ fitting (num 4 (above 2) (above 10)) fours gives fitted false
    ∷ fitting (num 4 bias (above 20)) fours gives fitted false
    ∷ fitting (num 4 (below 4) (above 16)) fours gives fitted false
    ∷ fitting fours fours gives fitted true
    -- a single number: on the steps, off them, outside; in another single number
    ∷ fitting (just (above 12)) fours gives fitted true
    ∷ fitting (just (above 10)) fours gives fitted false
    ∷ fitting (just (above 20)) fours gives fitted false
    ∷ fitting (just (below 4)) fours gives fitted false
    ∷ fitting (just (above 9)) (just (above 9)) gives fitted true
    ∷ fitting (just (above 9)) (just (above 8)) gives fitted false
    ∷ fitting fours (just bias) gives fitted false
    -- all numbers
    ∷ fitting fours any_number gives fitted true
    ∷ fitting any_number any_number gives fitted true
    ∷ fitting any_number (num 1 bias most) gives fitted false
    ∷ fitting any_number (num 1 least (above 2147483646)) gives fitted false
    -- addresses of one region, and of two; an address and a number
    ∷ fitting (addr 1 8 bias (above 8)) (addr 1 4 bias (above 16)) gives fitted true
    ∷ fitting (addr 0 8 bias (above 8)) (addr 1 4 bias (above 16)) gives fitted false
    ∷ fitting (addr 1 4 bias (above 16)) (addr 1 8 bias (above 16)) gives fitted false
    ∷ fitting (at 1 8) (just (above 8)) gives fitted false
    ∷ fitting (just (above 8)) (at 1 8) gives fitted false
    ∷ fitting (at 1 8) any_number gives fitted false
    ∷ []

-- the other kinds
abbrev pub kind_rows : List Row
kind_rows =
    -- the single number 0 and the start fit kind 3 of the region
    fitting (just bias) (start_or_null 1) gives fitted true
    ∷ fitting (at 1 0) (start_or_null 1) gives fitted true
    ∷ fitting (start_or_null 1) (start_or_null 1) gives fitted true
    -- the start of another region, another offset, other numbers, the return address and what is unset do not
    ∷ fitting (at 0 0) (start_or_null 1) gives fitted false
    ∷ fitting (at 1 8) (start_or_null 1) gives fitted false
    ∷ fitting (addr 1 8 bias (above 8)) (start_or_null 1) gives fitted false
    ∷ fitting (just (above 8)) (start_or_null 1) gives fitted false
    ∷ fitting (num 8 bias (above 8)) (start_or_null 1) gives fitted false
    ∷ fitting (start_or_null 0) (start_or_null 1) gives fitted false
    ∷ fitting return_address (start_or_null 1) gives fitted false
    ∷ fitting unset (start_or_null 1) gives fitted false
    -- kind 3 fits no address and no number
    ∷ fitting (start_or_null 1) (at 1 0) gives fitted false
    ∷ fitting (start_or_null 1) (addr 1 1 bias (above 8)) gives fitted false
    ∷ fitting (start_or_null 1) (just bias) gives fitted false
    ∷ fitting (start_or_null 1) any_number gives fitted false
    -- the return address
    ∷ fitting return_address return_address gives fitted true
    ∷ fitting return_address any_number gives fitted false
    ∷ fitting any_number return_address gives fitted false
    ∷ fitting (start_or_null 1) return_address gives fitted false
    ∷ fitting unset return_address gives fitted false
    ∷ fitting unset any_number gives fitted false
    ∷ fitting unset (at 1 0) gives fitted false
    -- unset takes all
    ∷ fitting unset unset gives fitted true
    ∷ fitting fours unset gives fitted true
    ∷ fitting (at 1 8) unset gives fitted true
    ∷ fitting (start_or_null 1) unset gives fitted true
    ∷ fitting return_address unset gives fitted true
    ∷ []

-- notes, and rows: the lowest register that does not fit, 32 for the note, or none where the row fits
abbrev pub note_fit_rows : List Row
note_fit_rows =
    fitting_note no_codes no_codes gives fitted true
    ∷ fitting_note some_codes no_codes gives fitted true
    ∷ fitting_note (compared 1 (above 9)) no_codes gives fitted true
    ∷ fitting_note no_codes some_codes gives fitted false
    ∷ fitting_note some_codes some_codes gives fitted true
    ∷ fitting_note (compared 1 (above 9)) some_codes gives fitted true
    ∷ fitting_note no_codes (compared 1 (above 9)) gives fitted false
    ∷ fitting_note some_codes (compared 1 (above 9)) gives fitted false
    ∷ fitting_note (compared 1 (above 9)) (compared 1 (above 9)) gives fitted true
    ∷ fitting_note (compared 2 (above 9)) (compared 1 (above 9)) gives fitted false
    ∷ fitting_note (compared 1 (above 8)) (compared 1 (above 9)) gives fitted false
    ∷ fitting_row bare bare gives flaw None
    ∷ fitting_row (noted some_codes (put 1 fours bare)) bare gives flaw None
    ∷ fitting_row bare (put 31 fours bare) gives flaw (Some 31)
    ∷ fitting_row bare (noted some_codes bare) gives flaw (Some 32)
    ∷ fitting_row bare (noted some_codes (put 9 return_address (put 5 fours bare))) gives flaw (Some 5)
    ∷ []

-- all of them
abbrev pub fit_rows : List Row
fit_rows = set_rows ++ kind_rows ++ note_fit_rows
