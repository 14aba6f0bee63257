-- What fits the frame address, and what it fits (document 02, request 7: kind 5 "fits itself"), and rows with scratch words: the lowest place that does
-- not fit, 32 for the note, 33 to 38 for scratch words, "the lowest number named first".
use Rattle.std.specs.Prelude.{true, false, List, [], ◌∷◌, Some, None}
use Rattle.v8.specs.Signed.{bias}
use Rattle.trials.specs.Case.{Row, ◌gives◌, fitting, fitting_row, narrowing, fitted, flaw}
use Rattle.trials.specs.Entries.{above, num, just, any_number, addr, at, unset, start_or_null, return_address, frame_address, some_codes, bare, put, noted}
use Rattle.trials.specs.FitRows.{fours}
use Rattle.trials.specs.NarrowRows.{leaves}

abbrev pub fit_rows : List Row
fit_rows =
    fitting frame_address frame_address gives fitted true
    ∷ fitting frame_address unset gives fitted true
    ∷ fitting frame_address (just bias) gives fitted false
    ∷ fitting frame_address any_number gives fitted false
    ∷ fitting frame_address (at 0 0) gives fitted false
    ∷ fitting frame_address (addr 0 8 bias (above 8)) gives fitted false
    ∷ fitting frame_address (start_or_null 0) gives fitted false
    ∷ fitting frame_address return_address gives fitted false
    ∷ fitting unset frame_address gives fitted false
    ∷ fitting (just bias) frame_address gives fitted false
    ∷ fitting any_number frame_address gives fitted false
    ∷ fitting (at 0 0) frame_address gives fitted false
    ∷ fitting (addr 0 8 bias (above 8)) frame_address gives fitted false
    ∷ fitting (start_or_null 0) frame_address gives fitted false
    ∷ fitting return_address frame_address gives fitted false
    -- rows: r14; each scratch word
    ∷ fitting_row (put 14 frame_address bare) (put 14 frame_address bare) gives flaw None
    ∷ fitting_row bare (put 14 frame_address bare) gives flaw (Some 14)
    ∷ fitting_row (put 32 fours bare) bare gives flaw None
    ∷ fitting_row (put 37 (num 8 bias (above 8)) bare) (put 37 fours bare) gives flaw None
    ∷ fitting_row bare (put 32 fours bare) gives flaw (Some 33)
    ∷ fitting_row bare (put 33 return_address bare) gives flaw (Some 34)
    ∷ fitting_row bare (put 34 (start_or_null 0) bare) gives flaw (Some 35)
    ∷ fitting_row bare (put 35 (at 0 0) bare) gives flaw (Some 36)
    ∷ fitting_row (put 36 fours bare) (put 36 (just bias) bare) gives flaw (Some 37)
    ∷ fitting_row (put 36 fours bare) (put 37 fours bare) gives flaw (Some 38)
    -- a register, the note, the scratch words
    ∷ fitting_row bare (noted some_codes (put 31 fours (put 32 fours bare))) gives flaw (Some 31)
    ∷ fitting_row bare (noted some_codes (put 32 fours bare)) gives flaw (Some 32)
    ∷ fitting_row bare (put 37 fours (put 33 fours bare)) gives flaw (Some 34)
    -- no comparison narrows the frame address
    ∷ narrowing 1 frame_address bias gives leaves frame_address
    ∷ narrowing 2 frame_address bias gives leaves frame_address
    ∷ narrowing 3 frame_address bias gives leaves frame_address
    ∷ narrowing 9 frame_address bias gives leaves frame_address
    ∷ narrowing 10 frame_address bias gives leaves frame_address
    ∷ narrowing 11 frame_address bias gives leaves frame_address
    ∷ []
