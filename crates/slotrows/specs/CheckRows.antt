-- Whole checks of routines with branches into slots (document 02, request 4): number, word, register. The words are those that GNU as gives, and
-- stand above each row; a branch is told with the word that it lands on.
use Rattle.std.specs.Prelude.{List, [], ◌∷◌}
use Rattle.v8.specs.Signed.{bias}
use Rattle.trials.specs.Case.{Row, ◌gives◌, answers}
use Rattle.trials.specs.Entries.{above, just, at, unset}
use Rattle.trials.specs.CheckRows.{routine, called, first}

abbrev pub check_rows : List Row
check_rows =
    -- ba 1; add %g1, 4, %g1; retl; nop: the branch lands on its own slot, which runs twice
    routine (0x10800001 ∷ 0x82006004 ∷ 0x81C3E008 ∷ 0x01000000 ∷ [])
    (first (just bias) ∷ first (just (above 4)) ∷ first (just (above 8)) ∷ called ∷ [])
    (first (just bias))
    unset
    gives answers 0 0 0
    -- ba 2; ld [%g1], %g3; ba 1; nop: the row of the slot has no r1, though that of its transfer has the address
    ∷ routine (0x10800002 ∷ 0xC6004000 ∷ 0x10BFFFFF ∷ 0x01000000 ∷ [])
    (first (at 0 0) ∷ called ∷ called ∷ called ∷ [])
    (first (at 0 0))
    unset
    gives answers 4 1 1
    ∷ []
