-- Routines with branches into slots in the passes of the check for flow and words (document 02, request 4): number, word, register. The words are
-- those that GNU as gives, and stand above each row; a branch is told with the word that it lands on.
use Rattle.std.specs.Prelude.{ℕ, List, [], ◌∷◌, map}
use Rattle.v8.specs.Signed.{bias}
use Rattle.rows.specs.declared.Entry.{Entry}
use Rattle.rows.specs.declared.Row as Rows·
use Rattle.trials.specs.Case.{answers}
use Rattle.trials.specs.Entries.{above, num, just, at, unset, put}
use Rattle.trials.specs.CheckRows.{called, first, coded, after, fours}
use Rattle.slotrows.specs.Case.{Row, Given, ◌gives◌}

-- words, their rows, and the result entry
abbrev pub routine : List ℕ → List Rows·.Row → Entry → Given
routine words rows result = record { words = words; rows = rows; result = result }

-- words at a call, with rows that are all alike; any result
abbrev pub flow : List ℕ → Given
flow words = routine words (map (λ (w : ℕ). called) words) unset

-- "3 no longer covers a target that is a slot; a targeted slot whose next word is outside gives 3, with the slot's word"
abbrev pub flow_rows : List Row
flow_rows =
    -- the last word is a return's slot that a branch lands on: ba 3; nop; retl; nop
    flow (0x10800003 ∷ 0x01000000 ∷ 0x81C3E008 ∷ 0x01000000 ∷ []) gives answers 3 3 0
    -- .. a slot that never runs as one: ba,a 1; nop
    ∷ flow (0x30800001 ∷ 0x01000000 ∷ []) gives answers 3 1 0
    -- "a transfer in a slot", which a branch lands on: ba 1; retl; nop, and ba,a 1; retl; nop
    ∷ flow (0x10800001 ∷ 0x81C3E008 ∷ 0x01000000 ∷ []) gives answers 3 1 0
    ∷ flow (0x30800001 ∷ 0x81C3E008 ∷ 0x01000000 ∷ []) gives answers 3 1 0
    -- words ascend. A branch out of the code comes before the slot: ba 9; nop; ba 3; nop
    ∷ flow (0x10800009 ∷ 0x01000000 ∷ 0x10800001 ∷ 0x01000000 ∷ []) gives answers 3 0 0
    -- .. so does the branch that lands on it, if its other edge goes out: be 1; nop
    ∷ flow (0x02800001 ∷ 0x01000000 ∷ []) gives answers 3 0 0
    -- .. and an ordinary word behind the slot that goes out is named itself: ba 1; nop; nop
    ∷ flow (0x10800001 ∷ 0x01000000 ∷ 0x01000000 ∷ []) gives answers 3 2 0
    ∷ []

-- A slot that the branch at word 2 lands on, and which goes on to that branch: a transfer, the slot, ba 1, the slot of this; with the rows of
-- words 0 to 2
abbrev pub shared : ℕ → ℕ → ℕ → Rows·.Row → Rows·.Row → Rows·.Row → Given
shared transfer slot last a b c = routine (transfer ∷ slot ∷ 0x10BFFFFF ∷ last ∷ []) (a ∷ b ∷ c ∷ called ∷ []) unset

-- r1 is the address of the word that may be read
abbrev pub pointing : Rows·.Row
pointing = first (at 0 0)

-- "also examined as an ordinary word, with its own row read and the following word as its next"
abbrev pub shared_rows : List Row
shared_rows =
    -- ba 2; nop; ba 1; nop
    shared 0x10800002 0x01000000 0x01000000 called called called gives answers 0 0 0
    -- ba 2; sethi 0, %g1; ba 1; nop: on both ways it makes the 0 that row 2 asks for
    ∷ shared 0x10800002 0x03000000 0x01000000 called called (first (just bias)) gives answers 0 0 0
    -- ba 2; nop; ba 1; nop: 12 at the branch, against the slot's row, which asks for r1
    ∷ shared 0x10800002 0x01000000 0x01000000 called (first fours) called gives answers 12 2 1
    -- .. 12 at the slot's word, against the row of the following word; the transfer's row has what this asks for
    ∷ shared 0x10800002 0x01000000 0x01000000 (first fours) called (first fours) gives answers 12 1 1
    -- ba 2; ld [%g1], %g3; ba 1; nop: both rows have the address; the transfer's alone has it
    ∷ shared 0x10800002 0xC6004000 0x01000000 pointing pointing pointing gives answers 0 0 0
    ∷ shared 0x10800002 0xC6004000 0x01000000 pointing called called gives answers 4 1 1
    -- .. both break a condition: the transfer's row comes first
    ∷ shared 0x10800002 0xC6004000 0x01000000 (first fours) called called gives answers 6 1 1
    -- ba 2; add %g1, 4, %g1; ba 1; sethi 0, %g1: its own row has r1, the transfer's has not
    ∷ shared 0x10800002 0x82006004 0x03000000 called (first (just bias)) called gives answers 4 1 1
    -- the same after ba,a 2 and after bn,a 2, where it never runs as a slot: its own row alone counts
    ∷ shared 0x30800002 0x82006004 0x03000000 called (first (just bias)) called gives answers 0 0 0
    ∷ shared 0x30800002 0x82006004 0x03000000 called called called gives answers 4 1 1
    ∷ shared 0x20800002 0x82006004 0x03000000 called (first (just bias)) called gives answers 0 0 0
    ∷ shared 0x20800002 0x82006004 0x03000000 called called called gives answers 4 1 1
    -- .. and after bn 2, where it runs
    ∷ shared 0x00800002 0x82006004 0x03000000 called (first (just bias)) called gives answers 4 1 1
    ∷ []

-- A branch that lands on its own slot: the branch, the slot, retl, nop; with the rows of words 0 to 2
abbrev pub own : ℕ → ℕ → Rows·.Row → Rows·.Row → Rows·.Row → Given
own branch slot a b c = routine (branch ∷ slot ∷ 0x81C3E008 ∷ 0x01000000 ∷ []) (a ∷ b ∷ c ∷ called ∷ []) unset

abbrev pub own_rows : List Row
own_rows =
    -- ba 1; add %g1, 4, %g1; retl; nop: the slot runs, and runs again as an ordinary word: r1 is 0, 4 and 8
    own 0x10800001 0x82006004 (first (just bias)) (first (just (above 4))) (first (just (above 8))) gives answers 0 0 0
    ∷ own 0x10800001 0x82006004 (first (just bias)) (first (just (above 4))) (first (just (above 4))) gives answers 12 1 1
    ∷ own 0x10800001 0x82006004 (first (just bias)) (first (just bias)) (first (just (above 4))) gives answers 12 0 1
    -- ba,a 1: it runs once
    ∷ own 0x30800001 0x82006004 (first (just bias)) (first (just bias)) (first (just (above 4))) gives answers 0 0 0
    -- be 1: twice if the branch is taken, once if not
    ∷ own 0x02800001 0x82006004 (coded (just bias)) (first (just (above 4))) (first (num 4 (above 4) (above 8))) gives answers 0 0 0
    ∷ own 0x02800001 0x82006004 (coded (just bias)) (first (just (above 4))) (first (just (above 4))) gives answers 12 1 1
    ∷ own 0x02800001 0x82006004 (coded (just bias)) (first (just (above 4))) (first (just (above 8))) gives answers 12 0 1
    -- be 1; add %g2, 4, %g3; retl; nop: 5 was compared with 0, so nothing is left of the edge that lands there, and what row 1 asks for
    -- is not tested; the slot is examined all the same
    ∷ own 0x02800001 0x8600A004 (put 2 fours (after bias (just (above 5)))) (put 2 fours pointing) called gives answers 0 0 0
    ∷ own 0x02800001 0x8600A004 (put 2 fours (after bias (just (above 5)))) called called gives answers 4 1 2
    ∷ []

-- ba 3; nop; retl; nop; retl, a slot: the branch lands on the slot of a return, and goes on to another. r8 is to be one of 0, 4, .. 36, and is
-- unset but in the row given, that of word 2.
abbrev pub homes : ℕ → Rows·.Row → Given
homes last c =
    routine (0x10800003 ∷ 0x01000000 ∷ 0x81C3E008 ∷ 0x01000000 ∷ 0x81C3E008 ∷ last ∷ [])
    (called ∷ called ∷ c ∷ called ∷ called ∷ called ∷ [])
    fours

abbrev pub home_rows : List Row
home_rows =
    -- the second return has sethi 0, %o0: on the way from word 3 no r8 is asked for before that
    homes 0x11000000 (put 8 fours called) gives answers 0 0 0
    -- it has nop: 14 with its word
    ∷ homes 0x01000000 (put 8 fours called) gives answers 14 4 8
    -- the first return is tested as before
    ∷ homes 0x11000000 called gives answers 14 2 8
    ∷ []

-- ba 2; ld [%g1], %g3; retl; nop; ba 1; nop: the branch that lands on the slot is never reached; with the rows of words 0 and 1
abbrev pub idle : Rows·.Row → Rows·.Row → Given
idle a b =
    routine (0x10800002 ∷ 0xC6004000 ∷ 0x81C3E008 ∷ 0x01000000 ∷ 0x10BFFFFD ∷ 0x01000000 ∷ [])
    (a ∷ b ∷ called ∷ called ∷ b ∷ called ∷ [])
    unset

abbrev pub idle_rows : List Row
idle_rows =
    -- the slot is examined
    idle pointing pointing gives answers 0 0 0
    ∷ idle pointing called gives answers 4 1 1
    -- never lands nowhere, bn 3; nop; retl; nop: the last word is no target
    ∷ flow (0x00800003 ∷ 0x01000000 ∷ 0x81C3E008 ∷ 0x01000000 ∷ []) gives answers 0 0 0
    -- ba 2; ld [%g1], %g3; bn 1; nop; retl; nop: the row of the slot is not read
    ∷ routine (0x10800002 ∷ 0xC6004000 ∷ 0x00BFFFFF ∷ 0x01000000 ∷ 0x81C3E008 ∷ 0x01000000 ∷ [])
    (pointing ∷ called ∷ called ∷ called ∷ called ∷ called ∷ [])
    unset
    gives answers 0 0 0
    ∷ []
