-- Whole checks with scratch words (document 02, request 7): number, word, register; and rows that arrive, in the passes for flow and words alone, which cost
-- the prover far less. The words are those that GNU as gives, and stand above each row.
use Rattle.std.specs.Prelude.{ℕ, List, [], ◌∷◌}
use Rattle.v8.specs.Signed.{bias}
use Rattle.rows.specs.declared.Row as Rows·
use Rattle.trials.specs.Case.{Row, ◌gives◌, answers}
use Rattle.trials.specs.Entries.{just, unset, return_address, frame_address, some_codes, put, noted}
use Rattle.trials.specs.CheckRows.{routine, called, rowed, fours}
use Rattle.slotrows.specs.Case as Slots·
use Rattle.slotrows.specs.PassRows as Passes·

-- at a call, r14 is the frame address; with r1 too; with scratch word 0 too
abbrev pub framed : Rows·.Row
framed = put 14 frame_address called

abbrev pub given : Rows·.Row
given = put 1 fours framed

abbrev pub spilled : Rows·.Row
spilled = put 32 fours framed

abbrev pub check_rows : List Row
check_rows =
    -- a routine that spills and reloads: st %g1, [%sp + 96]; retl; ld [%sp + 96], %o0, with the result 0, 4, .. 36
    routine (0xC223A060 ∷ 0x81C3E008 ∷ 0xD003A060 ∷ []) (given ∷ spilled ∷ called ∷ []) given fours gives answers 0 0 0
    -- 15: the note before a scratch word; the lowest scratch word
    ∷ rowed (noted some_codes (put 33 fours called)) called gives answers 15 0 32
    ∷ rowed (put 37 fours (put 33 fours called)) called gives answers 15 0 34
    -- 1: kind 5 in a scratch word
    ∷ rowed (put 37 frame_address called) called gives answers 1 0 38
    -- 21 and not 15: the entry row has a scratch word set, though row 0 asks for none; 21: the frame address as the result
    ∷ routine (0x81C3E008 ∷ 0x01000000 ∷ []) (called ∷ called ∷ []) (put 37 fours called) unset gives answers 21 0 0
    ∷ routine (0x81C3E008 ∷ 0x01000000 ∷ []) (called ∷ called ∷ []) called frame_address gives answers 21 0 0
    ∷ []

-- nop; retl; nop, with the rows of words 0 and 1
abbrev pub onward : Rows·.Row → Rows·.Row → Slots·.Given
onward a b = Passes·.routine (0x01000000 ∷ 0x81C3E008 ∷ 0x01000000 ∷ []) (a ∷ b ∷ called ∷ []) unset

-- a word in a loop, ba 0 with it as its slot, and row 0
abbrev pub looping : ℕ → Rows·.Row → Slots·.Given
looping slot a = Passes·.routine (0x10800000 ∷ slot ∷ []) (a ∷ called ∷ []) unset

abbrev pub pass_rows : List Slots·.Row
pass_rows =
    -- 12: the lowest of r5, the note and scratch words; the note before a scratch word; the lowest scratch word
    Slots·.◌gives◌ (onward called (noted some_codes (put 33 fours (put 5 fours called)))) (answers 12 0 5)
    ∷ Slots·.◌gives◌ (onward called (noted some_codes (put 33 fours called))) (answers 12 0 32)
    ∷ Slots·.◌gives◌ (onward called (put 37 fours (put 33 fours called))) (answers 12 0 34)
    ∷ Slots·.◌gives◌ (onward (put 33 fours called) (put 33 fours called)) (answers 0 0 0)
    ∷ Slots·.◌gives◌ (onward (put 33 fours called) called) (answers 0 0 0)
    -- the load before any store: retl; ld [%sp + 96], %o0
    ∷ Slots·.◌gives◌ (Passes·.routine (0x81C3E008 ∷ 0xD003A060 ∷ []) (framed ∷ called ∷ []) fours) (answers 4 1 33)
    -- a store in a loop, st %g1, [%sp + 104]: what it stores is what row 0 asks for, and is not; another word is not touched
    ∷ Slots·.◌gives◌ (looping 0xC223A068 (put 34 fours given)) (answers 0 0 0)
    ∷ Slots·.◌gives◌ (looping 0xC223A068 (put 34 (just bias) given)) (answers 12 0 35)
    ∷ Slots·.◌gives◌ (looping 0xC223A068 (put 32 (just bias) given)) (answers 0 0 0)
    -- a load in a loop, ld [%sp + 104], %g1: a scratch word that is not what row 0 asks of r1; one that is
    ∷ Slots·.◌gives◌ (looping 0xC203A068 (put 34 return_address given)) (answers 12 0 1)
    ∷ Slots·.◌gives◌ (looping 0xC203A068 (put 34 (just bias) given)) (answers 0 0 0)
    -- it is unset: the slot's word is named
    ∷ Slots·.◌gives◌ (looping 0xC203A068 given) (answers 4 1 35)
    -- the frame address stays in r14, and is asked for
    ∷ Slots·.◌gives◌ (onward framed framed) (answers 0 0 0)
    ∷ Slots·.◌gives◌ (onward called framed) (answers 12 0 14)
    ∷ []
