-- Whole runs through slots that a branch lands on (document 02, request 4): such a slot runs as an ordinary word, and control goes on to the next.
-- The words are those that GNU as gives, and stand above each row; a branch is told with the word that it lands on. `inc` is add of 1 to a
-- register, so that r5, r6 and r7 count.
use Rattle.std.specs.Prelude.{List, [], ◌∷◌}
use Rattle.machine_steps.specs.declared.End.TheVariants.{Returned, Spent, Fault}
use Rattle.trials.specs.Case.{Row, ◌gives◌}
use Rattle.trials.specs.Runs.{sixteen_bytes, start, equal, from, code, left, counted, kept}

abbrev pub run_rows : List Row
run_rows =
    -- its own slot runs twice: ba 1; inc %g5; retl; inc %g6
    code (0x10800001 ∷ 0x8A016001 ∷ 0x81C3E008 ∷ 0x8C01A001 ∷ []) gives counted Returned 5 2 1 0
    -- .. once after ba,a 1
    ∷ code (0x30800001 ∷ 0x8A016001 ∷ 0x81C3E008 ∷ 0x8C01A001 ∷ []) gives counted Returned 4 1 1 0
    -- be 1 and be,a 1, taken: twice; bne 1, not taken: once; bne,a 1, not taken: never
    ∷ from equal 9 (0x02800001 ∷ 0x8A016001 ∷ 0x81C3E008 ∷ 0x8C01A001 ∷ []) gives left Returned 5 2 1 0 20 sixteen_bytes
    ∷ from equal 9 (0x22800001 ∷ 0x8A016001 ∷ 0x81C3E008 ∷ 0x8C01A001 ∷ []) gives left Returned 5 2 1 0 20 sixteen_bytes
    ∷ from equal 9 (0x12800001 ∷ 0x8A016001 ∷ 0x81C3E008 ∷ 0x8C01A001 ∷ []) gives left Returned 4 1 1 0 20 sixteen_bytes
    ∷ from equal 9 (0x32800001 ∷ 0x8A016001 ∷ 0x81C3E008 ∷ 0x8C01A001 ∷ []) gives left Returned 3 0 1 0 20 sixteen_bytes
    -- the slot of another branch, which is not run: ba 3; inc %g5; ba 0; inc %g6; retl; inc %g7
    ∷ code (0x10800003 ∷ 0x8A016001 ∷ 0x10BFFFFE ∷ 0x8C01A001 ∷ 0x81C3E008 ∷ 0x8E01E001 ∷ []) gives counted Returned 5 1 1 1
    -- .. which is run before: ba 2; inc %g5; ba 1; inc %g6
    ∷ from start 8 (0x10800002 ∷ 0x8A016001 ∷ 0x10BFFFFF ∷ 0x8C01A001 ∷ []) gives counted Spent 8 3 2 0
    -- .. which skips it: ba,a 2 and bn,a 2
    ∷ from start 8 (0x30800002 ∷ 0x8A016001 ∷ 0x10BFFFFF ∷ 0x8C01A001 ∷ []) gives counted Spent 8 2 2 0
    ∷ from start 8 (0x20800002 ∷ 0x8A016001 ∷ 0x10BFFFFF ∷ 0x8C01A001 ∷ []) gives counted Spent 8 2 2 0
    -- a return's slot: not to the caller, but on to the next word: ba 3; inc %g5; retl; inc %g6; retl; inc %g7
    ∷ code (0x10800003 ∷ 0x8A016001 ∷ 0x81C3E008 ∷ 0x8C01A001 ∷ 0x81C3E008 ∷ 0x8E01E001 ∷ []) gives counted Returned 5 1 1 1
    -- .. out of the code, where there is none: the check's 3. ba 3; inc %g5; retl; inc %g6
    ∷ code (0x10800003 ∷ 0x8A016001 ∷ 0x81C3E008 ∷ 0x8C01A001 ∷ []) gives counted (Fault 101) 3 1 1 0
    -- a transfer that stands in a slot, which the check refuses: run as the slot it faults, landed on it is an ordinary word. ba 1; retl;
    -- inc %g5, and ba,a 1; retl; inc %g5
    ∷ code (0x10800001 ∷ 0x81C3E008 ∷ 0x8A016001 ∷ []) gives kept (Fault 101) 1
    ∷ code (0x30800001 ∷ 0x81C3E008 ∷ 0x8A016001 ∷ []) gives counted Returned 3 1 0 0
    ∷ []
