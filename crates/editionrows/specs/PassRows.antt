-- Routines with predicted branches in the passes of the check for flow and words, on the newer terminal (document 02, request 5): number, word,
-- register. Each is told with the hint clear, and answered alike with it set. The words are those that GNU as gives, and stand above each row; a
-- branch is told with the word that it lands on.
use Rattle.std.specs.Prelude.{ℕ, List, [], ◌∷◌, ◌++◌}
use Rattle.v8.specs.Signed.{bias}
use Rattle.rows.specs.declared.Entry.{Entry}
use Rattle.rows.specs.declared.Row as Rows·
use Rattle.trials.specs.Case.{answers}
use Rattle.trials.specs.Entries.{above, num, just, at, unset, put, start_or_null}
use Rattle.trials.specs.CheckRows.{called, first, coded, after, fours}
use Rattle.slotrows.specs.Case.{Row, Given}
use Rattle.slotrows.specs.PassRows.{routine, flow, shared}
use Rattle.editionrows.specs.Hints.{either_pass}

-- "3 flow, its word"
abbrev pub flow_rows : List Row
flow_rows =
    -- the last word: nop; ba,pn %icc 0
    either_pass (λ (x : ℕ). flow (0x01000000 ∷ x ∷ [])) 0x1047FFFF (answers 3 1 0)
    -- in the slot of a plain one: ba 0; ba,pn %icc 0; nop, and of a return: retl; ba,pn %icc 0; nop
    ++ either_pass (λ (x : ℕ). flow (0x10800000 ∷ x ∷ 0x01000000 ∷ [])) 0x1047FFFF (answers 3 1 0)
    ++ either_pass (λ (x : ℕ). flow (0x81C3E008 ∷ x ∷ 0x01000000 ∷ [])) 0x1047FFFF (answers 3 1 0)
    -- a transfer in its slot: ba,pn %icc 0; retl; nop
    ++ either_pass (λ (x : ℕ). flow (x ∷ 0x81C3E008 ∷ 0x01000000 ∷ [])) 0x10400000 (answers 3 1 0)
    -- the target outside: ba,pn %icc 2; nop, and -1
    ++ either_pass (λ (x : ℕ). flow (x ∷ 0x01000000 ∷ [])) 0x10400002 (answers 3 0 0)
    ++ either_pass (λ (x : ℕ). flow (x ∷ 0x01000000 ∷ [])) 0x1047FFFF (answers 3 0 0)
    -- the other edge outside: be,pn %icc 0; nop
    ++ either_pass (λ (x : ℕ). flow (x ∷ 0x01000000 ∷ [])) 0x02400000 (answers 3 0 0)
    -- it lands on the slot of a return, whose next word is outside: ba,pn %icc 3; nop; retl; nop
    ++ either_pass (λ (x : ℕ). flow (x ∷ 0x01000000 ∷ 0x81C3E008 ∷ 0x01000000 ∷ [])) 0x10400003 (answers 3 3 0)
    ++ []

-- a predicted branch, its slot, retl and that of this; with the rows of words 0 and 2
abbrev pub branching : ℕ → ℕ → Rows·.Row → Rows·.Row → ℕ → Given
branching slot last a c x = routine (x ∷ slot ∷ 0x81C3E008 ∷ last ∷ []) (a ∷ called ∷ c ∷ called ∷ []) unset

-- r2 is the address of the word that may be read, and r1 is given
abbrev pub indexed : Entry → Rows·.Row
indexed e = put 2 (at 0 0) (first e)

abbrev pub zero_or_four : Entry
zero_or_four = num 4 bias (above 4)

-- r1 is 0 or 4, and was compared with 0; the same with codes that tell nothing of it
abbrev pub tested : Rows·.Row
tested = put 2 (at 0 0) (after bias zero_or_four)

abbrev pub untested : Rows·.Row
untested = put 2 (at 0 0) (coded zero_or_four)

abbrev pub word_rows : List Row
word_rows =
    -- be,pn %icc 0; nop; retl; nop: 4, "32 for codes, which always and never do not read"
    either_pass (branching 0x01000000 0x01000000 called called) 0x02400000 (answers 4 0 32)
    -- .. with codes; and ba,pn %icc 0 and bn,pn %icc 0 without
    ++ either_pass (branching 0x01000000 0x01000000 (coded fours) called) 0x02400000 (answers 0 0 0)
    ++ either_pass (branching 0x01000000 0x01000000 called called) 0x10400000 (answers 0 0 0)
    ++ either_pass (branching 0x01000000 0x01000000 called called) 0x00400000 (answers 0 0 0)
    -- narrowing, the taken edge: be,a,pn %icc 2; ld [%g2 + %g1], %g3; retl; nop, where r1 is 0 if the slot runs
    ++ either_pass (branching 0xC6008001 0x01000000 tested called) 0x22400002 (answers 0 0 0)
    ++ either_pass (branching 0xC6008001 0x01000000 untested called) 0x22400002 (answers 7 1 2)
    -- .. the other edge: bne,pn %icc 0; nop; retl; ld [%g2 + %g1], %g3, where r1 is 0 at word 2
    ++ either_pass (branching 0x01000000 0xC6008001 tested (indexed (just bias))) 0x12400000 (answers 0 0 0)
    ++ either_pass (branching 0x01000000 0xC6008001 untested (indexed (just bias))) 0x12400000 (answers 12 0 1)
    ++ either_pass (branching 0x01000000 0xC6008001 tested (indexed zero_or_four)) 0x12400000 (answers 7 3 2)
    -- .. an address or null: bne,a,pn %icc 2; ld [%g1], %g3; retl; nop
    ++ either_pass (branching 0xC6004000 0x01000000 (after bias (start_or_null 0)) called) 0x32400002 (answers 0 0 0)
    ++ either_pass (branching 0xC6004000 0x01000000 (coded (start_or_null 0)) called) 0x32400002 (answers 5 1 1)
    -- 12 names the branch: ba,pn %icc 2; sethi 1, %g1; retl; nop, where row 2 asks for a 0
    ++ either_pass (branching 0x03000001 0x01000000 called (first (just bias))) 0x10400002 (answers 12 0 1)
    ++ either_pass (branching 0x03000000 0x01000000 called (first (just bias))) 0x10400002 (answers 0 0 0)
    -- a slot that is skipped: be,a,pn %icc 0; sethi 0, %g1; retl; nop, where row 2 asks for the 0 that it would make
    ++ either_pass (branching 0x03000000 0x01000000 (coded fours) (first (just bias))) 0x22400000 (answers 12 0 1)
    -- .. ba,a,pn %icc 2; ld [%g1], %g3; retl; nop, which would break a condition; so it does after ba,pn %icc 2
    ++ either_pass (branching 0xC6004000 0x01000000 called called) 0x30400002 (answers 0 0 0)
    ++ either_pass (branching 0xC6004000 0x01000000 called called) 0x10400002 (answers 4 1 1)
    -- landing on a slot: ba,pn %icc 2; ld [%g1], %g3; ba 1; nop: its own row has no r1
    ++ either_pass (λ (x : ℕ). shared x 0xC6004000 0x01000000 (first (at 0 0)) called called) 0x10400002 (answers 4 1 1)
    ++ []
