-- Whole runs over predicted branches, on each terminal (document 02, request 5). The words are those that GNU as gives, and stand above each row; a
-- branch is told with the word that it lands on. The words behind it count in r5, r6 and r7 how often each is run.
use Rattle.std.specs.Prelude.{ℕ, List, [], ◌∷◌, ◌++◌}
use Rattle.machine_steps.specs.declared.End.TheVariants.{Returned, Spent, Fault}
use Rattle.trials.specs.Case.{Row, Given}
use Rattle.trials.specs.Runs.{sixteen_bytes, start, equal, from, code, branching, left, counted, kept, faults}
use Rattle.editionrows.specs.Hints.{either_hint, all_give}

-- a branch and its slot, then a return with a slot
abbrev pub returning : ℕ → Given
returning w = code (w ∷ 0x8A016001 ∷ 0x81C3E008 ∷ 0x8C01A001 ∷ [])

-- the codes are set, and Z. Each leaves the code after word 3: 101
abbrev pub coded_rows : List Row
coded_rows =
    -- be,pn %icc 3 and be,a,pn %icc 3: taken, the slot runs
    either_hint (branching equal) 0x02400003 (left (Fault 101) 3 1 0 1 20 sixteen_bytes)
    ++ either_hint (branching equal) 0x22400003 (left (Fault 101) 3 1 0 1 20 sixteen_bytes)
    -- bne,pn %icc 3: not taken, the slot runs; bne,a,pn %icc 3: it is skipped
    ++ either_hint (branching equal) 0x12400003 (left (Fault 101) 4 1 1 1 20 sixteen_bytes)
    ++ either_hint (branching equal) 0x32400003 (left (Fault 101) 3 0 1 1 20 sixteen_bytes)
    ++ []

-- the codes are unset
abbrev pub uncoded_rows : List Row
uncoded_rows =
    -- ba,pn %icc 3: the slot runs; ba,a,pn %icc 3: it is skipped
    either_hint (branching start) 0x10400003 (counted (Fault 101) 3 1 0 1)
    ++ either_hint (branching start) 0x30400003 (counted (Fault 101) 2 0 0 1)
    -- bn,pn %icc 3: the slot runs; bn,a,pn %icc 3: it is skipped
    ++ either_hint (branching start) 0x00400003 (counted (Fault 101) 4 1 1 1)
    ++ either_hint (branching start) 0x20400003 (counted (Fault 101) 3 0 1 1)
    -- ba,pn %icc 2 and 1: to a return, and to its own slot, which runs twice
    ++ either_hint returning 0x10400002 (counted Returned 4 1 1 0)
    ++ either_hint returning 0x10400001 (counted Returned 5 2 1 0)
    -- ba,pn %icc -1: out of the code
    ++ either_hint returning 0x1047FFFF (counted (Fault 101) 2 1 0 0)
    -- be,pn %icc 3: "102 unset read"
    ++ either_hint (branching start) 0x02400003 (faults 102)
    ++ []

-- a predicted branch behind another word
abbrev pub back_rows : List Row
back_rows =
    -- inc %g5; ba,a,pn %icc 0
    either_hint (λ (x : ℕ). from start 5 (0x8A016001 ∷ x ∷ [])) 0x3047FFFF (counted Spent 5 3 0 0)
    -- ba 2; ba,pn %icc 1; inc %g5: "a transfer in a slot"
    ++ either_hint (λ (x : ℕ). code (0x10800002 ∷ x ∷ 0x8A016001 ∷ [])) 0x10400000 (kept (Fault 101) 1)
    ++ []

abbrev pub newer_rows : List Row
newer_rows = coded_rows ++ uncoded_rows ++ back_rows

-- on the older terminal each ends at the branch, which is not read
abbrev pub older_rows : List Row
older_rows =
    all_give (left (Fault 101) 0 0 0 0 20 sixteen_bytes) coded_rows
    ++ all_give (faults 101) uncoded_rows
    ++ either_hint (λ (x : ℕ). from start 5 (0x8A016001 ∷ x ∷ [])) 0x3047FFFF (counted (Fault 101) 1 1 0 0)

-- on both: with other codes it is not read, ba,pn %xcc 3
abbrev pub alike_rows : List Row
alike_rows = either_hint (branching start) 0x10600003 (faults 101)
