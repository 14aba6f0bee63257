-- Whole listings, and refusals (document 02, request 2). The words are those that GNU as gives, and stand above each row.
use Rattle.std.specs.Prelude.{ℕ, true, List, [], ◌∷◌, ◌++◌, replicate, take}
use Rattle.v8.specs.Signed.{bias}
use Rattle.policy.specs.declared.Policy.{Policy}
use Rattle.policy.specs.Build.{empty_policy, with_region}
use Rattle.rows.specs.declared.Row as Rows·
use Rattle.trials.specs.Entries.{just, addr, start_or_null, return_address, entry_with, above, bare, put, bytes_of}
use Rattle.lister_rules.specs.Table.{table_marks}
use Rattle.kindrows.specs.Case.{Row, routine, listing, refusal}

-- one region of 8 bytes
abbrev pub policy : Policy
policy = with_region empty_policy 8

-- at the entry r1 is a number, r2 an address, r3 an address or null, r15 the return address; all else is unset
abbrev pub entry : Rows·.Row
entry = put 1 (just bias) (put 2 (addr 0 8 bias (above 8)) (put 3 (start_or_null 0) (put 15 return_address bare)))

-- .. and r4 to r6 are numbers too
abbrev pub numbers : Rows·.Row
numbers = put 4 (just bias) (put 5 (just bias) (put 6 (just bias) entry))

abbrev pub listing_from : Rows·.Row → List ℕ → List ℕ → Row
listing_from row words marks = record { given = routine policy words (bytes_of row) table_marks; expected = listing marks true }

abbrev pub entered : List ℕ → List ℕ → Row
entered words marks = listing_from entry words marks

abbrev pub numbered : List ℕ → List ℕ → Row
numbered words marks = listing_from numbers words marks

-- a word that is not reached
abbrev pub unreached : ℕ
unreached = 0

abbrev pub list_rows : List Row
list_rows =
    -- the entry row's kinds at word 0, and a slot that shows its transfer's marks
    -- retl; nop
    entered (0x81C3E008 ∷ 0x01000000 ∷ [])
    (11235555555555545555555555555555 ∷ 11235555555555545555555555555555 ∷ [])
    -- a slot is shown as it was before the transfer, whatever it does
    -- retl; sethi 0, %g4
    ∷ entered (0x81C3E008 ∷ 0x09000000 ∷ [])
    (11235555555555545555555555555555 ∷ 11235555555555545555555555555555 ∷ [])
    -- what a word does is seen at the next
    -- sethi 0, %g4; mov %g2, %g5; retl; nop
    ∷ entered (0x09000000 ∷ 0x8A100002 ∷ 0x81C3E008 ∷ 0x01000000 ∷ [])
    (11235555555555545555555555555555 ∷ 11231555555555545555555555555555 ∷ 11231255555555545555555555555555 ∷ 11231255555555545555555555555555 ∷ [])
    -- number meets address: unset. The taken edge carries what the slot made, the other what the word after it made
    -- be 3; mov %g1, %g4; mov %g2, %g4; retl; nop
    ∷ entered (0x02800003 ∷ 0x88100001 ∷ 0x88100002 ∷ 0x81C3E008 ∷ 0x01000000 ∷ [])
    (11235555555555545555555555555555 ∷ 11235555555555545555555555555555 ∷ 11231555555555545555555555555555 ∷ 11235555555555545555555555555555 ∷ 11235555555555545555555555555555 ∷ [])
    -- a mark meets itself
    -- be 3; mov %g2, %g4; add %g2, 4, %g4; retl; nop
    ∷ entered (0x02800003 ∷ 0x88100002 ∷ 0x8800A004 ∷ 0x81C3E008 ∷ 0x01000000 ∷ [])
    (11235555555555545555555555555555 ∷ 11235555555555545555555555555555 ∷ 11232555555555545555555555555555 ∷ 11232555555555545555555555555555 ∷ 11232555555555545555555555555555 ∷ [])
    -- be,a: the slot runs on the taken edge alone
    -- be,a 3; mov %g2, %g1; nop; retl; nop
    ∷ entered (0x22800003 ∷ 0x82100002 ∷ 0x01000000 ∷ 0x81C3E008 ∷ 0x01000000 ∷ [])
    (11235555555555545555555555555555 ∷ 11235555555555545555555555555555 ∷ 11235555555555545555555555555555 ∷ 15235555555555545555555555555555 ∷ 15235555555555545555555555555555 ∷ [])
    -- ba: the slot runs; what only the other edge would reach is not reached, and a SETHI there marks nothing
    -- ba 3; mov %g2, %g4; sethi 0, %g5; retl; nop
    ∷ entered (0x10800003 ∷ 0x88100002 ∷ 0x0B000000 ∷ 0x81C3E008 ∷ 0x01000000 ∷ [])
    (11235555555555545555555555555555 ∷ 11235555555555545555555555555555 ∷ unreached ∷ 11232555555555545555555555555555 ∷ 11232555555555545555555555555555 ∷ [])
    -- ba,a: the slot is skipped, and shows the branch's marks
    -- ba,a 3; mov %g2, %g4; sethi 0, %g5; retl; nop
    ∷ entered (0x30800003 ∷ 0x88100002 ∷ 0x0B000000 ∷ 0x81C3E008 ∷ 0x01000000 ∷ [])
    (11235555555555545555555555555555 ∷ 11235555555555545555555555555555 ∷ unreached ∷ 11235555555555545555555555555555 ∷ 11235555555555545555555555555555 ∷ [])
    -- bn and bn,a go on behind the slot, which runs or is skipped
    -- bn 3; mov %g2, %g4; retl; nop
    ∷ entered (0x00800003 ∷ 0x88100002 ∷ 0x81C3E008 ∷ 0x01000000 ∷ [])
    (11235555555555545555555555555555 ∷ 11235555555555545555555555555555 ∷ 11232555555555545555555555555555 ∷ 11232555555555545555555555555555 ∷ [])
    -- bn,a 3; mov %g2, %g4; retl; nop
    ∷ entered (0x20800003 ∷ 0x88100002 ∷ 0x81C3E008 ∷ 0x01000000 ∷ [])
    (11235555555555545555555555555555 ∷ 11235555555555545555555555555555 ∷ 11235555555555545555555555555555 ∷ 11235555555555545555555555555555 ∷ [])
    -- an edge back to word 0 meets the entry row
    -- be 0; mov %g2, %g1; retl; nop
    ∷ entered (0x02800000 ∷ 0x82100002 ∷ 0x81C3E008 ∷ 0x01000000 ∷ [])
    (15235555555555545555555555555555 ∷ 15235555555555545555555555555555 ∷ 12235555555555545555555555555555 ∷ 12235555555555545555555555555555 ∷ [])
    -- a branch to itself alone: nothing else is reached
    -- ba 0; sethi 0, %g4; retl; nop
    ∷ entered (0x10800000 ∷ 0x09000000 ∷ 0x81C3E008 ∷ 0x01000000 ∷ [])
    (11235555555555545555555555555555 ∷ 11235555555555545555555555555555 ∷ unreached ∷ unreached ∷ [])
    -- a loop that passes a mark from register to register: each turn raises one more
    -- mov %g5, %g4; mov %g6, %g5; mov %g2, %g6; be -3; nop; retl; nop
    ∷ numbered (0x88100005 ∷ 0x8A100006 ∷ 0x8C100002 ∷ 0x02BFFFFD ∷ 0x01000000 ∷ 0x81C3E008 ∷ 0x01000000 ∷ [])
    (11235555555555545555555555555555 ∷ 11235555555555545555555555555555 ∷ 11235555555555545555555555555555 ∷ 11235525555555545555555555555555 ∷ 11235525555555545555555555555555 ∷ 11235525555555545555555555555555 ∷ 11235525555555545555555555555555 ∷ [])
    -- two ways on which ADD gives an address, one with the operands swapped: not the meeting of the ways, but of the marks
    -- be 5; nop; mov %g1, %g4; mov %g2, %g1; mov %g4, %g2; add %g1, %g2, %g6; retl; nop
    ∷ entered (0x02800005 ∷ 0x01000000 ∷ 0x88100001 ∷ 0x82100002 ∷ 0x84100004 ∷ 0x8C004002 ∷ 0x81C3E008 ∷ 0x01000000 ∷ [])
    (11235555555555545555555555555555 ∷ 11235555555555545555555555555555 ∷ 11235555555555545555555555555555 ∷ 11231555555555545555555555555555 ∷ 12231555555555545555555555555555 ∷ 15535555555555545555555555555555 ∷ 15535555555555545555555555555555 ∷ 15535555555555545555555555555555 ∷ [])
    -- behind a return nothing is reached
    -- retl; nop; sethi 0, %g4; retl; nop
    ∷ entered (0x81C3E008 ∷ 0x01000000 ∷ 0x09000000 ∷ 0x81C3E008 ∷ 0x01000000 ∷ [])
    (11235555555555545555555555555555 ∷ 11235555555555545555555555555555 ∷ unreached ∷ unreached ∷ unreached ∷ [])
    -- a return without a return address in r15 is listed
    -- sethi 0, %o7; retl; nop
    ∷ entered (0x1F000000 ∷ 0x81C3E008 ∷ 0x01000000 ∷ [])
    (11235555555555545555555555555555 ∷ 11235555555555515555555555555555 ∷ 11235555555555515555555555555555 ∷ [])
    ∷ []

-- retl; nop
abbrev pub leaf : List ℕ
leaf = 0x81C3E008 ∷ 0x01000000 ∷ []

-- a refusal by number and word, with the table as it was
abbrev pub refused : Policy → List ℕ → List ℕ → ℕ → ℕ → ℕ → Row
refused p words bytes size number w = record { given = routine p words bytes size; expected = refusal number w 0 true }

-- a policy that breaks a rule: a region of 4 bytes
abbrev pub broken : Policy
broken = with_region empty_policy 4

-- "20, 21 (without rows and result entry, which aren't handed in; also a table of another length), 2, 24 and 3 come as in the check, and a
-- refusal leaves the lent table's bytes"
abbrev pub refused_rows : List Row
refused_rows =
    refused broken leaf (bytes_of entry) table_marks 20 0
    -- 21: no words, 129 words; an entry row of another length, badly formed; a table of another length
    ∷ refused policy [] (bytes_of entry) table_marks 21 0
    ∷ refused policy (replicate 129 0x01000000) (bytes_of entry) table_marks 21 0
    ∷ refused policy leaf (take 463 (bytes_of entry)) table_marks 21 0
    ∷ refused policy leaf (bytes_of entry ++ 0 ∷ []) table_marks 21 0
    ∷ refused policy leaf (bytes_of (put 4 (entry_with 5 0 0 bias bias) entry)) table_marks 21 0
    ∷ refused policy leaf (bytes_of (put 2 (addr 1 8 bias bias) entry)) table_marks 21 0
    ∷ refused policy leaf (bytes_of entry) 0 21 0
    ∷ refused policy leaf (bytes_of entry) 64 21 0
    ∷ refused policy leaf (bytes_of entry) 4095 21 0
    ∷ refused policy leaf (bytes_of entry) 4097 21 0
    -- 2 and 24 are one pass: the lowest word is named
    ∷ refused policy (0x01000000 ∷ 0x00000000 ∷ leaf) (bytes_of entry) table_marks 2 1
    ∷ refused policy (0x81480000 ∷ 0x00000000 ∷ leaf) (bytes_of entry) table_marks 24 0
    ∷ refused policy (0x00000000 ∷ 0x81480000 ∷ leaf) (bytes_of entry) table_marks 2 0
    -- 3: the last word goes on; a return that is the last word
    ∷ refused policy (0x01000000 ∷ []) (bytes_of entry) table_marks 3 0
    ∷ refused policy (0x01000000 ∷ 0x81C3E008 ∷ []) (bytes_of entry) table_marks 3 1
    -- 20 before 21, 21 before 2, 2 before 3
    ∷ refused broken [] (bytes_of entry) 0 20 0
    ∷ refused policy (0x00000000 ∷ []) (bytes_of entry) 0 21 0
    ∷ refused policy (0x81C3E008 ∷ 0x81C3E008 ∷ 0x00000000 ∷ []) (bytes_of entry) table_marks 2 2
    ∷ []
