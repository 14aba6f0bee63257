-- Whole listings of routines with branches into slots (document 02, request 4): "In the listing such a slot shows its transfer's marks met with
-- those on the edges into it, and passes these on as an ordinary word; its transfer's edges go on from the transfer's marks alone." The words are
-- those that GNU as gives, and stand above each row; a branch is told with the word that it lands on.
use Rattle.std.specs.Prelude.{List, [], ◌∷◌}
use Rattle.trials.specs.Entries.{bytes_of}
use Rattle.lister_rules.specs.Table.{table_marks}
use Rattle.kindrows.specs.Case.{Row}
use Rattle.kindrows.specs.ListRows.{policy, entry, entered, numbered, unreached, refused}

abbrev pub list_rows : List Row
list_rows =
    -- word 2 comes with r1 a number, the edge into its slot with r1 an address: the slot shows it unset, and passes that on to word 4 in r4 too;
    -- along the edge of word 2 both are numbers, as they are at word 0
    -- be,a 3; mov %g2, %g1; ba 0; mov %g1, %g4; retl; nop
    numbered (0x22800003 ∷ 0x82100002 ∷ 0x10BFFFFE ∷ 0x88100001 ∷ 0x81C3E008 ∷ 0x01000000 ∷ [])
    (11231115555555545555555555555555 ∷ 11231115555555545555555555555555 ∷ 11231115555555545555555555555555 ∷ 15231115555555545555555555555555 ∷ 15235115555555545555555555555555 ∷ 15235115555555545555555555555555 ∷ [])
    -- a return's slot: what it shows goes on to the word behind it
    -- be,a 3; mov %g2, %g1; retl; mov %g1, %g4; retl; nop
    ∷ numbered (0x22800003 ∷ 0x82100002 ∷ 0x81C3E008 ∷ 0x88100001 ∷ 0x81C3E008 ∷ 0x01000000 ∷ [])
    (11231115555555545555555555555555 ∷ 11231115555555545555555555555555 ∷ 11231115555555545555555555555555 ∷ 15231115555555545555555555555555 ∷ 15235115555555545555555555555555 ∷ 15235115555555545555555555555555 ∷ [])
    -- an edge back into a slot, whose marks come from behind it
    -- ba 2; mov %g1, %g4; be 1; mov %g2, %g1; retl; nop
    ∷ numbered (0x10800002 ∷ 0x88100001 ∷ 0x02BFFFFF ∷ 0x82100002 ∷ 0x81C3E008 ∷ 0x01000000 ∷ [])
    (11231115555555545555555555555555 ∷ 15235115555555545555555555555555 ∷ 15235115555555545555555555555555 ∷ 15235115555555545555555555555555 ∷ 12235115555555545555555555555555 ∷ 12235115555555545555555555555555 ∷ [])
    -- a branch to its own slot: the marks before the slot meet those after it
    -- ba 1; mov %g2, %g1; retl; nop
    ∷ entered (0x10800001 ∷ 0x82100002 ∷ 0x81C3E008 ∷ 0x01000000 ∷ [])
    (11235555555555545555555555555555 ∷ 15235555555555545555555555555555 ∷ 12235555555555545555555555555555 ∷ 12235555555555545555555555555555 ∷ [])
    -- ba,a 1; mov %g2, %g1; retl; nop: the edge carries the marks before the slot
    ∷ entered (0x30800001 ∷ 0x82100002 ∷ 0x81C3E008 ∷ 0x01000000 ∷ [])
    (11235555555555545555555555555555 ∷ 11235555555555545555555555555555 ∷ 12235555555555545555555555555555 ∷ 12235555555555545555555555555555 ∷ [])
    -- the transfer is not reached: the slot shows the marks on the edge alone
    -- ba 3; nop; retl; sethi 0, %g4; retl; nop
    ∷ entered (0x10800003 ∷ 0x01000000 ∷ 0x81C3E008 ∷ 0x09000000 ∷ 0x81C3E008 ∷ 0x01000000 ∷ [])
    (11235555555555545555555555555555 ∷ 11235555555555545555555555555555 ∷ unreached ∷ 11235555555555545555555555555555 ∷ 11231555555555545555555555555555 ∷ 11231555555555545555555555555555 ∷ [])
    -- the branch is not reached: the slot passes its transfer's marks on all the same
    -- retl; sethi 0, %g4; retl; nop; ba,a 1; nop
    ∷ entered (0x81C3E008 ∷ 0x09000000 ∷ 0x81C3E008 ∷ 0x01000000 ∷ 0x30BFFFFD ∷ 0x01000000 ∷ [])
    (11235555555555545555555555555555 ∷ 11235555555555545555555555555555 ∷ 11231555555555545555555555555555 ∷ 11231555555555545555555555555555 ∷ unreached ∷ unreached ∷ [])
    -- bn lands nowhere, and the slot passes nothing on
    -- bn 3; nop; retl; sethi 0, %g4; retl; nop
    ∷ entered (0x00800003 ∷ 0x01000000 ∷ 0x81C3E008 ∷ 0x09000000 ∷ 0x81C3E008 ∷ 0x01000000 ∷ [])
    (11235555555555545555555555555555 ∷ 11235555555555545555555555555555 ∷ 11235555555555545555555555555555 ∷ 11235555555555545555555555555555 ∷ unreached ∷ unreached ∷ [])
    -- "3 .. as in the check": no word follows the slot, ba 1; nop
    ∷ refused policy (0x10800001 ∷ 0x01000000 ∷ []) (bytes_of entry) table_marks 3 1
    ∷ []
