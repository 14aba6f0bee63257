-- Whole listings with the frame address (document 02, request 7): "the listing marks it unset". The words are those that GNU as gives, and stand above each
-- row.
use Rattle.std.specs.Prelude.{List, [], ◌∷◌}
use Rattle.v8.specs.Signed.{bias}
use Rattle.rows.specs.declared.Row as Rows·
use Rattle.trials.specs.Entries.{just, frame_address, put, bytes_of}
use Rattle.lister_rules.specs.Table.{table_marks}
use Rattle.kindrows.specs.Case.{Row}
use Rattle.kindrows.specs.ListRows.{policy, entry, leaf, listing_from, refused}

-- r1 is a number, r2 an address, r3 an address or null, r15 the return address, r14 the frame address; all else is unset
abbrev pub framed : Rows·.Row
framed = put 14 frame_address entry

abbrev pub list_rows : List Row
list_rows =
    -- retl; nop
    listing_from framed (0x81C3E008 ∷ 0x01000000 ∷ [])
    (11235555555555545555555555555555 ∷ 11235555555555545555555555555555 ∷ [])
    -- a copy of it is unset, mov %sp, %g1; and what is stored and loaded, st %g2, [%sp + 96]; ld [%sp + 96], %g2; retl; nop
    ∷ listing_from framed (0x8210000E ∷ 0xC423A060 ∷ 0xC403A060 ∷ 0x81C3E008 ∷ 0x01000000 ∷ [])
    (11235555555555545555555555555555 ∷ 15235555555555545555555555555555 ∷ 15235555555555545555555555555555 ∷ 15535555555555545555555555555555 ∷ 15535555555555545555555555555555 ∷ [])
    -- 21: an entry row with a scratch word set; with kind 5 in r13, and in a scratch word
    ∷ refused policy leaf (bytes_of (put 32 (just bias) entry)) table_marks 21 0
    ∷ refused policy leaf (bytes_of (put 13 frame_address entry)) table_marks 21 0
    ∷ refused policy leaf (bytes_of (put 37 frame_address entry)) table_marks 21 0
    ∷ []
