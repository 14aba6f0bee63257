-- What branches leave of what was compared (document 01, "A branch with note 2 narrows a noted number on conditions 1, 2, 3, 9, 10, 11 ..").
-- A row has the condition that holds: the branch's where it is taken, its opposite where it is not.
use Rattle.std.specs.Prelude.{List, [], ◌∷◌, ◌++◌, Some, None}
use Rattle.rows.specs.declared.Entry.{Entry}
use Rattle.rows.specs.declared.Row as Rows·
use Rattle.rules.specs.Narrow.{left, nothing}
use Rattle.trials.specs.Case.{Row, ◌gives◌, Outcome, narrowing, narrowing_row, remains, row_remains}
use Rattle.trials.specs.Entries.{above, below, least, most, num, just, any_number, addr, at, unset, start_or_null, return_address, some_codes, compared, bare, put, noted}
use Rattle.v8.specs.Signed.{bias}

-- an entry is left; nothing is
abbrev pub leaves : Entry → Outcome
leaves e = remains (Some e)

abbrev pub none : Outcome
none = remains None

-- 0, 4, .. 36
abbrev pub fours : Entry
fours = num 4 bias (above 36)

-- order: 3 less, 11 at least, 2 at most, 10 greater
abbrev pub order_rows : List Row
order_rows =
    -- document 01 (*): compared with 9, less, and else
    narrowing 3 fours (above 9) gives leaves (num 4 bias (above 8))
    ∷ narrowing 11 fours (above 9) gives leaves (num 4 (above 12) (above 36))
    -- with a member
    ∷ narrowing 3 fours (above 8) gives leaves (num 4 bias (above 4))
    ∷ narrowing 11 fours (above 8) gives leaves (num 4 (above 8) (above 36))
    ∷ narrowing 2 fours (above 8) gives leaves (num 4 bias (above 8))
    ∷ narrowing 10 fours (above 8) gives leaves (num 4 (above 12) (above 36))
    ∷ narrowing 2 fours (above 9) gives leaves (num 4 bias (above 8))
    ∷ narrowing 10 fours (above 9) gives leaves (num 4 (above 12) (above 36))
    -- one member left takes step 8
    ∷ narrowing 3 fours (above 4) gives leaves (just bias)
    ∷ narrowing 2 fours (above 3) gives leaves (just bias)
    ∷ narrowing 11 fours (above 33) gives leaves (just (above 36))
    ∷ narrowing 10 fours (above 35) gives leaves (just (above 36))
    -- nothing left, or all
    ∷ narrowing 3 fours bias gives none
    ∷ narrowing 2 fours (below 1) gives none
    ∷ narrowing 11 fours (above 37) gives none
    ∷ narrowing 10 fours (above 36) gives none
    ∷ narrowing 3 fours (above 37) gives leaves fours
    ∷ narrowing 2 fours (above 36) gives leaves fours
    ∷ narrowing 11 fours bias gives leaves fours
    ∷ narrowing 10 fours (below 1) gives leaves fours
    ∷ narrowing 3 (just (above 9)) (above 9) gives none
    ∷ narrowing 2 (just (above 9)) (above 9) gives leaves (just (above 9))
    -- signed, whatever the difference's sign: the slip of "less" by the negative bit alone
    ∷ narrowing 3 any_number bias gives leaves (num 1 least (below 1))
    ∷ narrowing 11 any_number bias gives leaves (num 1 bias most)
    ∷ narrowing 3 (just least) (above 1) gives leaves (just least)
    ∷ narrowing 11 (just least) (above 1) gives none
    ∷ narrowing 3 (just most) (below 1) gives none
    ∷ narrowing 11 (just most) (below 1) gives leaves (just most)
    -- at the ends of 32 bits
    ∷ narrowing 3 any_number least gives none
    ∷ narrowing 2 any_number least gives leaves (just least)
    ∷ narrowing 11 any_number least gives leaves any_number
    ∷ narrowing 10 any_number most gives none
    ∷ narrowing 11 any_number most gives leaves (just most)
    ∷ narrowing 2 any_number most gives leaves any_number
    ∷ []

-- 1 equal; 9 not equal: "only by dropping an end"
abbrev pub equal_rows : List Row
equal_rows =
    -- on the steps, off them, outside
    narrowing 1 fours (above 8) gives leaves (just (above 8))
    ∷ narrowing 1 fours (above 36) gives leaves (just (above 36))
    ∷ narrowing 1 fours (above 9) gives none
    ∷ narrowing 1 fours (above 40) gives none
    ∷ narrowing 1 fours (below 4) gives none
    ∷ narrowing 1 (just (above 9)) (above 9) gives leaves (just (above 9))
    -- at either end, in the middle, off the steps, outside
    ∷ narrowing 9 fours bias gives leaves (num 4 (above 4) (above 36))
    ∷ narrowing 9 fours (above 36) gives leaves (num 4 bias (above 32))
    ∷ narrowing 9 fours (above 8) gives leaves fours
    ∷ narrowing 9 fours (above 9) gives leaves fours
    ∷ narrowing 9 fours (above 40) gives leaves fours
    -- two members, and one
    ∷ narrowing 9 (num 8 bias (above 8)) bias gives leaves (just (above 8))
    ∷ narrowing 9 (num 8 bias (above 8)) (above 8) gives leaves (just bias)
    ∷ narrowing 9 (just (above 9)) (above 9) gives none
    ∷ narrowing 9 (just (above 9)) (above 8) gives leaves (just (above 9))
    -- at the ends of 32 bits
    ∷ narrowing 9 any_number least gives leaves (num 1 (below 2147483647) most)
    ∷ narrowing 9 any_number most gives leaves (num 1 least (above 2147483646))
    ∷ []

-- other kinds, other conditions
abbrev pub other_rows : List Row
other_rows =
    -- kind 3 compared with 0: the single 0, the start; on the other conditions nothing
    narrowing 1 (start_or_null 1) bias gives leaves (just bias)
    ∷ narrowing 9 (start_or_null 1) bias gives leaves (at 1 0)
    ∷ narrowing 2 (start_or_null 1) bias gives leaves (start_or_null 1)
    ∷ narrowing 3 (start_or_null 1) bias gives leaves (start_or_null 1)
    ∷ narrowing 10 (start_or_null 1) bias gives leaves (start_or_null 1)
    ∷ narrowing 11 (start_or_null 1) bias gives leaves (start_or_null 1)
    ∷ narrowing 12 (start_or_null 1) bias gives leaves (start_or_null 1)
    -- with another number nothing
    ∷ narrowing 1 (start_or_null 1) (above 8) gives leaves (start_or_null 1)
    ∷ narrowing 9 (start_or_null 1) (above 8) gives leaves (start_or_null 1)
    -- an address, the return address, what is unset
    ∷ narrowing 1 (at 1 8) bias gives leaves (at 1 8)
    ∷ narrowing 3 (addr 1 4 bias (above 8)) (above 4) gives leaves (addr 1 4 bias (above 8))
    ∷ narrowing 9 return_address bias gives leaves return_address
    ∷ narrowing 1 unset bias gives leaves unset
    -- 4 to 7, 12 to 15, 0 and 8 narrow no number, and leave a single one
    ∷ narrowing 4 fours (above 9) gives leaves fours
    ∷ narrowing 5 fours (above 9) gives leaves fours
    ∷ narrowing 6 fours (above 9) gives leaves fours
    ∷ narrowing 7 fours (above 9) gives leaves fours
    ∷ narrowing 12 fours (above 9) gives leaves fours
    ∷ narrowing 13 fours (above 9) gives leaves fours
    ∷ narrowing 14 fours (above 9) gives leaves fours
    ∷ narrowing 15 fours (above 9) gives leaves fours
    ∷ narrowing 0 fours (above 9) gives leaves fours
    ∷ narrowing 8 fours (above 9) gives leaves fours
    ∷ narrowing 5 (just (above 9)) (above 8) gives leaves (just (above 9))
    ∷ []

-- rows: the noted register narrows, and the note stays; "An edge with no members left is not examined."
abbrev pub row_rows : List Row
row_rows =
    narrowing_row 3 (noted (compared 1 (above 9)) (put 2 fours (put 1 fours bare)))
    gives row_remains (left (noted (compared 1 (above 9)) (put 2 fours (put 1 (num 4 bias (above 8)) bare))))
    ∷ narrowing_row 1 (noted (compared 31 bias) (put 31 (start_or_null 1) bare))
    gives row_remains (left (noted (compared 31 bias) (put 31 (just bias) bare)))
    ∷ narrowing_row 3 (noted (compared 1 bias) (put 1 fours bare)) gives row_remains nothing
    -- without a comparison, or of an unset register
    ∷ narrowing_row 3 (noted some_codes (put 1 fours bare)) gives row_remains (left (noted some_codes (put 1 fours bare)))
    ∷ narrowing_row 8 (put 1 fours bare) gives row_remains (left (put 1 fours bare))
    ∷ narrowing_row 3 (noted (compared 1 bias) bare) gives row_remains (left (noted (compared 1 bias) bare))
    ∷ []

-- all of them
abbrev pub narrow_rows : List Row
narrow_rows = order_rows ++ equal_rows ++ other_rows ++ row_rows
