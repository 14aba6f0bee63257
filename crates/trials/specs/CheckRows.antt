-- Whole checks (document 01, "Order of the check, and its numbers"): number, word, register. The words are those that GNU as gives; each is
-- told beside its row, where %g1 to %g3 are r1 to r3 and %o0 is r8. The cost of a check grows fast with its words, so each has few.
use Rattle.std.specs.Prelude.{ℕ, ◌*◌, List, [], ◌∷◌, ◌++◌, map, replicate, take}
use Rattle.policy.specs.declared.Policy.{Policy}
use Rattle.policy.specs.Build.{empty_policy, with_region, with_field}
use Rattle.rows.specs.Geometry.{row_bytes}
use Rattle.rows.specs.declared.Entry.{Entry}
use Rattle.rows.specs.declared.Row as Rows·
use Rattle.trials.specs.Case.{Row, ◌gives◌, Given, check, answers}
use Rattle.trials.specs.Policies.{field_of, uniform}
use Rattle.trials.specs.Entries.{above, least, num, just, any_number, unset, start_or_null, return_address, some_codes, compared, bare, put, noted, bytes_of, bytes_of_entry, bytes_of_rows}
use Rattle.v8.specs.Signed.{bias}

-- a word 0 to 9 to be read, alone in region 0
abbrev pub one_word : Policy
one_word = with_field (with_region empty_policy 8) 0 (field_of 5 1 0 0 1 bias (above 9))

-- the row at a call: r15 is the return address, all else is unset
abbrev pub called : Rows·.Row
called = put 15 return_address bare

-- it, with r1; with r1 and the codes set; with r1 and the codes of its comparison with a number
abbrev pub first : Entry → Rows·.Row
first e = put 1 e called

abbrev pub coded : Entry → Rows·.Row
coded e = noted some_codes (first e)

abbrev pub after : ℕ → Entry → Rows·.Row
after n e = noted (compared 1 n) (first e)

-- words, their rows, the entry row and the result entry
abbrev pub routine : List ℕ → List Rows·.Row → Rows·.Row → Entry → Given
routine words rows entry result = check one_word words (bytes_of_rows rows) (bytes_of entry) (bytes_of_entry result)

-- words whose rows are all equal to the entry row; any result
abbrev pub alike : List ℕ → Rows·.Row → Given
alike words row = routine words (map (λ (w : ℕ). row) words) row unset

-- words at a call
abbrev pub flow : List ℕ → Given
flow words = alike words called

-- retl and nop with these bytes as rows, entry row and result entry
abbrev pub shaped : List ℕ → List ℕ → List ℕ → Given
shaped rows entry result = check one_word (0x81C3E008 ∷ 0x01000000 ∷ []) rows entry result

-- retl and nop with these rows, at a call
abbrev pub rowed : Rows·.Row → Rows·.Row → Given
rowed a b = routine (0x81C3E008 ∷ 0x01000000 ∷ []) (a ∷ b ∷ []) called unset

-- the bytes of two rows at a call
abbrev pub two_rows : List ℕ
two_rows = bytes_of_rows (called ∷ called ∷ [])

-- 0, 4, .. 36
abbrev pub fours : Entry
fours = num 4 bias (above 36)

-- "20 policy breaks a rule above. 21 words not 1 to 128, rows not [464] bytes a word, or the entry row or result entry badly formed."
abbrev pub shape_rows : List Row
shape_rows =
    -- a region of 7 bytes, and no words
    check (uniform 1 7 0) [] [] [] [] gives answers 20 0 0
    -- no words; 129 words
    ∷ check one_word [] [] (bytes_of called) (bytes_of_entry unset) gives answers 21 0 0
    ∷ check one_word (replicate 129 0x01000000) (replicate (row_bytes * 129) 0) (bytes_of called) (bytes_of_entry unset) gives answers 21 0 0
    -- the lengths of rows, entry row and result entry, each one byte short or long
    ∷ shaped (take 927 two_rows) (bytes_of called) (bytes_of_entry unset) gives answers 21 0 0
    ∷ shaped (two_rows ++ 0 ∷ []) (bytes_of called) (bytes_of_entry unset) gives answers 21 0 0
    ∷ shaped two_rows (take 463 (bytes_of called)) (bytes_of_entry unset) gives answers 21 0 0
    ∷ shaped two_rows (bytes_of called ++ 0 ∷ []) (bytes_of_entry unset) gives answers 21 0 0
    ∷ shaped two_rows (bytes_of called) (take 11 (bytes_of_entry unset)) gives answers 21 0 0
    ∷ shaped two_rows (bytes_of called) (bytes_of_entry unset ++ 0 ∷ []) gives answers 21 0 0
    -- the entry row or the result entry badly formed
    ∷ routine (0x81C3E008 ∷ 0x01000000 ∷ []) (called ∷ called ∷ []) (put 3 (start_or_null 1) called) unset gives answers 21 0 0
    ∷ routine (0x81C3E008 ∷ 0x01000000 ∷ []) (called ∷ called ∷ []) called (num 3 bias bias) gives answers 21 0 0
    ∷ []

-- "1 row badly formed: its word; the lowest register of the earliest broken row is the one named, 32 for the note. 2 word not read: its word."
-- Request 1: "24 replaces 2 for these words, in the same pass".
abbrev pub form_pass_rows : List Row
form_pass_rows =
    -- row 1 broken at r3 and at the note; before 2: word 0 is not read
    routine (0 ∷ 0x01000000 ∷ []) (called ∷ noted (compared 0 bias) (put 3 (start_or_null 1) called) ∷ []) called unset gives answers 1 1 3
    -- row 0 broken at r4, row 1 at r2
    ∷ rowed (put 4 (start_or_null 1) called) (put 2 (start_or_null 1) called) gives answers 1 0 4
    -- word 1 is not read; before 3: word 0 is a ba out of the code
    ∷ flow (0x10800002 ∷ 0 ∷ []) gives answers 2 1 0
    -- rd %psr,%g1 before a word that is not read, and after one; in the slot of a ba out of the code; with its own row broken
    ∷ flow (0x83480000 ∷ 0 ∷ []) gives answers 24 0 0
    ∷ flow (0 ∷ 0x83480000 ∷ []) gives answers 2 0 0
    ∷ flow (0x10800002 ∷ 0x83480000 ∷ []) gives answers 24 1 0
    ∷ routine (0x83480000 ∷ []) (put 3 (start_or_null 1) called ∷ []) called unset gives answers 1 0 3
    ∷ []

-- "3 flow, its word"; "15 the entry row does not fit row 0: lowest register or 32"
abbrev pub flow_rows : List Row
flow_rows =
    -- "a transfer (Bicc or return) that is the last word": retl; before 15: row 0 asks for an r1
    routine (0x81C3E008 ∷ []) (first fours ∷ []) called unset gives answers 3 0 0
    -- "a transfer in a slot": retl, retl, nop
    ∷ flow (0x81C3E008 ∷ 0x81C3E008 ∷ 0x01000000 ∷ []) gives answers 3 1 0
    -- "the next word outside the code": document 01 (*), one nop alone; be to itself, nop
    ∷ flow (0x01000000 ∷ []) gives answers 3 0 0
    ∷ flow (0x02800000 ∷ 0x01000000 ∷ []) gives answers 3 0 0
    -- "a target outside the code": ba two on, nop; ba one back, nop
    ∷ flow (0x10800002 ∷ 0x01000000 ∷ []) gives answers 3 0 0
    ∷ flow (0x10BFFFFF ∷ 0x01000000 ∷ []) gives answers 3 0 0
    -- request 4, "a targeted slot whose next word is outside gives 3, with the slot's word": ba to its own slot, nop
    ∷ flow (0x10800001 ∷ 0x01000000 ∷ []) gives answers 3 1 0
    -- 15: row 0 asks for r3, for r31 and for the codes
    ∷ rowed (noted some_codes (put 31 return_address (put 3 fours called))) called gives answers 15 0 3
    ∷ []

-- "each word outside slots: its own conditions, then the taken edge, then the other; an edge applies its slot (named as the slot's word),
-- then 12 if the row so made does not fit the next row (this word, not the slot; lowest register or 32), or at a return 14"
abbrev pub edge_rows : List Row
edge_rows =
    -- document 01 (*): retl and nop, r8 fitting; ba to itself and nop
    routine (0x81C3E008 ∷ 0x01000000 ∷ []) (put 8 fours called ∷ put 8 fours called ∷ []) (put 8 fours called) fours gives answers 0 0 0
    ∷ flow (0x10800000 ∷ 0x01000000 ∷ []) gives answers 0 0 0
    -- 14: retl and sethi 1,%o0, which the slot writes before r8 is tested; "A slot's row is tested for form and not otherwise read"
    ∷ routine (0x81C3E008 ∷ 0x11000001 ∷ []) (put 8 fours called ∷ put 5 fours bare ∷ []) (put 8 fours called) fours gives answers 14 0 8
    -- retl, ld [%g1],%g3: the slot's own condition is named as the slot's word
    ∷ flow (0x81C3E008 ∷ 0xC6004000 ∷ []) gives answers 4 1 1
    ∷ []

-- document 01, "Slips seen": each answer would be another one with the slip. 12 names the branch and not the slot, on either edge.
abbrev pub slip_rows : List Row
slip_rows =
    -- "Judging "less" by the negative bit alone": r1, the least number, was compared with 1; it is less, and the difference is positive. bl to
    -- itself, nop, retl, nop: nothing is left of the edge to word 2, which asks for another number. With the slip, 12 0 1
    routine (0x06800000 ∷ 0x01000000 ∷ 0x81C3E008 ∷ 0x01000000 ∷ [])
    (after (above 1) (just least) ∷ called ∷ first (just bias) ∷ called ∷ [])
    (after (above 1) (just least))
    unset
    gives answers 0 0 0
    -- "Running the slot of an annulled branch not taken": be,a to itself, sethi 0,%g1, retl, nop: r1 need not be the 0 that word 2 asks for.
    -- With the slip, 0 0 0
    ∷ routine (0x22800000 ∷ 0x03000000 ∷ 0x81C3E008 ∷ 0x01000000 ∷ [])
    (coded fours ∷ called ∷ first (just bias) ∷ called ∷ [])
    (coded fours)
    unset
    gives answers 12 0 1
    -- "Keeping a compare note after its register was written": ba to itself, add %g1,4,%g1. With the slip, 0 0 0
    ∷ alike (0x10800000 ∷ 0x82006004 ∷ []) (after (above 9) any_number) gives answers 12 0 32
    ∷ []

-- all of them: those that end before the last pass, and the others
abbrev pub pass_rows : List Row
pass_rows = shape_rows ++ form_pass_rows ++ flow_rows

abbrev pub edge_pass_rows : List Row
edge_pass_rows = edge_rows ++ slip_rows
