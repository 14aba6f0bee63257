-- What words do to a row where r14 is the frame address (document 02, request 7): "LD and ST through r14 with a single number read or replace the scratch
-- entry"; "6 for any other use of the frame, storing its address too, 7 for another offset, 8 for another width (naming rs1 as before), 4 for an unset
-- word, in that order; the register answered for scratch words is 33 to 38". The words are those that GNU as gives; each is told beside its row, where
-- %g1 to %g4 are r1 to r4 and %sp is r14. The entry of scratch word k has the index 32 + k.
use Rattle.std.specs.Prelude.{ℕ, ◌+◌, List, [], ◌∷◌, ◌++◌, map}
use Rattle.v8.specs.Signed.{bias}
use Rattle.policy.specs.Build.{empty_policy}
use Rattle.rows.specs.declared.Entry.{Entry}
use Rattle.rows.specs.declared.Row as Rows·
use Rattle.trials.specs.Case.{Row, ◌gives◌, Given, change}
use Rattle.trials.specs.Entries.{above, below, num, just, any_number, addr, at, start_or_null, return_address, frame_address, some_codes, compared, bare, put, noted}
use Rattle.trials.specs.ChangeRows.{on, writes, puts, breaks, fours}

-- r14 is the frame address, r3 is 0, 4, .. 36, all else is unset
abbrev pub spare : Rows·.Row
spare = put 14 frame_address (put 3 fours bare)

-- .. and the scratch words are set, to an entry of each kind that may be kept there
abbrev pub kept : Rows·.Row
kept =
    put 32 (just (above 9))
    (put 33 (num 4 bias (above 36)) (put 34 (addr 0 8 bias (above 16)) (put 35 (start_or_null 1) (put 36 return_address (put 37 any_number spare)))))

-- ld [%sp + n], %g3 and st %g3, [%sp + n], to which n is added
abbrev pub ld : ℕ
ld = 0xC603A000

abbrev pub st : ℕ
st = 0xC623A000

-- .. ldub, lduh, ldsb, ldsh, stb, sth
abbrev pub narrow : List ℕ
narrow = 0xC60BA000 ∷ 0xC613A000 ∷ 0xC64BA000 ∷ 0xC653A000 ∷ 0xC62BA000 ∷ 0xC633A000 ∷ []

-- such a word with n
abbrev pub at14 : ℕ → ℕ → Given
at14 n word = change empty_policy kept (word + n)

-- each access at an offset that is no scratch word's; each narrow access at one that is
abbrev pub outside : ℕ → List Row
outside n = map (λ (word : ℕ). at14 n word gives breaks 7 14) (ld ∷ st ∷ narrow)

abbrev pub too_narrow : ℕ → List Row
too_narrow n = map (λ (word : ℕ). at14 n word gives breaks 8 14) narrow

-- the words with r14 as rs1 and an immediate
abbrev pub offset_rows : List Row
offset_rows =
    -- -4, in 13 bits; 0; 92; 94
    outside 0x1FFC
    ++ outside 0
    ++ outside 92
    ++ outside 94
    -- 97; 98; 99; 118; 120; 124
    ++ outside 97
    ++ outside 98
    ++ outside 99
    ++ outside 118
    ++ outside 120
    ++ outside 124
    ++ too_narrow 96
    ++ too_narrow 100
    ++ too_narrow 104
    ++ too_narrow 108
    ++ too_narrow 112
    ++ too_narrow 116
    -- "read .. the scratch entry", as it is
    ++ at14 96 ld gives puts 3 (just (above 9))
    ∷ at14 100 ld gives puts 3 (num 4 bias (above 36))
    ∷ at14 104 ld gives puts 3 (addr 0 8 bias (above 16))
    ∷ at14 108 ld gives puts 3 (start_or_null 1)
    ∷ at14 112 ld gives puts 3 return_address
    ∷ at14 116 ld gives puts 3 any_number
    -- "or replace" it
    ∷ at14 96 st gives puts 32 fours
    ∷ at14 100 st gives puts 33 fours
    ∷ at14 104 st gives puts 34 fours
    ∷ at14 108 st gives puts 35 fours
    ∷ at14 112 st gives puts 36 fours
    ∷ at14 116 st gives puts 37 fours
    ∷ []

-- the same with r1, a single number, as rs1 and r14 as rs2: ld [%g1 + %sp], %g3 and st, then the narrow ones
abbrev pub ld_indexed : ℕ
ld_indexed = 0xC600400E

abbrev pub st_indexed : ℕ
st_indexed = 0xC620400E

abbrev pub narrow_indexed : List ℕ
narrow_indexed = 0xC608400E ∷ 0xC610400E ∷ 0xC648400E ∷ 0xC650400E ∷ 0xC628400E ∷ 0xC630400E ∷ []

abbrev pub by1 : ℕ → ℕ → Given
by1 n word = change empty_policy (put 1 (just n) kept) word

abbrev pub outside_by1 : ℕ → List Row
outside_by1 n = map (λ (word : ℕ). by1 n word gives breaks 7 1) (ld_indexed ∷ st_indexed ∷ narrow_indexed)

abbrev pub too_narrow_by1 : ℕ → List Row
too_narrow_by1 n = map (λ (word : ℕ). by1 n word gives breaks 8 1) narrow_indexed

abbrev pub indexed_rows : List Row
indexed_rows =
    outside_by1 (below 4)
    ++ outside_by1 bias
    ++ outside_by1 (above 92)
    ++ outside_by1 (above 94)
    ++ outside_by1 (above 97)
    ++ outside_by1 (above 98)
    ++ outside_by1 (above 118)
    ++ outside_by1 (above 120)
    ++ outside_by1 (above 124)
    ++ too_narrow_by1 (above 96)
    ++ too_narrow_by1 (above 100)
    ++ too_narrow_by1 (above 104)
    ++ too_narrow_by1 (above 108)
    ++ too_narrow_by1 (above 112)
    ++ too_narrow_by1 (above 116)
    ++ by1 (above 96) ld_indexed gives puts 3 (just (above 9))
    ∷ by1 (above 100) ld_indexed gives puts 3 (num 4 bias (above 36))
    ∷ by1 (above 104) ld_indexed gives puts 3 (addr 0 8 bias (above 16))
    ∷ by1 (above 108) ld_indexed gives puts 3 (start_or_null 1)
    ∷ by1 (above 112) ld_indexed gives puts 3 return_address
    ∷ by1 (above 116) ld_indexed gives puts 3 any_number
    ∷ by1 (above 96) st_indexed gives puts 32 fours
    ∷ by1 (above 100) st_indexed gives puts 33 fours
    ∷ by1 (above 104) st_indexed gives puts 34 fours
    ∷ by1 (above 108) st_indexed gives puts 35 fours
    ∷ by1 (above 112) st_indexed gives puts 36 fours
    ∷ by1 (above 116) st_indexed gives puts 37 fours
    ∷ []

-- with r1: ld [%sp + %g1], %g3; ld [%g1 + %sp], %g3
abbrev pub beside : Entry → Given
beside e = on (put 1 e kept) 0xC6038001

abbrev pub beside_it : Entry → Given
beside_it e = on (put 1 e kept) ld_indexed

abbrev pub operand_rows : List Row
operand_rows =
    -- "with a single number": in a register; r0, ld [%sp], %g3 and ld [%g0 + %sp], %g3
    beside (just (above 96)) gives puts 3 (just (above 9))
    ∷ beside (just (above 92)) gives breaks 7 14
    ∷ on kept 0xC6038000 gives breaks 7 14
    ∷ on kept 0xC600000E gives breaks 7 0
    -- a set of numbers, though each is the offset of a scratch word; all numbers
    ∷ beside (num 4 (above 96) (above 100)) gives breaks 6 14
    ∷ beside_it (num 4 (above 96) (above 100)) gives breaks 6 1
    ∷ beside any_number gives breaks 6 14
    -- r14 twice, ld [%sp + %sp], %g3; an address; the return address
    ∷ on kept 0xC603800E gives breaks 6 14
    ∷ beside (at 0 0) gives breaks 6 14
    ∷ beside_it (at 0 0) gives breaks 6 1
    ∷ beside return_address gives breaks 6 14
    ∷ beside_it return_address gives breaks 6 1
    -- 5: kind 3, on either side; 4 before it: unset, on either side
    ∷ beside (start_or_null 0) gives breaks 5 1
    ∷ beside_it (start_or_null 0) gives breaks 5 1
    ∷ on kept 0xC6038001 gives breaks 4 1
    ∷ on kept ld_indexed gives breaks 4 1
    -- r14 is unset; it is an address, and a number: "a register like others"
    ∷ on bare (ld + 96) gives breaks 4 14
    ∷ on (put 14 (at 0 0) bare) (ld + 16) gives puts 3 (num 1 (below 5) (above 9))
    ∷ on (put 14 (at 0 0) bare) (ld + 96) gives breaks 7 14
    ∷ on (put 14 (just (above 96)) bare) (ld + 0) gives breaks 6 14
    ∷ []

-- "4 for an unset word"
abbrev pub unset_rows : List Row
unset_rows =
    on spare (ld + 96) gives breaks 4 33
    ∷ on spare (ld + 100) gives breaks 4 34
    ∷ on spare (ld + 104) gives breaks 4 35
    ∷ on spare (ld + 108) gives breaks 4 36
    ∷ on spare (ld + 112) gives breaks 4 37
    ∷ on spare (ld + 116) gives breaks 4 38
    -- to r0, ld [%sp + 96], %g0, of an unset one and of a set one
    ∷ on spare 0xC003A060 gives breaks 4 33
    ∷ on kept 0xC003A060 gives puts 0 (just (above 9))
    -- 7 and 8 before it: ld [%sp + 98]; ldub [%sp + 96]
    ∷ on spare (ld + 98) gives breaks 7 14
    ∷ on spare 0xC60BA060 gives breaks 8 14
    -- a store needs it not set
    ∷ on spare (st + 96) gives puts 32 fours
    ∷ on spare (st + 116) gives puts 37 fours
    ∷ []

-- st %g3, [%sp + 104] where r3 has an entry
abbrev pub keeping : Entry → Given
keeping e = on (put 3 e spare) (st + 104)

-- what is stored
abbrev pub store_rows : List Row
store_rows =
    -- "any set kind but 5 may be kept there"
    keeping (just (below 1)) gives puts 34 (just (below 1))
    ∷ keeping any_number gives puts 34 any_number
    ∷ keeping (addr 0 8 bias (above 16)) gives puts 34 (addr 0 8 bias (above 16))
    ∷ keeping (start_or_null 1) gives puts 34 (start_or_null 1)
    ∷ keeping return_address gives puts 34 return_address
    -- st %g0, [%sp + 96]; st %g4, [%sp + 96] with r4 unset, and before 7, st %g4, [%sp]
    ∷ on spare 0xC023A060 gives puts 32 (just bias)
    ∷ on spare 0xC823A060 gives breaks 4 4
    ∷ on spare 0xC823A000 gives breaks 4 4
    -- "storing its address too": st %sp, [%sp + 96]; before 7, st %sp, [%sp]; before 8, stb %sp, [%sp + 96]; st %sp, [%g0 + %sp]
    ∷ on spare 0xDC23A060 gives breaks 6 14
    ∷ on spare 0xDC23A000 gives breaks 6 14
    ∷ on spare 0xDC2BA060 gives breaks 6 14
    ∷ on spare 0xDC20000E gives breaks 6 0
    -- to a field, st %sp, [%g1]: of words; before 7, where there is no field; before 8, at bytes; before 10, of a field that is only read
    ∷ on (put 1 (at 0 16) spare) 0xDC204000 gives breaks 6 1
    ∷ on (put 1 (at 0 48) spare) 0xDC204000 gives breaks 6 1
    ∷ on (put 1 (at 0 0) spare) 0xDC204000 gives breaks 6 1
    ∷ on (put 1 (at 0 40) spare) 0xDC204000 gives breaks 6 1
    -- stb %sp, [%g1]; sth %sp, [%g1]
    ∷ on (put 1 (at 0 0) spare) 0xDC284000 gives breaks 6 1
    ∷ on (put 1 (at 0 8) spare) 0xDC304000 gives breaks 6 1
    -- after 4 and 5: st %sp, [%g1], unset and of kind 3
    ∷ on spare 0xDC204000 gives breaks 4 1
    ∷ on (put 1 (start_or_null 0) spare) 0xDC204000 gives breaks 5 1
    ∷ []

-- add, and, or, xor, sub, andn, orn, xnor, and the code-setting ones, then sll, srl, sra: of %sp and 0 to r3
abbrev pub computing : List ℕ
computing =
    0x8603A000 ∷ 0x860BA000 ∷ 0x8613A000 ∷ 0x861BA000 ∷ 0x8623A000 ∷ 0x862BA000 ∷ 0x8633A000 ∷ 0x863BA000
    ∷ 0x8683A000 ∷ 0x868BA000 ∷ 0x8693A000 ∷ 0x869BA000 ∷ 0x86A3A000 ∷ 0x86ABA000 ∷ 0x86B3A000 ∷ 0x86BBA000
    ∷ 0x872BA000 ∷ 0x8733A000 ∷ 0x873BA000 ∷ []

-- .. of %g0 and %sp
abbrev pub computing_by14 : List ℕ
computing_by14 =
    0x8600000E ∷ 0x8608000E ∷ 0x8610000E ∷ 0x8618000E ∷ 0x8620000E ∷ 0x8628000E ∷ 0x8630000E ∷ 0x8638000E
    ∷ 0x8680000E ∷ 0x8688000E ∷ 0x8690000E ∷ 0x8698000E ∷ 0x86A0000E ∷ 0x86A8000E ∷ 0x86B0000E ∷ 0x86B8000E
    ∷ 0x8728000E ∷ 0x8730000E ∷ 0x8738000E ∷ []

-- "6 for any other use of the frame"
abbrev pub computed_rows : List Row
computed_rows =
    map (λ (word : ℕ). on spare word gives breaks 6 14) computing
    ++ map (λ (word : ℕ). on spare word gives breaks 6 0) computing_by14
    -- or %sp, %g0, %g3; into r0: add %g0, %sp, %g0; cmp %sp, 0; cmp %sp, %g3
    ++ on spare 0x86138000 gives breaks 6 14
    ∷ on spare 0x8000000E gives breaks 6 0
    ∷ on spare 0x80A3A000 gives breaks 6 14
    ∷ on spare 0x80A38003 gives breaks 6 14
    -- add %sp, %sp, %g3; add %g1, %sp, %g3 of an address; add %sp, %g3, %g2 of a set
    ∷ on spare 0x8603800E gives breaks 6 14
    ∷ on (put 1 (at 0 0) spare) 0x8600400E gives breaks 6 1
    ∷ on spare 0x84038003 gives breaks 6 14
    -- 4 before it: add %sp, %g1, %g3, where r1 is unset
    ∷ on spare 0x86038001 gives breaks 4 1
    ∷ []

-- notes: "A store does not touch the note"; a load writes its register
abbrev pub note_rows : List Row
note_rows =
    -- st %g3, [%sp + 96] after a comparison of r3, of r14, with the codes set
    on (noted (compared 3 (above 9)) kept) (st + 96) gives writes 32 fours (compared 3 (above 9))
    ∷ on (noted (compared 14 bias) kept) (st + 96) gives writes 32 fours (compared 14 bias)
    ∷ on (noted some_codes kept) (st + 96) gives writes 32 fours some_codes
    -- ld [%sp + 96], %g3 after a comparison of r3, of r1, with the codes set
    ∷ on (noted (compared 3 (above 9)) kept) (ld + 96) gives writes 3 (just (above 9)) some_codes
    ∷ on (noted (compared 1 (above 9)) kept) (ld + 96) gives writes 3 (just (above 9)) (compared 1 (above 9))
    ∷ on (noted some_codes kept) (ld + 96) gives writes 3 (just (above 9)) some_codes
    ∷ []

-- all of them, but those of every offset
abbrev pub rule_rows : List Row
rule_rows = operand_rows ++ unset_rows ++ store_rows ++ computed_rows ++ note_rows
