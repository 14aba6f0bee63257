-- What words do to a row, and the conditions that they break with the register named (document 01, "What each word does to a row" and
-- "One word's conditions"). The words are those that GNU as gives; each is told beside its row, where %g1 to %g3 are r1 to r3.
use Rattle.std.specs.Prelude.{ℕ, List, [], ◌∷◌, ◌++◌}
use Rattle.policy.specs.declared.Policy.{Policy}
use Rattle.policy.specs.Build.{empty_policy, with_region, with_field}
use Rattle.rows.specs.declared.Entry.{Entry}
use Rattle.rows.specs.declared.Note.{Note}
use Rattle.rows.specs.declared.Row as Rows·
use Rattle.rules.specs.declared.Change.TheVariants.{Writes, Keeps, Breaks}
use Rattle.trials.specs.Case.{Row, ◌gives◌, Given, Outcome, change, changes}
use Rattle.trials.specs.Policies.{field_of}
use Rattle.trials.specs.Entries.{above, below, least, num, just, any_number, addr, at, start_or_null, return_address, no_codes, some_codes, compared, bare, put, noted}
use Rattle.v8.specs.Signed.{bias}

-- Region 0, of 64 bytes, has a field of each element, to be read and written: unsigned bytes at 0, signed bytes at 4, an unsigned half at
-- 6, signed halves at 8, words from -5 to 9 at 16, the start of region 1 at 32, the same or null at 36; then a word 7 at 40, to be read, and
-- signed halves at 44, to be written. No field holds the bytes from 48 on. Region 1, of 8 bytes, has none.
abbrev pub shelves : Policy
shelves =
    with_field
    (with_field
    (with_field
    (with_field
    (with_field
    (with_field
    (with_field
    (with_field
    (with_field (with_region (with_region empty_policy 64) 8) 0 (field_of 1 3 0 0 4 bias (above 255)))
    0
    (field_of 2 3 0 4 2 (below 128) (above 127)))
    0
    (field_of 3 3 0 6 1 bias (above 65535)))
    0
    (field_of 4 3 0 8 4 (below 32768) (above 32767)))
    0
    (field_of 5 3 0 16 4 (below 5) (above 9)))
    0
    (field_of 6 3 1 32 1 bias bias))
    0
    (field_of 7 3 1 36 1 bias bias))
    0
    (field_of 5 1 0 40 1 (above 7) (above 7)))
    0
    (field_of 4 2 0 44 2 (below 32768) (above 32767))

-- rows where r1, r1 and r2, r1 and r3, or r1 to r3 are set
abbrev pub one : Entry → Rows·.Row
one a = put 1 a bare

abbrev pub two : Entry → Entry → Rows·.Row
two a b = put 2 b (put 1 a bare)

abbrev pub stored : Entry → Entry → Rows·.Row
stored a c = put 3 c (put 1 a bare)

abbrev pub three : Entry → Entry → Entry → Rows·.Row
three a b c = put 3 c (put 2 b (put 1 a bare))

-- a word on such a row
abbrev pub on : Rows·.Row → ℕ → Given
on row w = change shelves row w

-- a register is written, and a note stands; the codes unset as before; the row is kept; a condition is broken: its number, the register
abbrev pub writes : ℕ → Entry → Note → Outcome
writes r e n = changes (Writes r e n)

abbrev pub puts : ℕ → Entry → Outcome
puts r e = writes r e no_codes

abbrev pub keeps : Outcome
keeps = changes Keeps

abbrev pub breaks : ℕ → ℕ → Outcome
breaks number r = changes (Breaks number r)

-- 0, 4, .. 36
abbrev pub fours : Entry
fours = num 4 bias (above 36)

-- "4 operand unset, in order rs1, rs2, stored rd: that register; 32 for codes, which always and never do not read"
abbrev pub unset_operand_rows : List Row
unset_operand_rows =
    -- add %g1,%g2,%g3; add %g1,4,%g1
    on bare 0x86004002 gives breaks 4 1
    ∷ on (one fours) 0x86004002 gives breaks 4 2
    ∷ on (two fours fours) 0x86004002 gives puts 3 (num 4 bias (above 72))
    ∷ on bare 0x82006004 gives breaks 4 1
    -- sll %g1,%g2,%g3; sll %g1,2,%g3
    ∷ on bare 0x87284002 gives breaks 4 1
    ∷ on (one fours) 0x87284002 gives breaks 4 2
    ∷ on bare 0x87286002 gives breaks 4 1
    ∷ on (one fours) 0x87286002 gives puts 3 (num 8 bias (above 144))
    -- ld [%g1+%g2],%g3
    ∷ on bare 0xC6004002 gives breaks 4 1
    ∷ on (one (at 0 16)) 0xC6004002 gives breaks 4 2
    -- st %g3,[%g1+%g2]
    ∷ on bare 0xC6204002 gives breaks 4 1
    ∷ on (one (at 0 16)) 0xC6204002 gives breaks 4 2
    ∷ on (two (at 0 16) (just bias)) 0xC6204002 gives breaks 4 3
    ∷ on (three (at 0 16) (just bias) (just (above 9))) 0xC6204002 gives keeps
    -- bl, ba and bn with the codes unset; bl with the codes set, and after a comparison
    ∷ on bare 0x06800002 gives breaks 4 32
    -- each of the fourteen conditions that read the codes, from be to bvc
    ∷ on bare 0x02800002 gives breaks 4 32
    ∷ on bare 0x04800002 gives breaks 4 32
    ∷ on bare 0x08800002 gives breaks 4 32
    ∷ on bare 0x0A800002 gives breaks 4 32
    ∷ on bare 0x0C800002 gives breaks 4 32
    ∷ on bare 0x0E800002 gives breaks 4 32
    ∷ on bare 0x12800002 gives breaks 4 32
    ∷ on bare 0x14800002 gives breaks 4 32
    ∷ on bare 0x16800002 gives breaks 4 32
    ∷ on bare 0x18800002 gives breaks 4 32
    ∷ on bare 0x1A800002 gives breaks 4 32
    ∷ on bare 0x1C800002 gives breaks 4 32
    ∷ on bare 0x1E800002 gives breaks 4 32
    ∷ on bare 0x10800002 gives keeps
    ∷ on bare 0x00800002 gives keeps
    ∷ on (noted some_codes bare) 0x06800002 gives keeps
    ∷ on (noted (compared 1 (above 9)) bare) 0x06800002 gives keeps
    -- the return reads r15: unset, not the return address, the return address
    ∷ on bare 0x81C3E008 gives breaks 4 15
    ∷ on (put 15 any_number bare) 0x81C3E008 gives breaks 6 15
    ∷ on (put 15 (start_or_null 1) bare) 0x81C3E008 gives breaks 6 15
    ∷ on (put 15 return_address bare) 0x81C3E008 gives keeps
    -- unset comes before 6, and a stored rd's before 5
    ∷ on (one (start_or_null 1)) 0x86004002 gives breaks 4 2
    ∷ on (one (start_or_null 1)) 0xC6204000 gives breaks 4 3
    ∷ []

-- "For others: 6 kinds with no rule; 16 result offset below 0 or above size", each naming rs1; and results
abbrev pub computed_rows : List Row
computed_rows =
    -- sub %g2,%g1,%g3; add %g1,%g2,%g3; srl %g1,24,%g2
    on (two (at 0 8) fours) 0x86208001 gives breaks 6 2
    ∷ on (two (just bias) return_address) 0x86004002 gives breaks 6 1
    ∷ on (one (at 0 8)) 0x85306018 gives breaks 6 1
    -- add %g1,4,%g2; sub %g1,4,%g2; add %g2,%g1,%g3, where r1 has the address
    ∷ on (one (at 0 60)) 0x84006004 gives puts 2 (at 0 64)
    ∷ on (one (at 0 64)) 0x84006004 gives breaks 16 1
    ∷ on (one (at 0 3)) 0x84206004 gives breaks 16 1
    ∷ on (two (at 0 64) fours) 0x86008001 gives breaks 16 2
    -- cmp %g1,8: the difference is tested though r0 does not take it
    ∷ on (one (at 0 8)) 0x80A06008 gives writes 0 (at 0 0) (compared 1 (above 8))
    ∷ on (one (at 0 4)) 0x80A06008 gives breaks 16 1
    -- or %g0,%g1,%g2: the return address and kind 3 move
    ∷ on (one return_address) 0x84100001 gives puts 2 return_address
    ∷ on (one (start_or_null 1)) 0x84100001 gives puts 2 (start_or_null 1)
    -- 7. "SETHI: the single number": sethi 5,%g2; sethi 0x200000,%g2; nop
    ∷ on bare 0x05000005 gives puts 2 (just (above 5120))
    ∷ on bare 0x05200000 gives puts 2 (just least)
    ∷ on bare 0x01000000 gives puts 0 (just bias)
    -- document 01 (*): the full number, srl %g1,24,%g2
    ∷ on (one any_number) 0x85306018 gives puts 2 (num 1 bias (above 255))
    ∷ []

-- "For memory: 5 an address operand of kind 3; 6 not one address and one number; 7 the bytes reached .. not inside one field"
abbrev pub reach_rows : List Row
reach_rows =
    -- 5 names the kind 3 register, rs1 first: ld [%g1],%g3; ld [%g2+%g1],%g3; ld [%g1+%g2],%g3
    on (one (start_or_null 0)) 0xC6004000 gives breaks 5 1
    ∷ on (two (start_or_null 0) fours) 0xC6008001 gives breaks 5 1
    ∷ on (two (start_or_null 0) (start_or_null 1)) 0xC6008001 gives breaks 5 2
    ∷ on (two (at 0 16) (start_or_null 1)) 0xC6004002 gives breaks 5 2
    -- 5 before 6
    ∷ on (two return_address (start_or_null 1)) 0xC6004002 gives breaks 5 2
    -- 6: ld [%g1+%g2],%g3 of two numbers, of two addresses; ld [%g1],%g3 of a number, of the return address; ld [%g0+8],%g3
    ∷ on (two fours fours) 0xC6004002 gives breaks 6 1
    ∷ on (two (at 0 16) (at 0 0)) 0xC6004002 gives breaks 6 1
    ∷ on (one any_number) 0xC6004000 gives breaks 6 1
    ∷ on (one return_address) 0xC6004000 gives breaks 6 1
    ∷ on bare 0xC6002008 gives breaks 6 0
    -- 7: ld [%g1],%g3 at the last word of a field, across two fields, in none, at the region's end, where there is no field
    ∷ on (one (at 0 28)) 0xC6004000 gives puts 3 (num 1 (below 5) (above 9))
    ∷ on (one (at 0 30)) 0xC6004000 gives breaks 7 1
    ∷ on (one (at 0 48)) 0xC6004000 gives breaks 7 1
    ∷ on (one (at 0 64)) 0xC6004000 gives breaks 7 1
    ∷ on (one (at 1 0)) 0xC6004000 gives breaks 7 1
    -- from the lowest to the highest offset
    ∷ on (one (addr 0 4 (above 16) (above 28))) 0xC6004000 gives puts 3 (num 1 (below 5) (above 9))
    ∷ on (one (addr 0 4 (above 16) (above 32))) 0xC6004000 gives breaks 7 1
    ∷ on (one (addr 0 4 (above 12) (above 28))) 0xC6004000 gives breaks 7 1
    ∷ on (one (addr 0 8 (above 16) (above 40))) 0xC6004000 gives breaks 7 1
    -- below 0: ldub [%g1-1],%g3; a sum that leaves 32 bits: ld [%g1+%g2],%g3; rs1 is named though it has the number: ld [%g0+%g1],%g3
    ∷ on (one (at 0 1)) 0xC6087FFF gives puts 3 (num 1 bias (above 255))
    ∷ on (one (at 0 0)) 0xC6087FFF gives breaks 7 1
    ∷ on (two (at 0 16) any_number) 0xC6004002 gives breaks 7 1
    ∷ on (one (at 0 48)) 0xC6000001 gives breaks 7 0
    -- number plus address: ld [%g2+%g1],%g3
    ∷ on (two (at 0 16) (num 4 bias (above 12))) 0xC6008001 gives puts 3 (num 1 (below 5) (above 9))
    ∷ on (two (at 0 16) (num 4 bias (above 16))) 0xC6008001 gives breaks 7 2
    ∷ []

-- "8 instruction not the field's element (LD and ST serve elements 5 to 7, stores either sign); 9 an offset off the element grid, or step not
-- a multiple of the width; 10 permission"
abbrev pub field_rule_rows : List Row
field_rule_rows =
    -- 8, loads: each at an element of the other sign, then of another width
    on (one (at 0 4)) 0xC6084000 gives breaks 8 1
    ∷ on (one (at 0 0)) 0xC6484000 gives breaks 8 1
    ∷ on (one (at 0 8)) 0xC6104000 gives breaks 8 1
    ∷ on (one (at 0 6)) 0xC6504000 gives breaks 8 1
    ∷ on (one (at 0 0)) 0xC6004000 gives breaks 8 1
    ∷ on (one (at 0 16)) 0xC6084000 gives breaks 8 1
    ∷ on (one (at 0 32)) 0xC6504000 gives breaks 8 1
    -- 8, stores: another width; either sign serves
    ∷ on (stored (at 0 6) (just bias)) 0xC6284000 gives breaks 8 1
    ∷ on (stored (at 0 0) (just bias)) 0xC6304000 gives breaks 8 1
    ∷ on (stored (at 0 8) (just bias)) 0xC6204000 gives breaks 8 1
    ∷ on (stored (at 0 0) (just bias)) 0xC6284000 gives keeps
    ∷ on (stored (at 0 4) (just bias)) 0xC6284000 gives keeps
    ∷ on (stored (at 0 6) (just bias)) 0xC6304000 gives keeps
    ∷ on (stored (at 0 8) (just bias)) 0xC6304000 gives keeps
    -- 9: ldsh and ld off the grid; with too small a step, of either operand
    ∷ on (one (at 0 9)) 0xC6504000 gives breaks 9 1
    ∷ on (one (addr 0 1 (above 8) (above 14))) 0xC6504000 gives breaks 9 1
    ∷ on (one (addr 0 2 (above 8) (above 14))) 0xC6504000 gives puts 3 (num 1 (below 32768) (above 32767))
    ∷ on (one (at 0 18)) 0xC6004000 gives breaks 9 1
    ∷ on (one (addr 0 4 (above 18) (above 26))) 0xC6004000 gives breaks 9 1
    ∷ on (one (addr 0 2 (above 16) (above 28))) 0xC6004000 gives breaks 9 1
    ∷ on (two (at 0 16) (num 2 bias (above 12))) 0xC6004002 gives breaks 9 1
    ∷ on (two (addr 0 8 (above 16) (above 24)) (num 4 bias (above 4))) 0xC6004002 gives puts 3 (num 1 (below 5) (above 9))
    -- 10: a load where there is only writing, a store where there is only reading
    ∷ on (one (at 0 44)) 0xC6504000 gives breaks 10 1
    ∷ on (stored (at 0 44) (just bias)) 0xC6304000 gives keeps
    ∷ on (stored (at 0 40) (just (above 7))) 0xC6204000 gives breaks 10 1
    -- two at once: 7 and 8, 8 and 9, 9 and 10, 10 and 11
    ∷ on (one (at 0 2)) 0xC6004000 gives breaks 7 1
    ∷ on (one (at 0 10)) 0xC6004000 gives breaks 8 1
    ∷ on (one (at 0 45)) 0xC6504000 gives breaks 9 1
    ∷ on (stored (at 0 40) (just (above 8))) 0xC6204000 gives breaks 10 1
    ∷ []

-- 7. "A load: the field's lo to hi, step 1; or start of the target; or kind 3."
abbrev pub load_rows : List Row
load_rows =
    on (one (at 0 0)) 0xC6084000 gives puts 3 (num 1 bias (above 255))
    ∷ on (one (at 0 4)) 0xC6484000 gives puts 3 (num 1 (below 128) (above 127))
    ∷ on (one (at 0 6)) 0xC6104000 gives puts 3 (num 1 bias (above 65535))
    ∷ on (one (at 0 8)) 0xC6504000 gives puts 3 (num 1 (below 32768) (above 32767))
    ∷ on (one (at 0 16)) 0xC6004000 gives puts 3 (num 1 (below 5) (above 9))
    ∷ on (one (at 0 32)) 0xC6004000 gives puts 3 (at 1 0)
    ∷ on (one (at 0 36)) 0xC6004000 gives puts 3 (start_or_null 1)
    -- lo = hi: a single number
    ∷ on (one (at 0 40)) 0xC6004000 gives puts 3 (just (above 7))
    -- a load to r0, ld [%g1],%g0, is an access all the same
    ∷ on (one (at 0 40)) 0xC0004000 gives puts 0 (just (above 7))
    ∷ on (one (at 0 48)) 0xC0004000 gives breaks 7 1
    ∷ []

-- "11 stored entry does not fit the element, register rd"
abbrev pub store_rows : List Row
store_rows =
    -- bytes: stb %g3,[%g1]
    on (stored (at 0 0) (num 1 bias (above 255))) 0xC6284000 gives keeps
    ∷ on (stored (at 0 0) (just (above 256))) 0xC6284000 gives breaks 11 3
    ∷ on (stored (at 0 0) (just (below 1))) 0xC6284000 gives breaks 11 3
    ∷ on (stored (at 0 4) (num 1 (below 128) (above 127))) 0xC6284000 gives keeps
    ∷ on (stored (at 0 4) (just (above 128))) 0xC6284000 gives breaks 11 3
    -- halves: sth %g3,[%g1]
    ∷ on (stored (at 0 6) (just (above 65535))) 0xC6304000 gives keeps
    ∷ on (stored (at 0 6) (just (below 1))) 0xC6304000 gives breaks 11 3
    ∷ on (stored (at 0 8) (just (above 65535))) 0xC6304000 gives breaks 11 3
    -- words: st %g3,[%g1]; neither addresses nor the return address
    ∷ on (stored (at 0 16) (num 2 (below 5) (above 9))) 0xC6204000 gives keeps
    ∷ on (stored (at 0 16) (num 1 (below 6) (above 9))) 0xC6204000 gives breaks 11 3
    ∷ on (stored (at 0 16) (at 1 0)) 0xC6204000 gives breaks 11 3
    ∷ on (stored (at 0 16) (start_or_null 1)) 0xC6204000 gives breaks 11 3
    ∷ on (stored (at 0 16) return_address) 0xC6204000 gives breaks 11 3
    -- the start of region 1
    ∷ on (stored (at 0 32) (at 1 0)) 0xC6204000 gives keeps
    ∷ on (stored (at 0 32) (at 1 8)) 0xC6204000 gives breaks 11 3
    ∷ on (stored (at 0 32) (at 0 0)) 0xC6204000 gives breaks 11 3
    ∷ on (stored (at 0 32) (just bias)) 0xC6204000 gives breaks 11 3
    ∷ on (stored (at 0 32) (start_or_null 1)) 0xC6204000 gives breaks 11 3
    -- the same or null; st %g0,[%g1]
    ∷ on (stored (at 0 36) (at 1 0)) 0xC6204000 gives keeps
    ∷ on (stored (at 0 36) (just bias)) 0xC6204000 gives keeps
    ∷ on (stored (at 0 36) (start_or_null 1)) 0xC6204000 gives keeps
    ∷ on (stored (at 0 36) (start_or_null 0)) 0xC6204000 gives breaks 11 3
    ∷ on (stored (at 0 36) (just (above 4))) 0xC6204000 gives breaks 11 3
    ∷ on (one (at 0 36)) 0xC0204000 gives keeps
    ∷ []

-- a region whose only field is 30 writable bytes at 0, element 1, 32 to 126
abbrev pub named : Policy
named = with_field (with_region empty_policy 32) 0 (field_of 1 2 0 0 30 (above 32) (above 126))

-- r8 its start, and r1
abbrev pub letter : Entry → Rows·.Row
letter e = put 1 e (put 8 (at 0 0) bare)

-- document 01: r1 in 32 to 126, C22A201D (*) and C22A201E (*); r1 in 32 to 127; C22A201D is a byte to r8+29
abbrev pub name_rows : List Row
name_rows =
    change named (letter (num 1 (above 32) (above 126))) 0xC22A201D gives keeps
    ∷ change named (letter (num 1 (above 32) (above 126))) 0xC22A201E gives breaks 7 8
    ∷ change named (letter (num 1 (above 32) (above 127))) 0xC22A201D gives breaks 11 1
    ∷ []

-- "A code-setting word makes note 1, except SUBcc of r1 to r31 by a single number with rd ≠ rs1: note 2. Writing the noted register turns
-- note 2 into 1."
abbrev pub note_rows : List Row
note_rows =
    -- cmp %g1,9; cmp %g1,%g2 with a single number and with a set; cmp %g1,0 of kind 3
    on (one fours) 0x80A06009 gives writes 0 (num 4 (below 9) (above 27)) (compared 1 (above 9))
    ∷ on (one fours) 0x80A07FF7 gives writes 0 (num 4 (above 9) (above 45)) (compared 1 (below 9))
    ∷ on (two fours (just (above 9))) 0x80A04002 gives writes 0 (num 4 (below 9) (above 27)) (compared 1 (above 9))
    ∷ on (two (just (above 9)) fours) 0x80A04002 gives writes 0 (num 4 (below 27) (above 9)) some_codes
    ∷ on (one (start_or_null 1)) 0x80A06000 gives writes 0 (start_or_null 1) (compared 1 bias)
    -- subcc %g1,9,%g2; subcc %g1,%g2,%g2; subcc %g1,%g0,%g2
    ∷ on (one fours) 0x84A06009 gives writes 2 (num 4 (below 9) (above 27)) (compared 1 (above 9))
    ∷ on (two fours (just (above 9))) 0x84A04002 gives writes 2 (num 4 (below 9) (above 27)) (compared 1 (above 9))
    ∷ on (one (start_or_null 1)) 0x84A04000 gives writes 2 (start_or_null 1) (compared 1 bias)
    -- rd = rs1: subcc %g1,9,%g1; of r0: subcc %g0,9,%g2
    ∷ on (one fours) 0x82A06009 gives writes 1 (num 4 (below 9) (above 27)) some_codes
    ∷ on bare 0x84A02009 gives writes 2 (just (below 9)) some_codes
    -- not SUBcc: addcc %g1,9,%g2; andcc %g1,7,%g2; orcc %g0,%g1,%g2
    ∷ on (one fours) 0x84806009 gives writes 2 (num 4 (above 9) (above 45)) some_codes
    ∷ on (one fours) 0x84886007 gives writes 2 (num 1 bias (above 7)) some_codes
    ∷ on (one fours) 0x84900001 gives writes 2 fours some_codes
    -- the noted register is written: add %g1,4,%g1; sll %g1,2,%g1; or %g0,%g1,%g1, though the value stays; sethi 5,%g1; ld [%g1],%g1
    ∷ on (noted (compared 1 (above 9)) (one fours)) 0x82006004 gives writes 1 (num 4 (above 4) (above 40)) some_codes
    ∷ on (noted (compared 1 (above 9)) (one fours)) 0x83286002 gives writes 1 (num 8 bias (above 144)) some_codes
    ∷ on (noted (compared 1 (above 9)) (one fours)) 0x82100001 gives writes 1 fours some_codes
    ∷ on (noted (compared 1 (above 9)) (one fours)) 0x03000005 gives writes 1 (just (above 5120)) some_codes
    ∷ on (noted (compared 1 (above 9)) (one (at 0 40))) 0xC2004000 gives writes 1 (just (above 7)) some_codes
    -- another register is written: add %g1,4,%g2; sethi 5,%g2; ld [%g1],%g2; with the codes only set
    ∷ on (noted (compared 1 (above 9)) (one fours)) 0x84006004 gives writes 2 (num 4 (above 4) (above 40)) (compared 1 (above 9))
    ∷ on (noted (compared 1 (above 9)) (one fours)) 0x05000005 gives writes 2 (just (above 5120)) (compared 1 (above 9))
    ∷ on (noted (compared 1 (above 9)) (one (at 0 40))) 0xC4004000 gives writes 2 (just (above 7)) (compared 1 (above 9))
    ∷ on (noted some_codes (one fours)) 0x82006004 gives writes 1 (num 4 (above 4) (above 40)) some_codes
    -- a store writes no register: st %g1,[%g2]
    ∷ on (noted (compared 1 (above 9)) (two (just (above 9)) (at 0 16))) 0xC2208000 gives keeps
    -- a new comparison replaces the old: subcc %g1,9,%g2 where r2 was compared, and where r1 was
    ∷ on (noted (compared 2 (above 5)) (two fours fours)) 0x84A06009 gives writes 2 (num 4 (below 9) (above 27)) (compared 1 (above 9))
    ∷ on (noted (compared 1 (above 5)) (one fours)) 0x84A06009 gives writes 2 (num 4 (below 9) (above 27)) (compared 1 (above 9))
    ∷ []

-- all of them
abbrev pub change_rows : List Row
change_rows =
    unset_operand_rows ++ computed_rows ++ reach_rows ++ field_rule_rows ++ load_rows ++ store_rows ++ name_rows ++ note_rows
