-- Whole runs (document 01, "Machine run"; V8, appendix B). The words are those that GNU as gives; each is told beside
-- its row, where %g0 to %g7 are r0 to r7.
use Rattle.std.specs.Prelude.{ℕ, ◌+◌, Bool, true, false, List, [], ◌∷◌, ◌++◌, replicate}
use Rattle.policy.specs.declared.Policy.{Policy}
use Rattle.policy.specs.Build.{empty_policy, with_region, with_field}
use Rattle.memory.specs.Frame.{frame_bytes, scratch_count}
use Rattle.step.specs.declared.Registers.{Registers}
use Rattle.machine_steps.specs.declared.End.{End}
use Rattle.machine_steps.specs.declared.End.TheVariants.{Returned, Spent, Fault, Refused}
use Rattle.trials.specs.Case.{Row, ◌gives◌, Given, Outcome, runs, ends, codes_at}
use Rattle.trials.specs.Policies.{field_of, uniform}
use Rattle.v8.specs.Signed.{bias}

-- Region 0 has unsigned bytes at 0 to 3, to be read and written, and a signed word at 4, to be read.
-- Region 1 has unsigned bytes at 0 to 3, to be written, and a signed half at 4, to be read and written.
abbrev pub two_regions : Policy
two_regions =
    with_field
    (with_field
    (with_field
    (with_field (with_region (with_region empty_policy 8) 8) 0 (field_of 1 3 0 0 4 bias (bias + 255)))
    0
    (field_of 5 1 0 4 1 bias (bias + 9)))
    1
    (field_of 1 2 0 0 4 bias (bias + 255)))
    1
    (field_of 4 3 0 4 1 bias (bias + 9))

-- one region, with unsigned bytes at 4 to 7
abbrev pub later_field : Policy
later_field = with_field (with_region empty_policy 8) 0 (field_of 1 3 0 4 4 bias (bias + 255))

-- region 0 lies above region 1
abbrev pub two_bases : List ℕ
two_bases = 0x3000 ∷ 0x2000 ∷ []

-- region 0's part of the memory, then region 1's
abbrev pub sixteen_bytes : List ℕ
sixteen_bytes = 0xA0 ∷ 0xA1 ∷ 0xA2 ∷ 0xA3 ∷ 0xA4 ∷ 0xA5 ∷ 0xA6 ∷ 0xA7 ∷ 0xB0 ∷ 0xB1 ∷ 0xB2 ∷ 0xB3 ∷ 0xB4 ∷ 0xB5 ∷ 0xB6 ∷ 0xB7 ∷ []

-- where the frame lies (document 02, request 7), apart from the regions of all runs here; what is lent of it comes after the regions' parts
abbrev pub frame_base : ℕ
frame_base = 0x8000

abbrev pub framed : List ℕ → List ℕ
framed memory = memory ++ replicate frame_bytes 0

-- registers: r0 comes as an unset 7, r1 and r2 hold the bases, r3 an address in no region, r4 is unset and 5, r5 to r7 are 0;
-- given are r15 and its mark, and the codes' digit and their mark; the scratch words are unset
abbrev pub registers_of : ℕ → Bool → ℕ → Bool → Registers
registers_of link linked digit coded =
    record {
      values = 7 ∷ 0x3000 ∷ 0x2000 ∷ 0x12345678 ∷ 5 ∷ replicate 10 0 ++ link ∷ replicate 16 0;
      marks = false ∷ true ∷ true ∷ true ∷ false ∷ true ∷ true ∷ true ∷ replicate 7 false ++ linked ∷ replicate (16 + scratch_count) false;
      codes = record { value = codes_at digit; set = coded };
    }

-- r15 is the return address, the codes are unset and Z
abbrev pub start : Registers
start = registers_of 0x1000 true 4 false

-- the same with the codes set, and Z
abbrev pub equal : Registers
equal = registers_of 0x1000 true 4 true

-- a run with the frame there: policy, words, bases, return address, registers, allowance, the regions' parts of the memory
abbrev pub placed : Policy → List ℕ → List ℕ → ℕ → Registers → ℕ → List ℕ → Given
placed p words bases returns g allowance memory = runs p words bases returns frame_base g allowance (framed memory)

-- registers, an allowance and words
abbrev pub from : Registers → ℕ → List ℕ → Given
from g allowance words = placed two_regions words two_bases 0x1000 g allowance sixteen_bytes

-- words, run from the start, with an allowance of 9
abbrev pub code : List ℕ → Given
code words = from start 9 words

-- one word and one step
abbrev pub one : ℕ → Given
one word = from start 1 (word ∷ [])

-- a return, with an r15 and its mark
abbrev pub back : ℕ → Bool → Given
back link linked = from (registers_of link linked 4 false) 2 (0x81C3E008 ∷ 0x8A016001 ∷ [])

-- a branch to word 3, its slot and words 2 and 3: r5, r6 and r7 count how often each of these is run
abbrev pub branching : Registers → ℕ → Given
branching g word = from g 9 (word ∷ 0x8A016001 ∷ 0x8C01A001 ∷ 0x8E01E001 ∷ [])

-- the nop, run once with an allowance of 1: bases, return address, memory
abbrev pub laid : List ℕ → ℕ → List ℕ → Given
laid bases returns memory = placed two_regions (0x01000000 ∷ []) bases returns start 1 memory

-- an end after some steps, with r5, r6 and r7, the codes and the memory; r0 is a set zero, r1 to r4 are as at the start
abbrev pub left : End → ℕ → ℕ → ℕ → ℕ → ℕ → List ℕ → Outcome
left e steps v5 v6 v7 digit memory =
    ends e steps (0 ∷ 0x3000 ∷ 0x2000 ∷ 0x12345678 ∷ 5 ∷ v5 ∷ v6 ∷ v7 ∷ []) (true ∷ true ∷ true ∷ true ∷ false ∷ true ∷ true ∷ true ∷ []) digit (framed memory)

-- the same where neither codes nor memory have changed
abbrev pub counted : End → ℕ → ℕ → ℕ → ℕ → Outcome
counted e steps v5 v6 v7 = left e steps v5 v6 v7 4 sixteen_bytes

-- an end after some steps that changed nothing
abbrev pub kept : End → ℕ → Outcome
kept e steps = counted e steps 0 0 0

-- the first word's step faults
abbrev pub faults : ℕ → Outcome
faults n = kept (Fault n) 0

-- one step that puts a value into r5
abbrev pub puts : ℕ → Outcome
puts v = counted Spent 1 v 0 0

-- one step that stores
abbrev pub stores : List ℕ → Outcome
stores memory = left Spent 1 0 0 0 4 memory

-- all is handed back as it came: r0 too
abbrev pub handed_back : ℕ → List ℕ → Outcome
handed_back n memory =
    ends (Refused n) 0 (7 ∷ 0x3000 ∷ 0x2000 ∷ 0x12345678 ∷ 5 ∷ 0 ∷ 0 ∷ 0 ∷ []) (false ∷ true ∷ true ∷ true ∷ false ∷ true ∷ true ∷ true ∷ []) 4 (framed memory)

-- Branches and their slots. "It is skipped when the annul bit is set and the condition is always or the branch isn't taken"; "a
-- skipped slot is no step". Each run leaves the code after word 3: 101.
abbrev pub branch_rows : List Row
branch_rows =
    -- be and be,a: taken, the slot runs
    branching equal 0x02800003 gives left (Fault 101) 3 1 0 1 20 sixteen_bytes
    ∷ branching equal 0x22800003 gives left (Fault 101) 3 1 0 1 20 sixteen_bytes
    -- bne: not taken, the slot runs; bne,a: it is skipped
    ∷ branching equal 0x12800003 gives left (Fault 101) 4 1 1 1 20 sixteen_bytes
    ∷ branching equal 0x32800003 gives left (Fault 101) 3 0 1 1 20 sixteen_bytes
    -- ba: the slot runs; ba,a: it is skipped; neither reads the codes
    ∷ branching start 0x10800003 gives counted (Fault 101) 3 1 0 1
    ∷ branching start 0x30800003 gives counted (Fault 101) 2 0 0 1
    -- bn: the slot runs; bn,a: it is skipped; neither reads the codes
    ∷ branching start 0x00800003 gives counted (Fault 101) 4 1 1 1
    ∷ branching start 0x20800003 gives counted (Fault 101) 3 0 1 1
    -- backwards: ba,a to the word before; ba to the word before, with a slot
    ∷ from start 5 (0x8A016001 ∷ 0x30BFFFFF ∷ []) gives counted Spent 5 3 0 0
    ∷ from start 5 (0x8A016001 ∷ 0x10BFFFFF ∷ 0x8C01A001 ∷ []) gives counted Spent 5 2 1 0
    -- ba,a over a word that is not read, and over a return: a skipped slot is not fetched
    ∷ code (0x30800002 ∷ 0 ∷ 0x8A016001 ∷ []) gives counted (Fault 101) 2 1 0 0
    ∷ code (0x30800002 ∷ 0x81C3E008 ∷ 0x8A016001 ∷ []) gives counted (Fault 101) 2 1 0 0
    ∷ []

-- Returns and allowances. "It ends returned (after the return's slot, also where that was the last step allowed), spent (exactly the
-- allowance run), or at a fault"
abbrev pub end_rows : List Row
end_rows =
    -- retl and its slot: allowances 3, 2, 1, 0; spent at once, r0 is a set zero
    from start 3 (0x81C3E008 ∷ 0x8A016001 ∷ []) gives counted Returned 2 1 0 0
    ∷ from start 2 (0x81C3E008 ∷ 0x8A016001 ∷ []) gives counted Returned 2 1 0 0
    ∷ from start 1 (0x81C3E008 ∷ 0x8A016001 ∷ []) gives kept Spent 1
    ∷ from start 0 (0x81C3E008 ∷ 0x8A016001 ∷ []) gives kept Spent 0
    -- a branch over a word to the return
    ∷ code (0x30800002 ∷ 0 ∷ 0x81C3E008 ∷ 0x8A016001 ∷ []) gives counted Returned 3 1 0 0
    -- a step that would fault after the allowance is run
    ∷ from start 1 (0x8A016001 ∷ 0 ∷ []) gives counted Spent 1 1 0 0
    ∷ from start 0 (0 ∷ []) gives kept Spent 0
    -- the return address may be 0
    ∷ placed two_regions (0x81C3E008 ∷ 0x8A016001 ∷ []) two_bases 0 (registers_of 0 true 4 false) 2 sixteen_bytes gives counted Returned 2 1 0 0
    ∷ []

-- "101 word outside, unread, or a transfer in a slot"
abbrev pub no_word_rows : List Row
no_word_rows =
    -- ba to word 4 of 2, ba to the word before word 0: after the slot; ba,a likewise: at once
    code (0x10800004 ∷ 0x8A016001 ∷ []) gives counted (Fault 101) 2 1 0 0
    ∷ code (0x10BFFFFF ∷ 0x8A016001 ∷ []) gives counted (Fault 101) 2 1 0 0
    ∷ code (0x30800004 ∷ 0x8A016001 ∷ []) gives kept (Fault 101) 1
    ∷ code (0x30BFFFFF ∷ 0x8A016001 ∷ []) gives kept (Fault 101) 1
    -- past the last word; a return without a slot
    ∷ code (0x8A016001 ∷ []) gives counted (Fault 101) 1 1 0 0
    ∷ code (0x81C3E008 ∷ []) gives kept (Fault 101) 1
    -- a word that is not read; one in a slot
    ∷ code (0 ∷ []) gives faults 101
    ∷ code (0x10800002 ∷ 0 ∷ 0x8A016001 ∷ []) gives kept (Fault 101) 1
    -- a privileged word, rd %psr,%g5; lda [%g1]10,%g5 in a slot; one that is skipped
    ∷ code (0x8B480000 ∷ []) gives faults 101
    ∷ code (0x10800002 ∷ 0xCA804140 ∷ 0x8A016001 ∷ []) gives kept (Fault 101) 1
    ∷ code (0x30800002 ∷ 0x8B480000 ∷ 0x8A016001 ∷ []) gives counted (Fault 101) 2 1 0 0
    -- a transfer in the slot of ba, of bn and of the return
    ∷ code (0x10800002 ∷ 0x10800002 ∷ 0x8A016001 ∷ 0x8C01A001 ∷ []) gives kept (Fault 101) 1
    ∷ code (0x10800002 ∷ 0x81C3E008 ∷ 0x8A016001 ∷ []) gives kept (Fault 101) 1
    ∷ code (0x00800002 ∷ 0x10800002 ∷ 0x8A016001 ∷ []) gives kept (Fault 101) 1
    ∷ code (0x81C3E008 ∷ 0x81C3E008 ∷ 0x8A016001 ∷ []) gives kept (Fault 101) 1
    ∷ []

-- "102 unset read"
abbrev pub unset_rows : List Row
unset_rows =
    -- add %g4,1,%g5; add %g1,%g4,%g5; sll %g1,%g4,%g5
    one 0x8A012001 gives faults 102
    ∷ one 0x8A004004 gives faults 102
    ∷ one 0x8B284004 gives faults 102
    -- ldub [%g4],%g5; ldub [%g1+%g4],%g5; stb %g4,[%g1]
    ∷ one 0xCA090000 gives faults 102
    ∷ one 0xCA084004 gives faults 102
    ∷ one 0xC8284000 gives faults 102
    -- each of the fourteen conditions that read the codes, with the codes unset; a return with r15 unset
    ∷ one 0x02800003 gives faults 102
    ∷ one 0x04800003 gives faults 102
    ∷ one 0x06800003 gives faults 102
    ∷ one 0x08800003 gives faults 102
    ∷ one 0x0A800003 gives faults 102
    ∷ one 0x0C800003 gives faults 102
    ∷ one 0x0E800003 gives faults 102
    ∷ one 0x12800003 gives faults 102
    ∷ one 0x14800003 gives faults 102
    ∷ one 0x16800003 gives faults 102
    ∷ one 0x18800003 gives faults 102
    ∷ one 0x1A800003 gives faults 102
    ∷ one 0x1C800003 gives faults 102
    ∷ one 0x1E800003 gives faults 102
    ∷ back 0x1000 false gives faults 102
    -- what is written need not be set, and is set then: add %g1,1,%g4; ldub [%g1+1],%g4
    ∷ one 0x88006001 gives ends Spent 1 (0 ∷ 0x3000 ∷ 0x2000 ∷ 0x12345678 ∷ 0x3001 ∷ 0 ∷ 0 ∷ 0 ∷ []) (replicate 8 true) 4 (framed sixteen_bytes)
    ∷ one 0xC8086001 gives ends Spent 1 (0 ∷ 0x3000 ∷ 0x2000 ∷ 0x12345678 ∷ 0xA1 ∷ 0 ∷ 0 ∷ 0 ∷ []) (replicate 8 true) 4 (framed sixteen_bytes)
    ∷ []

-- "103 not inside one field of matching element and permission"
abbrev pub field_fault_rows : List Row
field_fault_rows =
    -- in no region: ldub [%g3],%g5; one byte below region 0, ldub [%g1-1],%g5; one byte above it, ldub [%g1+8],%g5; ldub [%g0+5],%g5
    one 0xCA08C000 gives faults 103
    ∷ one 0xCA087FFF gives faults 103
    ∷ one 0xCA086008 gives faults 103
    ∷ one 0xCA082005 gives faults 103
    -- in region 1 and in no field: stb %g3,[%g2+6]
    ∷ one 0xC628A006 gives faults 103
    -- below the first field of a region: ldub [%g1+3],%g5
    ∷ placed later_field (0xCA086003 ∷ []) (0x3000 ∷ []) 0x1000 start 1 (replicate 8 0) gives left (Fault 103) 0 0 0 0 4 (replicate 8 0)
    -- another element: ldsb, lduh and ld [%g1],%g5; lduh [%g2+4],%g5; stb %g3,[%g1+4]; stb %g3,[%g2+4]
    ∷ one 0xCA484000 gives faults 103
    ∷ one 0xCA104000 gives faults 103
    ∷ one 0xCA004000 gives faults 103
    ∷ one 0xCA10A004 gives faults 103
    ∷ one 0xC6286004 gives faults 103
    ∷ one 0xC628A004 gives faults 103
    -- no permission: st %g3,[%g1+4]; ldub [%g2],%g5
    ∷ one 0xC6206004 gives faults 103
    ∷ one 0xCA088000 gives faults 103
    ∷ []

-- "104 unaligned, r15 at a return too"; "105 return when r15 isn't the return address"
abbrev pub address_rows : List Row
address_rows =
    -- ld [%g1+2],%g5; lduh [%g2+5],%g5; sth %g3,[%g2+5]; st %g3,[%g1+6]
    one 0xCA006002 gives faults 104
    ∷ one 0xCA10A005 gives faults 104
    ∷ one 0xC630A005 gives faults 104
    ∷ one 0xC6206006 gives faults 104
    -- returns: 104 before 105
    ∷ back 0x1001 true gives faults 104
    ∷ back 0x1002 true gives faults 104
    ∷ back 0x1004 true gives faults 105
    ∷ back 0xFF8 true gives faults 105
    ∷ back 0x1000 true gives counted Returned 2 1 0 0
    ∷ []

-- Two faults of one step: "in that order", 101, 102, 104, 103, 105.
abbrev pub pair_rows : List Row
pair_rows =
    -- 101 before 102: be in a slot, codes unset; retl in a slot, r15 unset; 101 before 104 and 105: retl in a slot
    code (0x10800002 ∷ 0x02800002 ∷ 0x8A016001 ∷ []) gives kept (Fault 101) 1
    ∷ from (registers_of 0x1000 false 4 false) 9 (0x10800002 ∷ 0x81C3E008 ∷ 0x8A016001 ∷ []) gives kept (Fault 101) 1
    ∷ from (registers_of 0x1002 true 4 false) 9 (0x10800002 ∷ 0x81C3E008 ∷ 0x8A016001 ∷ []) gives kept (Fault 101) 1
    ∷ from (registers_of 0x1004 true 4 false) 9 (0x10800002 ∷ 0x81C3E008 ∷ 0x8A016001 ∷ []) gives kept (Fault 101) 1
    -- 102 before 104: ld [%g4],%g5; st %g4,[%g1+2]; a return
    ∷ one 0xCA010000 gives faults 102
    ∷ one 0xC8206002 gives faults 102
    ∷ back 0x1002 false gives faults 102
    -- 102 before 103: stb %g4,[%g3]; 102 before 105: a return
    ∷ one 0xC828C000 gives faults 102
    ∷ back 0x1004 false gives faults 102
    -- 104 before 103: ld [%g3+1],%g5
    ∷ one 0xCA00E001 gives faults 104
    ∷ []

-- "A faulting step changes nothing and isn't counted": what the steps before it did stays.
abbrev pub stop_rows : List Row
stop_rows =
    -- an add, then subcc %g4,1,%g5, which would set r5 and the codes
    code (0x8A016001 ∷ 0x8AA12001 ∷ []) gives counted (Fault 102) 1 1 0 0
    -- subcc %g0,1,%g6, then ld [%g1+2],%g5
    ∷ code (0x8CA02001 ∷ 0xCA006002 ∷ []) gives left (Fault 104) 1 0 0xFFFFFFFF 0 25 sixteen_bytes
    -- stb %g3,[%g1+1], then st %g3,[%g1+4]
    ∷ code (0xC6286001 ∷ 0xC6206004 ∷ []) gives left (Fault 103) 1 0 0 0 4 (0xA0 ∷ 0x78 ∷ 0xA2 ∷ 0xA3 ∷ 0xA4 ∷ 0xA5 ∷ 0xA6 ∷ 0xA7 ∷ 0xB0 ∷ 0xB1 ∷ 0xB2 ∷ 0xB3 ∷ 0xB4 ∷ 0xB5 ∷ 0xB6 ∷ 0xB7 ∷ [])
    -- a return whose slot faults: ldub [%g3],%g5
    ∷ code (0x81C3E008 ∷ 0xCA08C000 ∷ []) gives kept (Fault 103) 1
    ∷ []

-- Loads and stores in a run. "A store is written into that region's part of the lent memory, which begins after the parts of all
-- lower regions."
abbrev pub access_rows : List Row
access_rows =
    -- ldub [%g1+3],%g5; ld [%g1+4],%g5; ldsh [%g2+4],%g5
    one 0xCA086003 gives puts 0xA3
    ∷ one 0xCA006004 gives puts 0xA4A5A6A7
    ∷ one 0xCA50A004 gives puts 0xFFFFB4B5
    -- stb %g3,[%g1+1]: the bytes beside it stay; stb %g3,[%g2+3]; sth %g3,[%g2+4]
    ∷ one 0xC6286001 gives stores (0xA0 ∷ 0x78 ∷ 0xA2 ∷ 0xA3 ∷ 0xA4 ∷ 0xA5 ∷ 0xA6 ∷ 0xA7 ∷ 0xB0 ∷ 0xB1 ∷ 0xB2 ∷ 0xB3 ∷ 0xB4 ∷ 0xB5 ∷ 0xB6 ∷ 0xB7 ∷ [])
    ∷ one 0xC628A003 gives stores (0xA0 ∷ 0xA1 ∷ 0xA2 ∷ 0xA3 ∷ 0xA4 ∷ 0xA5 ∷ 0xA6 ∷ 0xA7 ∷ 0xB0 ∷ 0xB1 ∷ 0xB2 ∷ 0x78 ∷ 0xB4 ∷ 0xB5 ∷ 0xB6 ∷ 0xB7 ∷ [])
    ∷ one 0xC630A004 gives stores (0xA0 ∷ 0xA1 ∷ 0xA2 ∷ 0xA3 ∷ 0xA4 ∷ 0xA5 ∷ 0xA6 ∷ 0xA7 ∷ 0xB0 ∷ 0xB1 ∷ 0xB2 ∷ 0xB3 ∷ 0x56 ∷ 0x78 ∷ 0xB6 ∷ 0xB7 ∷ [])
    -- a store and the load of what it stored: stb %g3,[%g1+3]; ldub [%g1+3],%g5
    ∷ from start 2 (0xC6286003 ∷ 0xCA086003 ∷ []) gives left Spent 2 0x78 0 0 4 (0xA0 ∷ 0xA1 ∷ 0xA2 ∷ 0x78 ∷ 0xA4 ∷ 0xA5 ∷ 0xA6 ∷ 0xA7 ∷ 0xB0 ∷ 0xB1 ∷ 0xB2 ∷ 0xB3 ∷ 0xB4 ∷ 0xB5 ∷ 0xB6 ∷ 0xB7 ∷ [])
    -- region 1 begins where region 0 ends, and the address there is its: stb %g3,[%g1+8]
    ∷ placed two_regions (0xC6286008 ∷ []) (0x3000 ∷ 0x3008 ∷ []) 0x1000 start 1 sixteen_bytes gives stores (0xA0 ∷ 0xA1 ∷ 0xA2 ∷ 0xA3 ∷ 0xA4 ∷ 0xA5 ∷ 0xA6 ∷ 0xA7 ∷ 0x78 ∷ 0xB1 ∷ 0xB2 ∷ 0xB3 ∷ 0xB4 ∷ 0xB5 ∷ 0xB6 ∷ 0xB7 ∷ [])
    -- addresses add modulo 2^32: add %g1,4,%g5; ldub [%g5-3],%g6
    ∷ from start 2 (0x8A006004 ∷ 0xCC097FFD ∷ []) gives counted Spent 2 0x3004 0xA1 0
    ∷ []

-- r0: "r0 reads as zero and writes to it vanish". It comes as an unset 7.
abbrev pub zero_rows : List Row
zero_rows =
    -- as destination: add %g1,1,%g0; subcc %g5,%g6,%g0, which sets the codes
    one 0x80006001 gives kept Spent 1
    ∷ one 0x80A14006 gives left Spent 1 0 0 0 20 sixteen_bytes
    -- as source: add %g0,1,%g5; subcc %g0,1,%g6; stb %g0,[%g1]
    ∷ one 0x8A002001 gives puts 1
    ∷ one 0x8CA02001 gives left Spent 1 0 0xFFFFFFFF 0 25 sixteen_bytes
    ∷ one 0xC0284000 gives stores (0 ∷ 0xA1 ∷ 0xA2 ∷ 0xA3 ∷ 0xA4 ∷ 0xA5 ∷ 0xA6 ∷ 0xA7 ∷ 0xB0 ∷ 0xB1 ∷ 0xB2 ∷ 0xB3 ∷ 0xB4 ∷ 0xB5 ∷ 0xB6 ∷ 0xB7 ∷ [])
    -- a load to r0 is an access: ldub [%g1],%g0; ldub [%g3],%g0; ld [%g1+2],%g0
    ∷ one 0xC0084000 gives kept Spent 1
    ∷ one 0xC008C000 gives faults 103
    ∷ one 0xC0006002 gives faults 104
    -- nop; sethi 0x3FFFFF,%g5; sll %g3,4,%g5
    ∷ one 0x01000000 gives kept Spent 1
    ∷ one 0x0B3FFFFF gives puts 0xFFFFFC00
    ∷ one 0x8B28E004 gives puts 0x23456780
    ∷ []

-- "20, 21 (word count), 22 if bases, return address or memory length are wrong"
abbrev pub refusal_rows : List Row
refusal_rows =
    -- a policy that breaks a rule: before 21 and 22
    placed (uniform 1 7 0) (0x01000000 ∷ []) (0x3000 ∷ []) 0x1000 start 1 (replicate 7 0) gives handed_back 20 (replicate 7 0)
    ∷ placed (uniform 1 7 0) [] [] 2 start 1 sixteen_bytes gives handed_back 20 sixteen_bytes
    -- no words, 129 words: before 22; 128 words
    ∷ from start 1 [] gives handed_back 21 sixteen_bytes
    ∷ placed two_regions [] [] 2 start 1 [] gives handed_back 21 []
    ∷ from start 1 (replicate 129 0x01000000) gives handed_back 21 sixteen_bytes
    ∷ from start 1 (replicate 128 0x01000000) gives kept Spent 1
    -- bases: 0, no multiple of 8, the end of the addresses
    ∷ laid (0 ∷ 0x2000 ∷ []) 0x1000 sixteen_bytes gives handed_back 22 sixteen_bytes
    ∷ laid (0x3000 ∷ 0 ∷ []) 0x1000 sixteen_bytes gives handed_back 22 sixteen_bytes
    ∷ laid (0x3004 ∷ 0x2000 ∷ []) 0x1000 sixteen_bytes gives handed_back 22 sixteen_bytes
    ∷ laid (0x3000 ∷ 0xFFFFFFF8 ∷ []) 0x1000 sixteen_bytes gives handed_back 22 sixteen_bytes
    ∷ laid (0x3000 ∷ 0xFFFFFFF0 ∷ []) 0x1000 sixteen_bytes gives kept Spent 1
    -- one base for each region
    ∷ laid (0x3000 ∷ []) 0x1000 sixteen_bytes gives handed_back 22 sixteen_bytes
    ∷ laid (0x3000 ∷ 0x2000 ∷ 0x4000 ∷ []) 0x1000 sixteen_bytes gives handed_back 22 sixteen_bytes
    -- overlapping, also one that is not the region before; touching, either way round
    ∷ laid (0x3000 ∷ 0x3000 ∷ []) 0x1000 sixteen_bytes gives handed_back 22 sixteen_bytes
    ∷ placed (uniform 3 8 0) (0x01000000 ∷ []) (0x3000 ∷ 0x2000 ∷ 0x3000 ∷ []) 0x1000 start 1 (replicate 24 0) gives handed_back 22 (replicate 24 0)
    ∷ laid (0x3000 ∷ 0x3008 ∷ []) 0x1000 sixteen_bytes gives kept Spent 1
    ∷ laid (0x3008 ∷ 0x3000 ∷ []) 0x1000 sixteen_bytes gives kept Spent 1
    -- the return address
    ∷ laid two_bases 2 sixteen_bytes gives handed_back 22 sixteen_bytes
    ∷ laid two_bases 0x1001 sixteen_bytes gives handed_back 22 sixteen_bytes
    ∷ laid two_bases 0x3000 sixteen_bytes gives kept Spent 1
    -- the memory: too short, too long
    ∷ laid two_bases 0x1000 (replicate 15 0) gives handed_back 22 (replicate 15 0)
    ∷ laid two_bases 0x1000 (replicate 17 0) gives handed_back 22 (replicate 17 0)
    -- refused before it is spent
    ∷ from start 0 [] gives handed_back 21 sixteen_bytes
    ∷ []

-- all of them
abbrev pub run_rows : List Row
run_rows =
    branch_rows ++ end_rows ++ no_word_rows ++ unset_rows ++ field_fault_rows ++ address_rows ++ pair_rows ++ stop_rows ++ access_rows ++ zero_rows
    ++ refusal_rows
