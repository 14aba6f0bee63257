-- Words read and instructions written: document 01's trial words, a word of each kind with its parts at both ends, and words
-- one bit, one opcode or one format off the subset, privileged ones told apart. The words are those that GNU as gives.
use Rattle.std.specs.Prelude.{ℕ, ◌+◌, ◌*◌, ◌-◌, ◌^◌, Bool, true, false, List, [], ◌∷◌, ◌++◌, Some, None}
use Rattle.v8.specs.Numbers.{not_read, privileged}
use Rattle.v8.specs.declared.BranchForm.TheVariants.{Unpredicted}
use Rattle.v8.specs.declared.AluOp.TheVariants.{Add, Sub, Orn, Xnor}
use Rattle.v8.specs.declared.ShiftOp.TheVariants.{Sll, Srl, Sra}
use Rattle.v8.specs.declared.LoadOp.TheVariants.{Ld, Ldub, Lduh, Ldsb, Ldsh}
use Rattle.v8.specs.declared.StoreOp.TheVariants.{St, Stb, Sth}
use Rattle.v8.specs.declared.Operand.TheVariants.{Reg, Imm}
use Rattle.v8.specs.declared.Displacement.TheVariants.{Index, Bytes}
use Rattle.v8.specs.declared.Access.TheVariants.{Loads, Stores}
use Rattle.v8.specs.declared.Operation.TheVariants.{Sethi, Alu, Shift, Memory}
use Rattle.v8.specs.declared.Instruction.{Instruction}
use Rattle.v8.specs.declared.Instruction.TheVariants.{Plain, Branch, Return}
use Rattle.v8.specs.declared.Reading.{Reading}
use Rattle.v8.specs.declared.Reading.TheVariants.{Read, Unread}
use Rattle.trials.specs.Case.{Row, ◌gives◌, word, instruction, read_answer, write_answer, reads, writes, yields}

-- a branch: its annul bit, its condition, and its distance in words
abbrev pub branch : Bool → ℕ → ℕ → Instruction
branch annul cnd distance = Branch (record { annul = annul; cond = cnd; distance = record { 0 = distance }; form = Unpredicted })

-- words read
abbrev pub word_rows : List Row
word_rows =
    -- document 01: the leaf return, and SETHI 0 to r0
    word 0x81C3E008 gives reads (Read Return)
    ∷ word 0x01000000 gives reads (Read (Plain (Sethi 0 0)))
    -- format 00: SETHI, branches, distances at both ends
    ∷ word 0x3F3FFFFF gives reads (Read (Plain (Sethi 31 0x3FFFFF)))
    ∷ word 0x10800000 gives reads (Read (branch false 8 0))
    ∷ word 0x30BFFFFF gives reads (Read (branch true 8 0xFFFFFFFF))
    ∷ word 0x129FFFFF gives reads (Read (branch false 9 0x1FFFFF))
    ∷ word 0x26A00000 gives reads (Read (branch true 3 0xFFE00000))
    -- format 10: registers and numbers, plain and code-setting, numbers at both ends
    ∷ word 0x84007000 gives reads (Read (Plain (Alu Add false 2 1 (Imm 0xFFFFF000))))
    ∷ word 0x84806FFF gives reads (Read (Plain (Alu Add true 2 1 (Imm 0xFFF))))
    ∷ word 0x94220009 gives reads (Read (Plain (Alu Sub false 10 8 (Reg 9))))
    ∷ word 0x80A22009 gives reads (Read (Plain (Alu Sub true 0 8 (Imm 9))))
    ∷ word 0xA4BC0011 gives reads (Read (Plain (Alu Xnor true 18 16 (Reg 17))))
    ∷ word 0xB4360019 gives reads (Read (Plain (Alu Orn false 26 24 (Reg 25))))
    ∷ word 0x8528601F gives reads (Read (Plain (Shift Sll 2 1 (Imm 31))))
    ∷ word 0x87304002 gives reads (Read (Plain (Shift Srl 3 1 (Reg 2))))
    ∷ word 0x85386000 gives reads (Read (Plain (Shift Sra 2 1 (Imm 0))))
    -- format 11: loads and stores
    ∷ word 0xC2020002 gives reads (Read (Plain (Memory (Loads Ld) 1 8 (Index 2))))
    ∷ word 0xC20A3FFF gives reads (Read (Plain (Memory (Loads Ldub) 1 8 (Bytes (record { 0 = 0xFFFFFFFF })))))
    ∷ word 0xC2122FFE gives reads (Read (Plain (Memory (Loads Lduh) 1 8 (Bytes (record { 0 = 0xFFE })))))
    ∷ word 0xC24A0000 gives reads (Read (Plain (Memory (Loads Ldsb) 1 8 (Index 0))))
    ∷ word 0xC2523000 gives reads (Read (Plain (Memory (Loads Ldsh) 1 8 (Bytes (record { 0 = 0xFFFFF000 })))))
    ∷ word 0xC2220002 gives reads (Read (Plain (Memory (Stores St) 1 8 (Index 2))))
    ∷ word 0xC22A201D gives reads (Read (Plain (Memory (Stores Stb) 1 8 (Bytes (record { 0 = 29 })))))
    ∷ word 0xC2322FFF gives reads (Read (Plain (Memory (Stores Sth) 1 8 (Bytes (record { 0 = 0xFFF })))))
    -- one bit off: a bit of 12:5 with i = 0, a shift with i = 1 and such a bit, JMPL other than the leaf return
    ∷ word 0x94220029 gives reads (Unread not_read)
    ∷ word 0x94221009 gives reads (Unread not_read)
    ∷ word 0xC2020022 gives reads (Unread not_read)
    ∷ word 0x87304022 gives reads (Unread not_read)
    ∷ word 0x8528603F gives reads (Unread not_read)
    ∷ word 0x8528701F gives reads (Unread not_read)
    ∷ word 0x81C3E00C gives reads (Unread not_read)
    ∷ word 0x81C7E008 gives reads (Unread not_read)
    ∷ word 0x83C3E008 gives reads (Unread not_read)
    ∷ word 0x81C3C008 gives reads (Unread not_read)
    -- opcodes beside the subset: 08 to 0F, 18, 24, 28, of format 10
    ∷ word 0x82404002 gives reads (Unread not_read)
    ∷ word 0x82484002 gives reads (Unread not_read)
    ∷ word 0x82504002 gives reads (Unread not_read)
    ∷ word 0x82584002 gives reads (Unread not_read)
    ∷ word 0x82604002 gives reads (Unread not_read)
    ∷ word 0x82684002 gives reads (Unread not_read)
    ∷ word 0x82704002 gives reads (Unread not_read)
    ∷ word 0x82784002 gives reads (Unread not_read)
    ∷ word 0x82C04002 gives reads (Unread not_read)
    ∷ word 0x83204002 gives reads (Unread not_read)
    ∷ word 0x83404002 gives reads (Unread not_read)
    -- LDD, 08 and 0B of format 11, STD, LDSTUB, SWAP, LDA; CALL, FBfcc, CBccc, UNIMP, the other formats 00
    ∷ word 0xC41A0000 gives reads (Unread not_read)
    ∷ word 0xC2420000 gives reads (Unread not_read)
    ∷ word 0xC25A0000 gives reads (Unread not_read)
    ∷ word 0xC43A0000 gives reads (Unread not_read)
    ∷ word 0xC26A0000 gives reads (Unread not_read)
    ∷ word 0xC27A0000 gives reads (Unread not_read)
    ∷ word 0x40000002 gives reads (Unread not_read)
    ∷ word 0x40800002 gives reads (Unread not_read)
    ∷ word 0x41000000 gives reads (Unread not_read)
    ∷ word 0x11800002 gives reads (Unread not_read)
    ∷ word 0x11C00002 gives reads (Unread not_read)
    ∷ word 0x00000000 gives reads (Unread not_read)
    ∷ word 0x00C00000 gives reads (Unread not_read)
    ∷ word 0x01400000 gives reads (Unread not_read)
    -- no word of 32 bits
    ∷ word 0x181C3E008 gives reads (Unread not_read)
    ∷ []

-- two words of each of these opcodes of a format, every other bit clear and every other bit set, all read alike
abbrev pub opcode_rows : ℕ → Reading → List ℕ → List Row
opcode_rows format x [] = []
opcode_rows format x (k ∷ ks) =
    word (format * 2 ^ 30 + k * 2 ^ 19) gives reads x
    ∷ word (format * 2 ^ 30 + 31 * 2 ^ 25 + k * 2 ^ 19 + (2 ^ 19 - 1)) gives reads x
    ∷ opcode_rows format x ks

-- request 1: "format 10 opcodes 29, 2A, 2B, 31, 32, 33, 39 and format 11 opcodes 10 to 17, 19, 1A, 1D, 1F, 26, 36", and the opcodes beside them
abbrev pub privileged_rows : List Row
privileged_rows =
    opcode_rows 2 (Unread privileged) (0x29 ∷ 0x2A ∷ 0x2B ∷ 0x31 ∷ 0x32 ∷ 0x33 ∷ 0x39 ∷ [])
    ++ opcode_rows 3 (Unread privileged) (0x10 ∷ 0x11 ∷ 0x12 ∷ 0x13 ∷ 0x14 ∷ 0x15 ∷ 0x16 ∷ 0x17 ∷ 0x19 ∷ 0x1A ∷ 0x1D ∷ 0x1F ∷ 0x26 ∷ 0x36 ∷ [])
    ++ opcode_rows 2 (Unread not_read) (0x28 ∷ 0x2C ∷ 0x30 ∷ 0x34 ∷ 0x38 ∷ 0x3A ∷ [])
    ++ opcode_rows 3 (Unread not_read) (0x0F ∷ 0x18 ∷ 0x1B ∷ 0x1C ∷ 0x1E ∷ 0x20 ∷ 0x25 ∷ 0x27 ∷ 0x35 ∷ 0x37 ∷ [])
    -- the lists in the other format: they are instructions, or not read
    ++ opcode_rows 3 (Unread not_read) (0x29 ∷ 0x2A ∷ 0x2B ∷ 0x31 ∷ 0x32 ∷ 0x33 ∷ 0x39 ∷ [])
    ++ opcode_rows 2 (Unread not_read) (0x19 ∷ 0x1A ∷ 0x1D ∷ 0x1F ∷ 0x36 ∷ [])
    -- rd %psr,%g1; wr %g1,5,%psr; rett %l2+4; lda [%o0+%g1]10,%g2; sta %g2,[%o0+%g1]10; std %fq,[%o0]
    ++ word 0x83480000 gives reads (Unread privileged)
    ∷ word 0x81886005 gives reads (Unread privileged)
    ∷ word 0x81CCA004 gives reads (Unread privileged)
    ∷ word 0xC4820141 gives reads (Unread privileged)
    ∷ word 0xC4A20141 gives reads (Unread privileged)
    ∷ word 0xC1320000 gives reads (Unread privileged)
    ∷ []

-- instructions written
abbrev pub write_rows : List Row
write_rows =
    -- parts at their ends
    instruction (Plain (Sethi 31 0x3FFFFF)) gives writes (Some 0x3F3FFFFF)
    ∷ instruction (branch true 3 0xFFE00000) gives writes (Some 0x26A00000)
    ∷ instruction (branch false 9 0x1FFFFF) gives writes (Some 0x129FFFFF)
    ∷ instruction (Plain (Alu Add false 2 1 (Imm 0xFFFFF000))) gives writes (Some 0x84007000)
    ∷ instruction (Plain (Shift Sll 2 1 (Imm 31))) gives writes (Some 0x8528601F)
    ∷ instruction (Plain (Memory (Stores Stb) 1 8 (Bytes (record { 0 = 29 })))) gives writes (Some 0xC22A201D)
    ∷ instruction Return gives writes (Some 0x81C3E008)
    -- a part out of range
    ∷ instruction (Plain (Sethi 32 0)) gives writes None
    ∷ instruction (Plain (Sethi 0 0x400000)) gives writes None
    ∷ instruction (branch false 16 0) gives writes None
    ∷ instruction (branch false 8 0x200000) gives writes None
    ∷ instruction (branch false 8 0xFFDFFFFF) gives writes None
    ∷ instruction (Plain (Alu Add false 32 0 (Reg 0))) gives writes None
    ∷ instruction (Plain (Alu Add false 0 32 (Reg 0))) gives writes None
    ∷ instruction (Plain (Alu Add false 0 0 (Reg 32))) gives writes None
    ∷ instruction (Plain (Alu Add false 0 0 (Imm 0x1000))) gives writes None
    ∷ instruction (Plain (Alu Add false 0 0 (Imm 0xFFFFEFFF))) gives writes None
    ∷ instruction (Plain (Shift Sra 0 0 (Imm 32))) gives writes None
    ∷ instruction (Plain (Shift Sra 0 0 (Reg 255))) gives writes None
    ∷ instruction (Plain (Memory (Loads Ld) 32 0 (Index 0))) gives writes None
    ∷ instruction (Plain (Memory (Loads Ldsh) 0 0 (Bytes (record { 0 = 0x1000 })))) gives writes None
    ∷ instruction (Plain (Memory (Stores St) 0 255 (Index 0))) gives writes None
    ∷ []

-- "Read a word: 2. Write an instruction: 17", and 24 of a privileged word: the numbers of the answers, 0 where there is no refusal
abbrev pub answer_rows : List Row
answer_rows =
    read_answer 0x81C3E008 gives yields 0
    ∷ read_answer 0x00000000 gives yields 2
    ∷ read_answer 0x83480000 gives yields 24
    ∷ write_answer Return gives yields 0
    ∷ write_answer (Plain (Sethi 32 0)) gives yields 17
    ∷ []
