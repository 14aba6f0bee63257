-- What a word is read as (document 01, "Words we read"): an instruction of the subset, or the number of the refusal (request 1: that of
-- privileged words is their own). Request 5: the edition that the terminal follows is told, and only the predicted branch depends on it.
use Rattle.std.specs.Prelude.{ℕ, ◌-◌, Bool, true, false, cond, ◌&&◌, ◌||◌, List, [], ◌∷◌, leb, eqb, get_or, Option, Some, None}
use Rattle.v8.specs.Field.{op_of, rd_of, annul_of, cond_of, op2_of, low22_of, cc_of, predict_of, low19_of, op3_of, rs1_of, i_of, unused_of, rs2_of, simm13_of}
use Rattle.v8.specs.Signed.{sign_extend}
use Rattle.v8.specs.Numbers.{not_read, privileged}
use Rattle.v8.specs.declared.AluOp.{AluOp}
use Rattle.v8.specs.declared.AluOp.TheVariants.{Add, And, Or, Xor, Sub, Andn, Orn, Xnor}
use Rattle.v8.specs.declared.ShiftOp.{ShiftOp}
use Rattle.v8.specs.declared.ShiftOp.TheVariants.{Sll, Srl, Sra}
use Rattle.v8.specs.declared.LoadOp.TheVariants.{Ld, Ldub, Lduh, Ldsb, Ldsh}
use Rattle.v8.specs.declared.StoreOp.TheVariants.{St, Stb, Sth}
use Rattle.v8.specs.declared.Operand.{Operand}
use Rattle.v8.specs.declared.Operand.TheVariants.{Reg, Imm}
use Rattle.v8.specs.declared.Displacement.{Displacement}
use Rattle.v8.specs.declared.Displacement.TheVariants.{Index, Bytes}
use Rattle.v8.specs.declared.Access.{Access}
use Rattle.v8.specs.declared.Access.TheVariants.{Loads, Stores}
use Rattle.v8.specs.declared.Operation.TheVariants.{Sethi, Alu, Shift, Memory}
use Rattle.v8.specs.declared.Edition.{Edition}
use Rattle.v8.specs.declared.Edition.TheVariants.{V8, V9}
use Rattle.v8.specs.declared.BranchForm.{BranchForm}
use Rattle.v8.specs.declared.BranchForm.TheVariants.{Unpredicted, Predicted}
use Rattle.v8.specs.declared.Instruction.TheVariants.{Plain, Branch, Return}
use Rattle.v8.specs.declared.Reading.{Reading}
use Rattle.v8.specs.declared.Reading.TheVariants.{Read, Unread}

-- the number of a reading: "Read a word: 2.", or 24 if the word is privileged
abbrev pub read_number : Reading → ℕ
read_number (Read x) = 0
read_number (Unread n) = n

-- the leaf return, "only as the word 81C3E008"
abbrev pub leaf_return : ℕ
leaf_return = 0x81C3E008

-- "ADD 00, AND 01, OR 02, XOR 03, SUB 04, ANDN 05, ORN 06, XNOR 07"
abbrev pub alu_ops : List AluOp
alu_ops = Add ∷ And ∷ Or ∷ Xor ∷ Sub ∷ Andn ∷ Orn ∷ Xnor ∷ []

abbrev pub alu_op_of : ℕ → AluOp
alu_op_of k = get_or alu_ops k Add

-- "i 13, then rs2 4:0 or a signed 13-bit number"; "Bits 12:5 must be zero with i = 0"
unfoldable pub operand_of : ℕ → Option Operand
operand_of w =
    cond (eqb (i_of w) 1) (Some (Imm (sign_extend 13 (simm13_of w))))
    (cond (eqb (unused_of w) 0) (Some (Reg (rs2_of w)))
    None)

-- "Bits 12:5 must be zero .. for shifts always": the count is rs2, or the number in its place
unfoldable pub count_of : ℕ → Option Operand
count_of w =
    cond (eqb (unused_of w) 0)
    (cond (eqb (i_of w) 1) (Some (Imm (rs2_of w))) (Some (Reg (rs2_of w))))
    None

-- a branch ("annul bit 29, condition 28:25") of a form, and its distance in words
abbrev pub branch_of : ℕ → BranchForm → ℕ → Reading
branch_of w form distance =
    Read (Branch (record { annul = eqb (annul_of w) 1; cond = cond_of w; distance = record { 0 = distance }; form = form }))

-- request 5: "bits 24:22 = 001, annul and condition as before, bits 21:20 zero (the 32-bit codes), a prediction hint in bit 19, .. signed
-- distance 18:0 in words"; "2 covers this branch with other codes, and the whole form on the older terminal"
abbrev pub predicted_of : Edition → ℕ → Reading
predicted_of V8 w = Unread not_read
predicted_of V9 w = cond (eqb (cc_of w) 0) (branch_of w (Predicted (eqb (predict_of w) 1)) (sign_extend 19 (low19_of w))) (Unread not_read)

-- "00 with bits 24:22 = 100 is SETHI; with 010 it is Bicc (.. signed distance 21:0 in words)"
unfoldable pub format00 : Edition → ℕ → Reading
format00 e w =
    cond (eqb (op2_of w) 4) (Read (Plain (Sethi (rd_of w) (low22_of w))))
    (cond (eqb (op2_of w) 2) (branch_of w Unpredicted (sign_extend 22 (low22_of w)))
    (cond (eqb (op2_of w) 1) (predicted_of e w)
    (Unread not_read)))

abbrev pub alu_with : AluOp → Bool → ℕ → Option Operand → Reading
alu_with op cc w (Some x) = Read (Plain (Alu op cc (rd_of w) (rs1_of w) x))
alu_with op cc w None = Unread not_read

abbrev pub shift_with : ShiftOp → ℕ → Option Operand → Reading
shift_with op w (Some x) = Read (Plain (Shift op (rd_of w) (rs1_of w) x))
shift_with op w None = Unread not_read

-- from one opcode to another
abbrev pub between : ℕ → ℕ → ℕ → Bool
between first last k = leb first k && leb k last

-- request 1, privileged words: "format 10 opcodes 29, 2A, 2B, 31, 32, 33, 39"
abbrev pub privileged10 : ℕ → Bool
privileged10 k = between 0x29 0x2B k || between 0x31 0x33 k || eqb k 0x39

-- "and format 11 opcodes 10 to 17, 19, 1A, 1D, 1F, 26, 36"
abbrev pub privileged11 : ℕ → Bool
privileged11 k = between 0x10 0x17 k || between 0x19 0x1A k || eqb k 0x1D || eqb k 0x1F || eqb k 0x26 || eqb k 0x36

-- a word refused for its opcode, which is privileged or not: "24 replaces 2 for these words"
abbrev pub refused : Bool → Reading
refused p = Unread (cond p privileged not_read)

-- format 10: "the same plus 10 also set the codes; SLL 25, SRL 26, SRA 27; and the leaf return"
unfoldable pub format10 : ℕ → Reading
format10 w =
    cond (leb (op3_of w) 0x07) (alu_with (alu_op_of (op3_of w)) false w (operand_of w))
    (cond (between 0x10 0x17 (op3_of w)) (alu_with (alu_op_of (op3_of w - 0x10)) true w (operand_of w))
    (cond (eqb (op3_of w) 0x25) (shift_with Sll w (count_of w))
    (cond (eqb (op3_of w) 0x26) (shift_with Srl w (count_of w))
    (cond (eqb (op3_of w) 0x27) (shift_with Sra w (count_of w))
    (cond (eqb w leaf_return) (Read Return)
    (refused (privileged10 (op3_of w))))))))

-- an address's second part: a register, or a signed count of bytes
abbrev pub displacement_of : Operand → Displacement
displacement_of (Reg r) = Index r
displacement_of (Imm v) = Bytes (record { 0 = v })

abbrev pub memory_with : Access → ℕ → Option Operand → Reading
memory_with a w (Some x) = Read (Plain (Memory a (rd_of w) (rs1_of w) (displacement_of x)))
memory_with a w None = Unread not_read

-- format 11: "LD 00, LDUB 01, LDUH 02, ST 04, STB 05, STH 06, LDSB 09, LDSH 0A"
unfoldable pub format11 : ℕ → Reading
format11 w =
    cond (eqb (op3_of w) 0x00) (memory_with (Loads Ld) w (operand_of w))
    (cond (eqb (op3_of w) 0x01) (memory_with (Loads Ldub) w (operand_of w))
    (cond (eqb (op3_of w) 0x02) (memory_with (Loads Lduh) w (operand_of w))
    (cond (eqb (op3_of w) 0x04) (memory_with (Stores St) w (operand_of w))
    (cond (eqb (op3_of w) 0x05) (memory_with (Stores Stb) w (operand_of w))
    (cond (eqb (op3_of w) 0x06) (memory_with (Stores Sth) w (operand_of w))
    (cond (eqb (op3_of w) 0x09) (memory_with (Loads Ldsb) w (operand_of w))
    (cond (eqb (op3_of w) 0x0A) (memory_with (Loads Ldsh) w (operand_of w))
    (refused (privileged11 (op3_of w))))))))))

-- "Bits 31:30 choose the format."
unfoldable pub reading_of : Edition → ℕ → Reading
reading_of e w =
    cond (eqb (op_of w) 0) (format00 e w)
    (cond (eqb (op_of w) 2) (format10 w)
    (cond (eqb (op_of w) 3) (format11 w)
    (Unread not_read)))
