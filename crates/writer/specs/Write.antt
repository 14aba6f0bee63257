-- What an instruction is written as (document 01, "Write an instruction"): a word, or refusal 17 for
-- "a part out of range or not of the subset". Request 5: the edition that the terminal follows is told; only a predicted branch depends on it.
use Rattle.std.specs.Prelude.{ℕ, ◌+◌, ◌*◌, ◌%◌, ◌^◌, Bool, cond, ltb, eqb, Option, Some, None}
use Rattle.v8.specs.Signed.{sign_extend}
use Rattle.v8.specs.Read.{leaf_return}
use Rattle.v8.specs.Numbers.{not_written}
use Rattle.v8.specs.declared.Edition.{Edition}
use Rattle.v8.specs.declared.Edition.TheVariants.{V8, V9}
use Rattle.v8.specs.declared.BranchForm.{BranchForm}
use Rattle.v8.specs.declared.BranchForm.TheVariants.{Unpredicted, Predicted}
use Rattle.v8.specs.declared.AluOp.{AluOp}
use Rattle.v8.specs.declared.AluOp.TheVariants.{Add, And, Or, Xor, Sub, Andn, Orn, Xnor}
use Rattle.v8.specs.declared.ShiftOp.{ShiftOp}
use Rattle.v8.specs.declared.ShiftOp.TheVariants.{Sll, Srl, Sra}
use Rattle.v8.specs.declared.LoadOp.{LoadOp}
use Rattle.v8.specs.declared.LoadOp.TheVariants.{Ld, Ldub, Lduh, Ldsb, Ldsh}
use Rattle.v8.specs.declared.StoreOp.{StoreOp}
use Rattle.v8.specs.declared.StoreOp.TheVariants.{St, Stb, Sth}
use Rattle.v8.specs.declared.Operand.{Operand}
use Rattle.v8.specs.declared.Operand.TheVariants.{Reg, Imm}
use Rattle.v8.specs.declared.Displacement.{Displacement}
use Rattle.v8.specs.declared.Displacement.TheVariants.{Index, Bytes}
use Rattle.v8.specs.declared.Access.{Access}
use Rattle.v8.specs.declared.Access.TheVariants.{Loads, Stores}
use Rattle.v8.specs.declared.Operation.{Operation}
use Rattle.v8.specs.declared.Operation.TheVariants.{Sethi, Alu, Shift, Memory}
use Rattle.v8.specs.declared.Instruction.{Instruction}
use Rattle.v8.specs.declared.Instruction.TheVariants.{Plain, Branch, Return}

-- "Write an instruction: 17."
abbrev pub write_number : Option ℕ → ℕ
write_number (Some w) = 0
write_number None = not_written

-- bit 13, i = 1: a number stands in the place of rs2
abbrev pub i_bit : ℕ
i_bit = 2 ^ 13

-- a signed number in the low n bits, above which stands i; it fits if sign extension gives it back
unfoldable pub signed_bits : ℕ → ℕ → ℕ → Option ℕ
signed_bits n i v = cond (eqb v (sign_extend n (v % 2 ^ n))) (Some (i + v % 2 ^ n)) None

-- a number below 32 in the low five bits, above which stands i
unfoldable pub five_bits : ℕ → ℕ → Option ℕ
five_bits i v = cond (ltb v 32) (Some (i + v)) None

-- bits 13:0 of the second operand
abbrev pub operand_bits : Operand → Option ℕ
operand_bits (Reg r) = five_bits 0 r
operand_bits (Imm v) = signed_bits 13 i_bit v

-- bits 13:0 of a shift's count
abbrev pub count_bits : Operand → Option ℕ
count_bits (Reg r) = five_bits 0 r
count_bits (Imm v) = five_bits i_bit v

-- bits 13:0 of an address's second part
abbrev pub displacement_bits : Displacement → Option ℕ
displacement_bits (Index r) = operand_bits (Reg r)
displacement_bits (Bytes d) = operand_bits (Imm d.0)

abbrev pub alu_code : AluOp → ℕ
alu_code Add = 0x00
alu_code And = 0x01
alu_code Or = 0x02
alu_code Xor = 0x03
alu_code Sub = 0x04
alu_code Andn = 0x05
alu_code Orn = 0x06
alu_code Xnor = 0x07

-- "the same plus 10 also set the codes"
abbrev pub alu_code_cc : AluOp → Bool → ℕ
alu_code_cc op cc = cond cc (alu_code op + 0x10) (alu_code op)

abbrev pub shift_code : ShiftOp → ℕ
shift_code Sll = 0x25
shift_code Srl = 0x26
shift_code Sra = 0x27

abbrev pub load_code : LoadOp → ℕ
load_code Ld = 0x00
load_code Ldub = 0x01
load_code Lduh = 0x02
load_code Ldsb = 0x09
load_code Ldsh = 0x0A

abbrev pub store_code : StoreOp → ℕ
store_code St = 0x04
store_code Stb = 0x05
store_code Sth = 0x06

abbrev pub access_code : Access → ℕ
access_code (Loads op) = load_code op
access_code (Stores op) = store_code op

-- a word of format 10 or 11, from its fields
unfoldable pub pack_of : ℕ → ℕ → ℕ → ℕ → ℕ → ℕ
pack_of op rd op3 rs1 low = op * 2 ^ 30 + rd * 2 ^ 25 + op3 * 2 ^ 19 + rs1 * 2 ^ 14 + low

unfoldable pub packed : ℕ → ℕ → ℕ → ℕ → Option ℕ → Option ℕ
packed op rd op3 rs1 (Some b) = cond (ltb rd 32) (cond (ltb rs1 32) (Some (pack_of op rd op3 rs1 b)) None) None
packed op rd op3 rs1 None = None

-- SETHI: format 00 with bits 24:22 = 100
unfoldable pub sethi_word : ℕ → ℕ → Option ℕ
sethi_word rd imm22 = cond (ltb rd 32) (cond (ltb imm22 (2 ^ 22)) (Some (rd * 2 ^ 25 + 4 * 2 ^ 22 + imm22)) None) None

-- bits 24:0 of a predicted branch (request 5): 001, the 32-bit codes, the hint, the distance; "not of the subset" on the older terminal
abbrev pub predicted_bits : Edition → Bool → ℕ → Option ℕ
predicted_bits V8 hint v = None
predicted_bits V9 hint v = signed_bits 19 (1 * 2 ^ 22 + cond hint (2 ^ 19) 0) v

-- bits 24:0 of a branch, by its form; without prediction 010 and the distance
abbrev pub branch_bits : Edition → BranchForm → ℕ → Option ℕ
branch_bits e Unpredicted v = signed_bits 22 (2 * 2 ^ 22) v
branch_bits e (Predicted hint) v = predicted_bits e hint v

-- a branch: format 00, the annul bit and the condition above these bits
abbrev pub branch_word : Bool → ℕ → Option ℕ → Option ℕ
branch_word annul cnd (Some b) = cond (ltb cnd 16) (Some (cond annul (2 ^ 29) 0 + cnd * 2 ^ 25 + b)) None
branch_word annul cnd None = None

-- an instruction that is no transfer
abbrev pub operation_word : Operation → Option ℕ
operation_word (Sethi rd imm22) = sethi_word rd imm22
operation_word (Alu op cc rd rs1 x) = packed 2 rd (alu_code_cc op cc) rs1 (operand_bits x)
operation_word (Shift op rd rs1 x) = packed 2 rd (shift_code op) rs1 (count_bits x)
operation_word (Memory a rd rs1 d) = packed 3 rd (access_code a) rs1 (displacement_bits d)

unfoldable pub writing_of : Edition → Instruction → Option ℕ
writing_of e (Plain x) = operation_word x
writing_of e (Branch b) = branch_word b.annul b.cond (branch_bits e b.form b.distance.0)
writing_of e Return = Some leaf_return
