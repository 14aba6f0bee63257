-- What an instruction does to the marks of the 32 registers (document 02, request 2).
use Rattle.std.specs.Prelude.{ℕ, Bool, false, cond, ◌&&◌, ◌||◌, List, eqb}
use Rattle.v8.specs.declared.AluOp.{AluOp}
use Rattle.v8.specs.declared.AluOp.TheVariants.{Add, And, Or, Xor, Sub, Andn, Orn, Xnor}
use Rattle.v8.specs.declared.LoadOp.{LoadOp}
use Rattle.v8.specs.declared.LoadOp.TheVariants.{Ld, Ldub, Lduh, Ldsb, Ldsh}
use Rattle.v8.specs.declared.Operand.{Operand}
use Rattle.v8.specs.declared.Operand.TheVariants.{Reg, Imm}
use Rattle.v8.specs.declared.Access.{Access}
use Rattle.v8.specs.declared.Access.TheVariants.{Loads, Stores}
use Rattle.v8.specs.declared.Operation.{Operation}
use Rattle.v8.specs.declared.Operation.TheVariants.{Sethi, Alu, Shift, Memory}
use Rattle.v8.specs.declared.Instruction.{Instruction}
use Rattle.v8.specs.declared.Instruction.TheVariants.{Plain, Branch, Return}
use Rattle.v8.specs.declared.Reading.{Reading}
use Rattle.v8.specs.declared.Reading.TheVariants.{Read, Unread}
use Rattle.flow_writes.specs.Written.{register_written}
use Rattle.marks.specs.Marks.{number, address, unset, mark_of, marks_with}

-- the mark of a second operand: a register's, or a number's
abbrev pub operand_mark : List ℕ → Operand → ℕ
operand_mark marks (Reg r) = mark_of marks r
operand_mark marks (Imm v) = number

-- "literal r0": the register, not a number that is 0
abbrev pub is_r0 : Operand → Bool
is_r0 (Reg r) = eqb r 0
is_r0 (Imm v) = false

abbrev pub both : ℕ → ℕ → ℕ → ℕ → Bool
both a b first second = eqb a first && eqb b second

-- "logic and shifts of numbers give number"; "All else gives unset."
unfoldable pub of_numbers : ℕ → ℕ → ℕ
of_numbers a b = cond (both a b number number) number unset

-- "ADD and SUB of address and number, in the orders document 01 allows, give address": address + number, number + address, address - number
unfoldable pub sum_mark : ℕ → ℕ → ℕ
sum_mark a b = cond (both a b address number || both a b number address) address (of_numbers a b)

unfoldable pub difference_mark : ℕ → ℕ → ℕ
difference_mark a b = cond (both a b address number) address (of_numbers a b)

-- "OR with literal r0 copies a mark", as rs1 or as rs2
unfoldable pub or_mark : List ℕ → ℕ → Operand → ℕ
or_mark marks rs1 x =
    cond (eqb rs1 0) (operand_mark marks x)
    (cond (is_r0 x) (mark_of marks rs1)
    (of_numbers (mark_of marks rs1) (operand_mark marks x)))

abbrev pub alu_mark : List ℕ → AluOp → ℕ → Operand → ℕ
alu_mark marks Add rs1 x = sum_mark (mark_of marks rs1) (operand_mark marks x)
alu_mark marks And rs1 x = of_numbers (mark_of marks rs1) (operand_mark marks x)
alu_mark marks Or rs1 x = or_mark marks rs1 x
alu_mark marks Xor rs1 x = of_numbers (mark_of marks rs1) (operand_mark marks x)
alu_mark marks Sub rs1 x = difference_mark (mark_of marks rs1) (operand_mark marks x)
alu_mark marks Andn rs1 x = of_numbers (mark_of marks rs1) (operand_mark marks x)
alu_mark marks Orn rs1 x = of_numbers (mark_of marks rs1) (operand_mark marks x)
alu_mark marks Xnor rs1 x = of_numbers (mark_of marks rs1) (operand_mark marks x)

-- "narrow loads .. give number", whatever their address is; LD is of "All else"; a store writes no register
abbrev pub load_mark : LoadOp → ℕ
load_mark Ld = unset
load_mark Ldub = number
load_mark Lduh = number
load_mark Ldsb = number
load_mark Ldsh = number

abbrev pub access_mark : Access → ℕ
access_mark (Loads op) = load_mark op
access_mark (Stores op) = unset

-- the mark that an operation gives the register it writes: "SETHI, narrow loads, and ADD, SUB, logic and shifts of numbers give number"
abbrev pub operation_mark : List ℕ → Operation → ℕ
operation_mark marks (Sethi rd imm22) = number
operation_mark marks (Alu op cc rd rs1 x) = alu_mark marks op rs1 x
operation_mark marks (Shift op rd rs1 x) = of_numbers (mark_of marks rs1) (operand_mark marks x)
operation_mark marks (Memory a rd rs1 d) = access_mark a

-- .. and an instruction; branches and the return write none
abbrev pub instruction_mark : List ℕ → Instruction → ℕ
instruction_mark marks (Plain x) = operation_mark marks x
instruction_mark marks (Branch b) = unset
instruction_mark marks Return = unset

-- the marks after an instruction
abbrev pub marks_after : List ℕ → Instruction → List ℕ
marks_after marks x = marks_with marks (register_written x) (instruction_mark marks x)

-- .. and after a word, as it is read
abbrev pub marks_after_word : List ℕ → Reading → List ℕ
marks_after_word marks (Read x) = marks_after marks x
marks_after_word marks (Unread n) = marks
