-- What follows from the reading of words, for all that rests on it: in an instruction that is read registers are r0 to r31 and numbers are words of
-- 32 bits, a refusal has a number, and that number tells the privileged words from all others, on both terminals; the newer one reads what the older reads.
-- The proofs are in proofs/.
use Rattle.std.specs.Prelude.{ℕ, ◌<◌, ◌≡◌, Bool, false, cond, ◌&&◌, ◌||◌, eqb}
use Rattle.v8.specs.Numbers.{acceptance, not_read, privileged}
use Rattle.v8.specs.Field.{op_of, op3_of}
use Rattle.v8.specs.declared.Edition.{Edition}
use Rattle.v8.specs.declared.Edition.TheVariants.{V8, V9}
use Rattle.v8.specs.declared.Operand.{Operand}
use Rattle.v8.specs.declared.Operand.TheVariants.{Reg, Imm}
use Rattle.v8.specs.declared.Displacement.{Displacement}
use Rattle.v8.specs.declared.Displacement.TheVariants.{Index, Bytes}
use Rattle.v8.specs.declared.Operation.{Operation}
use Rattle.v8.specs.declared.Operation.TheVariants.{Sethi, Alu, Shift, Memory}
use Rattle.v8.specs.declared.Instruction.{Instruction}
use Rattle.v8.specs.declared.Instruction.TheVariants.{Plain, Branch, Return}
use Rattle.v8.specs.declared.Reading.{Reading}
use Rattle.v8.specs.declared.Reading.TheVariants.{Read, Unread}
use Rattle.v8.specs.Read.{reading_of, privileged10, privileged11}

-- the register in a second operand is one of 32, the number a word
abbrev pub OperandSmall : Operand → Type 0
OperandSmall (Reg r) = r < 32
OperandSmall (Imm v) = v < 4294967296

abbrev pub DisplacementSmall : Displacement → Type 0
DisplacementSmall (Index r) = r < 32
DisplacementSmall (Bytes n) = n.0 < 4294967296

-- .. so are those in an instruction
abbrev pub OperationSmall : Operation → Type 0
OperationSmall (Sethi rd imm22) = rd < 32
OperationSmall (Alu op cc rd rs1 x) = (rd < 32) × (rs1 < 32) × OperandSmall x
OperationSmall (Shift op rd rs1 x) = (rd < 32) × (rs1 < 32) × OperandSmall x
OperationSmall (Memory a rd rs1 d) = (rd < 32) × (rs1 < 32) × DisplacementSmall d

abbrev pub InstructionSmall : Instruction → Type 0
InstructionSmall (Plain x) = OperationSmall x
InstructionSmall (Branch b) = Unit {0}
InstructionSmall Return = Unit {0}

-- what is read is small, and a word that is not read has a number that is not 0
abbrev pub ReadingSound : Reading → Type 0
ReadingSound (Read x) = InstructionSmall x
ReadingSound (Unread n) = eqb n acceptance ≡ false

-- Every word is read so.
abbrev pub ReadsSound : Type 0
ReadsSound = (e : Edition) (w : ℕ) → ReadingSound (reading_of e w)

-- a privileged word, by its format and its opcode alone
abbrev pub is_privileged : ℕ → Bool
is_privileged w = (eqb (op_of w) 2 && privileged10 (op3_of w)) || (eqb (op_of w) 3 && privileged11 (op3_of w))

-- what is read is not privileged, and what is refused has the number of its sort
abbrev pub NumberedBy : Bool → Reading → Type 0
NumberedBy p (Read x) = p ≡ false
NumberedBy p (Unread n) = n ≡ cond p privileged not_read

-- "24 replaces 2 for these words", for exactly these; request 5: "24 keeps its list on both".
abbrev pub ReadsNumbered : Type 0
ReadsNumbered = (e : Edition) (w : ℕ) → NumberedBy (is_privileged w) (reading_of e w)

-- Request 5: what the older terminal reads, the newer reads alike.
abbrev pub ReadsAlike : Type 0
ReadsAlike = (w : ℕ) (x : Instruction) → reading_of V8 w ≡ Read x → reading_of V9 w ≡ Read x
