-- The register that an instruction writes, and those that it must leave to the caller (document 02, request 6: "a leaf routine leaves the stack
-- pointer, local and in registers unchanged"). 25 and what a word does to rows and to marks go by this one definition; the machine is tied to it
-- by a law (`step` Laws: `WritesNoOther`).
use Rattle.std.specs.Prelude.{ℕ, Bool, not, ◌&&◌, ◌||◌, leb, eqb}
use Rattle.v8.specs.declared.Access.{Access}
use Rattle.v8.specs.declared.Access.TheVariants.{Loads, Stores}
use Rattle.v8.specs.declared.Operation.{Operation}
use Rattle.v8.specs.declared.Operation.TheVariants.{Sethi, Alu, Shift, Memory}
use Rattle.v8.specs.declared.Instruction.{Instruction}
use Rattle.v8.specs.declared.Instruction.TheVariants.{Plain, Branch, Return}
use Rattle.v8.specs.declared.Reading.{Reading}
use Rattle.v8.specs.declared.Reading.TheVariants.{Read, Unread}

-- the register that an instruction writes; r0, where writes vanish, for one that writes none
abbrev pub access_writes : Access → ℕ → ℕ
access_writes (Loads op) rd = rd
access_writes (Stores op) rd = 0

abbrev pub operation_writes : Operation → ℕ
operation_writes (Sethi rd imm22) = rd
operation_writes (Alu op cc rd rs1 x) = rd
operation_writes (Shift op rd rs1 x) = rd
operation_writes (Memory a rd rs1 d) = access_writes a rd

abbrev pub register_written : Instruction → ℕ
register_written (Plain x) = operation_writes x
register_written (Branch b) = 0
register_written Return = 0

-- .. and a word, as it is read
abbrev pub written_by : Reading → ℕ
written_by (Read x) = register_written x
written_by (Unread number) = 0

-- r14, the stack pointer
abbrev pub stack_pointer : ℕ
stack_pointer = 14

-- register r is the caller's: "r14 or r16 to r31", "the stack pointer, local and in registers"
abbrev pub is_callers : ℕ → Bool
is_callers r = eqb r stack_pointer || leb 16 r && leb r 31

-- a word leaves the caller's registers alone: it writes none of them
abbrev pub leaves_callers : Reading → Bool
leaves_callers x = not (is_callers (written_by x))
