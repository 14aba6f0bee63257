-- V8's effect of each operation on registers, codes and memory, or the first fault in document 01's order: 102
-- unset read, 104 unaligned, 103 not inside one field of matching element and permission; for scratch words (document 02, request 7) "102 on an LD of an
-- unset one, and 103 for the rest of the frame and other widths". "A faulting step changes nothing."
use Rattle.std.specs.Prelude.{ℕ, ◌+◌, ◌%◌, Bool, true, cond, ◌&&◌, List, eqb}
use Rattle.v8.specs.declared.AluOp.{AluOp}
use Rattle.v8.specs.declared.ShiftOp.{ShiftOp}
use Rattle.v8.specs.declared.Operand.{Operand}
use Rattle.v8.specs.declared.Displacement.{Displacement}
use Rattle.v8.specs.declared.Access.{Access}
use Rattle.v8.specs.declared.Access.TheVariants.{Loads, Stores}
use Rattle.v8.specs.declared.Operation.{Operation}
use Rattle.v8.specs.declared.Operation.TheVariants.{Sethi, Alu, Shift, Memory}
use Rattle.v8.specs.Numbers.{unset_read, no_field, unaligned}
use Rattle.alu.specs.Result.{add32, alu_of, shift_of, sethi_of}
use Rattle.alu.specs.Codes.{codes_of}
use Rattle.memory.specs.Memory.{load_of, store_of}
use Rattle.memory.specs.Place.{part_start, scratch_place}
use Rattle.policy.specs.declared.Regions.{Regions}
use Rattle.step.specs.declared.Registers.{Registers}
use Rattle.step.specs.declared.Aim.{Aim}
use Rattle.step.specs.declared.Aim.TheVariants.{Address, Missed}
use Rattle.access.specs.declared.Located.{Located}
use Rattle.access.specs.declared.Located.TheVariants.{At, Scratch, Nowhere}
use Rattle.step.specs.Registers.{value_in, set_in, operand_in, operand_set_in, value_of, is_set, written, with_codes, scratch_set, with_scratch, operand_value, operand_set}
use Rattle.access.specs.Serve.{access_width, addend}
use Rattle.access.specs.Layout.{Layout}
use Rattle.access.specs.Locate.{locate}

-- what instructions work on: registers and codes, and the lent memory
pub record Core : Type 0 where
  pub registers : Registers
  pub memory : List ℕ

-- what an instruction does
pub data Effect : Type 0 where
  fault : ℕ → Effect
  done : Core → Effect

-- the registers become g
abbrev pub keeping : Core → Registers → Effect
keeping c g = done (record { registers = g; memory = c.memory })

-- an effect that needs its operands set
abbrev pub if_set : Bool → Effect → Effect
if_set operands e = cond operands e (fault unset_read)

-- the registers after an arithmetic or logic instruction
abbrev pub alu_registers : Registers → AluOp → Bool → ℕ → ℕ → ℕ → Registers
alu_registers g op cc rd x y = cond cc (with_codes (written g rd (alu_of op x y)) (codes_of op x y)) (written g rd (alu_of op x y))

abbrev pub sethi_effect : Core → ℕ → ℕ → Effect
sethi_effect c rd imm22 = keeping c (written c.registers rd (sethi_of imm22))

abbrev pub alu_effect : Core → AluOp → Bool → ℕ → ℕ → Operand → Effect
alu_effect c op cc rd rs1 x =
    if_set (is_set c.registers rs1 && operand_set c.registers x)
    (keeping c (alu_registers c.registers op cc rd (value_of c.registers rs1) (operand_value c.registers x)))

abbrev pub shift_effect : Core → ShiftOp → ℕ → ℕ → Operand → Effect
shift_effect c op rd rs1 x =
    if_set (is_set c.registers rs1 && operand_set c.registers x)
    (keeping c (written c.registers rd (shift_of op (value_of c.registers rs1) (operand_value c.registers x))))

-- the address of an access: the sum modulo 2^32
abbrev pub address_in : List ℕ → ℕ → Displacement → ℕ
address_in values rs1 d = add32 (value_in values rs1) (operand_in values (addend d))

-- where an access aims: 102 if what it reads is unset, 104 if the address is no multiple of the width
unfoldable pub aim_in : List ℕ → List Bool → Bool → ℕ → Displacement → ℕ → Aim
aim_in values marks others rs1 d width =
    cond (set_in marks rs1 && operand_set_in marks (addend d) && others)
    (cond (eqb (address_in values rs1 d % width) 0) (Address (address_in values rs1 d)) (Missed unaligned))
    (Missed unset_read)

abbrev pub aim_of : Registers → Bool → ℕ → Displacement → ℕ → Aim
aim_of g others rs1 d width = aim_in g.values g.marks others rs1 d width

-- whether what an access moves is set: a store reads its register, a load reads no other
abbrev pub moved_set : List Bool → Access → ℕ → Bool
moved_set marks (Loads op) rd = true
moved_set marks (Stores op) rd = set_in marks rd

-- an access to a place of the lent memory: a load writes its register; "A store is written into that region's part of the lent memory"
abbrev pub touching : Core → Access → ℕ → ℕ → Effect
touching c (Loads op) rd place = keeping c (written c.registers rd (load_of op c.memory place))
touching c (Stores op) rd place = done (record { registers = c.registers; memory = store_of op (value_of c.registers rd) place c.memory })

-- an access to scratch word k, at its place: a load needs it set, "a store sets one"
abbrev pub scratch_access : Core → Access → ℕ → ℕ → ℕ → Effect
scratch_access c (Loads op) rd k place = if_set (scratch_set c.registers k) (touching c (Loads op) rd place)
scratch_access c (Stores op) rd k place = touching (record { registers = with_scratch c.registers k; memory = c.memory }) (Stores op) rd place

-- an access where it lies
abbrev pub access_at : Regions → Core → Access → ℕ → Located → Effect
access_at regions c a rd (At r offset) = touching c a rd (part_start regions.sizes r + offset.0)
access_at regions c a rd (Scratch k) = scratch_access c a rd k (scratch_place regions.sizes regions.count k)
access_at regions c a rd Nowhere = fault no_field

-- an access to an address
abbrev pub access_to : Layout → Core → Access → ℕ → ℕ → Effect
access_to l c a rd address = access_at l.regions c a rd (locate l a address)

-- an access, by where it aims
abbrev pub access_aimed : Layout → Core → Access → ℕ → Aim → Effect
access_aimed l c a rd (Address address) = access_to l c a rd address
access_aimed l c a rd (Missed n) = fault n

abbrev pub access_effect : Layout → Core → Access → ℕ → ℕ → Displacement → Effect
access_effect l c a rd rs1 d = access_aimed l c a rd (aim_of c.registers (moved_set c.registers.marks a rd) rs1 d (access_width a))

-- the effect of an operation
abbrev pub effect_of : Layout → Core → Operation → Effect
effect_of l c (Sethi rd imm22) = sethi_effect c rd imm22
effect_of l c (Alu op cc rd rs1 x) = alu_effect c op cc rd rs1 x
effect_of l c (Shift op rd rs1 x) = shift_effect c op rd rs1 x
effect_of l c (Memory a rd rs1 d) = access_effect l c a rd rs1 d
