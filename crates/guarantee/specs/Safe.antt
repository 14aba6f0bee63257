-- What each step of an accepted routine is safe from (document 01, demand 3): "none reads anything unset, uses a null or unaligned address,
-- or loads or stores anywhere but inside a field whose policy allows it"; "of the two numbers that an access in a region adds, one lies from
-- that region's start to start + size". Request 7: "The running guarantee allows these six words, nothing else in the frame, and covers unset ones".
use Rattle.std.specs.Prelude.{ℕ, ◌+◌, ◌%◌, ◌≤◌, ◌<◌, ◌≡◌, ◌⊎◌, true}
use Rattle.v8.specs.declared.Displacement.{Displacement}
use Rattle.v8.specs.declared.Access.{Access}
use Rattle.v8.specs.declared.Access.TheVariants.{Loads, Stores}
use Rattle.v8.specs.declared.Operation.{Operation}
use Rattle.v8.specs.declared.Operation.TheVariants.{Sethi, Alu, Shift, Memory}
use Rattle.v8.specs.declared.Instruction.{Instruction}
use Rattle.v8.specs.declared.Instruction.TheVariants.{Plain, Branch, Return}
use Rattle.v8.specs.declared.Reading.{Reading}
use Rattle.v8.specs.declared.Reading.TheVariants.{Read, Unread}
use Rattle.alu.specs.Result.{add32}
use Rattle.flow_edges.specs.Transfer.{reads_codes, link}
use Rattle.policy.specs.declared.Policy.{Policy}
use Rattle.policy.specs.Policy.{size_of, count_of, field_end}
use Rattle.memory.specs.Frame.{scratch_count, scratch_offset}
use Rattle.access.specs.Serve.{access_width, is_word, serves, allows, addend}
use Rattle.step.specs.declared.Registers.{Registers}
use Rattle.step.specs.Registers.{value_of, is_set, scratch_set, operand_value, operand_set}
use Rattle.step.specs.Effect.{moved_set}
use Rattle.rows.specs.Matches.{Host, base_of}
use Rattle.guarantee.specs.Fields.{field_of}

-- an access to the sum of x and y
pub record SafeAccess (p : Policy) (h : Host) (a : Access) (x y : ℕ) : Type 0 where
  pub region : ℕ
  pub field : ℕ
  pub offset : ℕ
  pub region_is : region < p.regions.count
  pub field_is : field < count_of p region
  -- it lies at an offset of the region, inside the field
  pub address : add32 x y ≡ base_of h region + offset
  pub low : (field_of p region field).offset.0 ≤ offset
  pub high : offset + access_width a ≤ field_end (field_of p region field)
  -- of matching element and permission
  pub serving : serves a (field_of p region field).element ≡ true
  pub allowing : allows a (field_of p region field).permission ≡ true
  -- neither unaligned nor null
  pub aligned : add32 x y % access_width a ≡ 0
  pub not_null : 1 ≤ add32 x y
  -- one of the numbers added lies from the region's start to its end
  pub near : ((base_of h region ≤ x) × (x ≤ base_of h region + size_of p region)) ⊎ ((base_of h region ≤ y) × (y ≤ base_of h region + size_of p region))

-- scratch word k is set where an access reads it, as a load does
abbrev pub ScratchRead : Registers → Access → ℕ → Type 0
ScratchRead g (Loads op) k = scratch_set g k ≡ true
ScratchRead g (Stores op) k = Unit {0}

-- an access of a scratch word, to the sum of x and y
pub record SafeScratch (h : Host) (g : Registers) (a : Access) (x y : ℕ) : Type 0 where
  pub word : ℕ
  pub word_is : word < scratch_count
  -- it is LD or ST of that word
  pub address : add32 x y ≡ h.frame + scratch_offset word
  pub wide : is_word a ≡ true
  -- which is set if it is read
  pub read : ScratchRead g a word
  -- neither unaligned nor null
  pub aligned : add32 x y % access_width a ≡ 0
  pub not_null : 1 ≤ add32 x y
  -- of the numbers added one is the frame address, the other the word's offset
  pub sum : ((x ≡ h.frame) × (y ≡ scratch_offset word)) ⊎ ((x ≡ scratch_offset word) × (y ≡ h.frame))

-- an access by a register and a displacement, both set, inside a field or of a scratch word
abbrev pub AccessSafe : Policy → Host → Access → Registers → ℕ → Displacement → Type 0
AccessSafe p h a g rs1 d =
    (is_set g rs1 ≡ true) × (operand_set g (addend d) ≡ true)
    × (SafeAccess p h a (value_of g rs1) (operand_value g (addend d)) ⊎ SafeScratch h g a (value_of g rs1) (operand_value g (addend d)))

-- an operation that reads what is set, and accesses memory as it may
abbrev pub OperationSafe : Policy → Host → Registers → Operation → Type 0
OperationSafe p h g (Sethi rd imm22) = Unit {0}
OperationSafe p h g (Alu op cc rd rs1 x) = (is_set g rs1 ≡ true) × (operand_set g x ≡ true)
OperationSafe p h g (Shift op rd rs1 x) = (is_set g rs1 ≡ true) × (operand_set g x ≡ true)
OperationSafe p h g (Memory a rd rs1 d) = (moved_set g.marks a rd ≡ true) × AccessSafe p h a g rs1 d

-- .. and a transfer that does: a branch by codes that are set, the return to the caller
abbrev pub InstructionSafe : Policy → Host → Registers → Instruction → Type 0
InstructionSafe p h g (Plain x) = OperationSafe p h g x
InstructionSafe p h g (Branch b) = reads_codes b.cond ≡ true → g.codes.set ≡ true
InstructionSafe p h g Return = (is_set g link ≡ true) × (value_of g link ≡ h.returns)

-- a word that is read, and whose instruction is safe
abbrev pub ReadingSafe : Policy → Host → Registers → Reading → Type 0
ReadingSafe p h g (Read x) = InstructionSafe p h g x
ReadingSafe p h g (Unread n) = ⊥
