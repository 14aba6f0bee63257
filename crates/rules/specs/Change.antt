-- What each word does to a row, or the first condition that it breaks, with the register named (document 01, "What each word does to a row"
-- and "One word's conditions").
use Rattle.std.specs.Prelude.{ℕ, Bool, true, false, cond, not, ◌&&◌, List, leb, eqb}
use Rattle.v8.specs.Numbers.{unset_operand, no_rule, wrong_value}
use Rattle.v8.specs.declared.AluOp.{AluOp}
use Rattle.v8.specs.declared.ShiftOp.{ShiftOp}
use Rattle.v8.specs.declared.Operand.{Operand}
use Rattle.v8.specs.declared.Operand.TheVariants.{Reg, Imm}
use Rattle.v8.specs.declared.Access.{Access}
use Rattle.v8.specs.declared.Access.TheVariants.{Loads, Stores}
use Rattle.v8.specs.declared.Operation.{Operation}
use Rattle.v8.specs.declared.Operation.TheVariants.{Sethi, Alu, Shift, Memory}
use Rattle.v8.specs.declared.Instruction.{Instruction}
use Rattle.v8.specs.declared.Instruction.TheVariants.{Plain, Branch, Return}
use Rattle.alu.specs.Result.{sethi_of}
use Rattle.flow_edges.specs.Transfer.{reads_codes, link}
use Rattle.flow_writes.specs.Written.{operation_writes}
use Rattle.policy.specs.declared.Policy.{Policy}
use Rattle.policy.specs.Policy.{field_at}
use Rattle.access.specs.Serve.{addend}
use Rattle.rows.specs.declared.Entry.{Entry}
use Rattle.rows.specs.declared.Note.{Note}
use Rattle.rows.specs.declared.Row.{Row}
use Rattle.rows.specs.Entry.{is_unset, is_constant, is_return, is_frame, constant, fits, field_entry, is_comparison, codes_set, comparison}
use Rattle.rows.specs.Geometry.{scratch_entry, note_name, entry_name}
use Rattle.rows.specs.Row.{entry_at}
use Rattle.rules.specs.declared.Operands.{Operands}
use Rattle.rules.specs.declared.Result.{Result}
use Rattle.rules.specs.declared.Result.TheVariants.{Gives, Fails}
use Rattle.rules.specs.declared.Reach.{Reach}
use Rattle.rules.specs.declared.Reach.TheVariants.{Inside, Scratch, Outside}
use Rattle.rules.specs.declared.Change.{Change}
use Rattle.rules.specs.declared.Change.TheVariants.{Writes, Keeps, Breaks}
use Rattle.rules.specs.Result.{is_sub, alu_result, shift_result}
use Rattle.rules.specs.Reach.{reach_of}

-- the entry of a second operand: an immediate is a single number
abbrev pub operand_entry : Row → Operand → Entry
operand_entry row (Reg r) = entry_at row r
operand_entry row (Imm word) = constant word

-- the register that a second operand names
abbrev pub operand_name : Operand → ℕ
operand_name (Reg r) = r
operand_name (Imm word) = 0

-- the operands of a word in a row
abbrev pub operands_of : Row → ℕ → Operand → Operands
operands_of row rs1 x = record { rs1 = rs1; first = entry_at row rs1; rs2 = operand_name x; second = operand_entry row x }

-- "Writing the noted register turns note 2 into 1."
unfoldable pub note_after : Note → ℕ → Note
note_after n rd = cond (is_comparison n && eqb n.register rd) codes_set n

-- "A code-setting word makes note 1, except SUBcc of r1 to r31 by a single number with rd ≠ rs1: note 2."
unfoldable pub codes_note : AluOp → ℕ → ℕ → Entry → Note
codes_note op rd rs1 b = cond (is_sub op && leb 1 rs1 && is_constant b && not (eqb rd rs1)) (comparison rs1 b.set.lo) codes_set

-- "4 operand unset, in order rs1, rs2, stored rd: that register"
abbrev pub if_set : ℕ → Entry → Change → Change
if_set r e rest = cond (is_unset e) (Breaks unset_operand r) rest

-- a register is written with a result; "the others name rs1"
abbrev pub writing : ℕ → Note → ℕ → Result → Change
writing rd n rs1 (Gives e) = Writes rd e n
writing rd n rs1 (Fails number) = Breaks number rs1

-- arithmetic and logic on a word's operands, code-setting or not
unfoldable pub alu_change : List ℕ → Note → AluOp → Bool → ℕ → Operands → Change
alu_change sizes n op cc rd o =
    if_set o.rs1 o.first (if_set o.rs2 o.second
    (writing rd (cond cc (codes_note op rd o.rs1 o.second) (note_after n rd)) o.rs1 (alu_result sizes op o.first o.second)))

-- a shift of the first operand by the second
unfoldable pub shift_change : Note → ShiftOp → ℕ → Operands → Change
shift_change n op rd o =
    if_set o.rs1 o.first (if_set o.rs2 o.second
    (writing rd (note_after n rd) o.rs1 (shift_result op o.first o.second)))

-- the access is a store, and so reads rd
abbrev pub stores : Access → Bool
stores (Loads op) = false
stores (Stores op) = true

-- an access of rd, whose entry is e, to an element that holds an entry; `to` is the register that it writes: "A load: the field's lo to hi, step
-- 1; or start of the target; or kind 3."; "11 stored entry does not fit the element, register rd"
abbrev pub accessed : Note → Access → ℕ → ℕ → Entry → Entry → Change
accessed n (Loads op) to rd e held = Writes to held (note_after n to)
accessed n (Stores op) to rd e held = cond (fits e held) Keeps (Breaks wrong_value rd)

-- an access of a register, whose entry is e, to a scratch word whose entry has an index: "LD and ST through r14 with a single number read or replace
-- the scratch entry"; "4 for an unset word". A note names a register, so that a store leaves it.
abbrev pub kept_at : Row → Access → ℕ → Entry → ℕ → Change
kept_at row (Loads op) to e i = if_set (entry_name i) (entry_at row i) (Writes to (entry_at row i) (note_after row.note to))
kept_at row (Stores op) to e i = Writes i e (note_after row.note i)

-- the same of rd, by where the access lies
abbrev pub accessed_at : Policy → Row → Access → ℕ → ℕ → Reach → Change
accessed_at p row a to rd (Inside place) = accessed row.note a to rd (entry_at row rd) (field_entry (field_at p place))
accessed_at p row a to rd (Scratch k) = kept_at row a to (entry_at row rd) (scratch_entry k)
accessed_at p row a to rd (Outside number r) = Breaks number r

-- a load, or a store of rd, at the sum of a word's operands
unfoldable pub access_change : Policy → Row → Access → ℕ → ℕ → Operands → Change
access_change p row a to rd o =
    if_set o.rs1 o.first (if_set o.rs2 o.second
    (cond (stores a && is_unset (entry_at row rd)) (Breaks unset_operand rd)
    (accessed_at p row a to rd
    (reach_of p.regions.fields p.fields a (stores a && is_frame (entry_at row rd)) o.rs1 o.first o.rs2 o.second))))

-- what an operation that writes a register does to a row
abbrev pub change_to : Policy → Row → ℕ → Operation → Change
change_to p row to (Sethi rd imm22) = Writes to (constant (sethi_of imm22)) (note_after row.note to)
change_to p row to (Alu op cc rd rs1 x) = alu_change p.regions.sizes row.note op cc to (operands_of row rs1 x)
change_to p row to (Shift op rd rs1 x) = shift_change row.note op to (operands_of row rs1 x)
change_to p row to (Memory a rd rs1 d) = access_change p row a to rd (operands_of row rs1 (addend d))

-- .. by the one definition of which that is
abbrev pub operation_change : Policy → Row → Operation → Change
operation_change p row x = change_to p row (operation_writes x) x

-- a branch reads the codes: "32 for codes, which always and never do not read"
unfoldable pub branch_change : Note → ℕ → Change
branch_change n cnd = cond (eqb n.kind 0 && reads_codes cnd) (Breaks unset_operand note_name) Keeps

-- "For the return: 6 if r15 isn't kind 4."
unfoldable pub return_change : Entry → Change
return_change e = if_set link e (cond (is_return e) Keeps (Breaks no_rule link))

-- what a word does to a row
abbrev pub change_of : Policy → Row → Instruction → Change
change_of p row (Plain x) = operation_change p row x
change_of p row (Branch b) = branch_change row.note b.cond
change_of p row Return = return_change (entry_at row link)
