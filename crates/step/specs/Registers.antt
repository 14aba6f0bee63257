-- Registers and codes with their marks (document 01: "registers are r0 to r31. r0 reads as zero and writes to it vanish";
-- "r0 counts as a set zero, and ends a run as one"), and the marks of the six scratch words (document 02, request 7: "In the machine the six start unset and a
-- store sets one; outcomes give their marks").
use Rattle.std.specs.Prelude.{ℕ, zero, suc, ◌+◌, Bool, true, false, cond, List, ltb, eqb, get_or, set}
use Rattle.v8.specs.declared.Operand.{Operand}
use Rattle.v8.specs.declared.Operand.TheVariants.{Reg, Imm}
use Rattle.alu.specs.declared.codes.Codes.{Codes}
use Rattle.memory.specs.Frame.{scratch_count}
use Rattle.step.specs.declared.Registers.{Registers}
use Rattle.step.specs.declared.Marked.{Marked}

-- the mark of scratch word k, after those of the 32 registers
abbrev pub scratch_mark : ℕ → ℕ
scratch_mark k = 32 + k

-- how many marks there are: one for each register and for each scratch word
abbrev pub mark_count : ℕ
mark_count = scratch_mark scratch_count

-- what register r reads as, of 32 values; a number above 31 names no register
unfoldable pub value_in : List ℕ → ℕ → ℕ
value_in values r = cond (eqb r 0) 0 (cond (ltb r 32) (get_or values r 0) 0)

-- whether register r is set, of the marks
unfoldable pub set_in : List Bool → ℕ → Bool
set_in marks r = cond (eqb r 0) true (cond (ltb r 32) (get_or marks r false) false)

-- what a register reads as
abbrev pub value_of : Registers → ℕ → ℕ
value_of g r = value_in g.values r

-- whether a register is set
abbrev pub is_set : Registers → ℕ → Bool
is_set g r = set_in g.marks r

-- the values and the marks after a write to register r
unfoldable pub values_with : List ℕ → ℕ → ℕ → List ℕ
values_with values r v = cond (eqb r 0) values (cond (ltb r 32) (set values r v) values)

unfoldable pub marks_with : List Bool → ℕ → List Bool
marks_with marks r = cond (eqb r 0) marks (cond (ltb r 32) (set marks r true) marks)

-- the registers after a write
abbrev pub written : Registers → ℕ → ℕ → Registers
written g r v = record { values = values_with g.values r v; marks = marks_with g.marks r; codes = g.codes }

-- the registers after the codes are set
abbrev pub with_codes : Registers → Codes → Registers
with_codes g f = record { values = g.values; marks = g.marks; codes = record { value = f; set = true } }

-- the registers with r0 a set zero
abbrev pub with_zero : Registers → Registers
with_zero g = record { values = set g.values 0 0; marks = set g.marks 0 true; codes = g.codes }

-- whether scratch word k is set
abbrev pub scratch_set : Registers → ℕ → Bool
scratch_set g k = get_or g.marks (scratch_mark k) false

-- the registers with scratch word k set
abbrev pub with_scratch : Registers → ℕ → Registers
with_scratch g k = record { values = g.values; marks = set g.marks (scratch_mark k) true; codes = g.codes }

-- n marks from place i on become unset
abbrev pub unset_from : List Bool → ℕ → ℕ → List Bool
unset_from marks i zero = marks
unset_from marks i (suc n) = unset_from (set marks i false) (i + 1) n

-- the registers with the six scratch words unset
abbrev pub unset_scratch : Registers → Registers
unset_scratch g = record { values = g.values; marks = unset_from g.marks (scratch_mark 0) scratch_count; codes = g.codes }

-- what a second operand gives
abbrev pub operand_in : List ℕ → Operand → ℕ
operand_in values (Reg r) = value_in values r
operand_in values (Imm v) = v

abbrev pub operand_value : Registers → Operand → ℕ
operand_value g x = operand_in g.values x

-- whether a second operand is set: a number always is
abbrev pub operand_set_in : List Bool → Operand → Bool
operand_set_in marks (Reg r) = set_in marks r
operand_set_in marks (Imm v) = true

abbrev pub operand_set : Registers → Operand → Bool
operand_set g x = operand_set_in g.marks x

-- what a register, or a second operand, reads as, with its mark
abbrev pub register_of : Registers → ℕ → Marked
register_of g r = record { value = value_of g r; set = is_set g r }

abbrev pub operand_of : Registers → Operand → Marked
operand_of g x = record { value = operand_value g x; set = operand_set g x }
