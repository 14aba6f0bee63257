-- What is written is read back as the same instruction.
--
-- A written word is the sum of its fields, each below its field's size, so every field reads back (`Packed`). The opcode then
-- chooses the instruction's own case of the reading, and the low 14 bits read as the operand that they were written from.
use Prim.Native.Nat.{ℕ, ◌+◌, ◌*◌, ◌/◌, ◌%◌, ◌^◌, ◌<◌}
use mathlib.Core.Path.{◌≡◌, refl, sym, ap, ◌∙◌}
use mathlib.Core.Bool.{Bool, true, false, cond}
use native.Mathlib.Omega.{arith}
use lib.Dec.{ltb, eqb}
use borrow.Author.Tests.{ltb-true, eqb-true}
use Rattle.v8.proofs.Choice.{cond_went}
use Rattle.v8.specs.Signed.{sign_extend}
use Rattle.v8.specs.Field.{op_of, rd_of, annul_of, cond_of, op2_of, low22_of, cc_of, predict_of, low19_of, op3_of, rs1_of, i_of, unused_of, rs2_of, simm13_of}
use Rattle.v8.specs.Read.{reading_of, branch_of, format00, format10, format11, operand_of, count_of, displacement_of, alu_with, shift_with, memory_with}
use Rattle.writer.specs.Write.{writing_of, i_bit, signed_bits, five_bits, operand_bits, count_bits, displacement_bits, alu_code_cc, shift_code, access_code, pack_of, packed, sethi_word, branch_bits, branch_word, operation_word}
use Rattle.writer.specs.Laws.{WrittenIsRead}
use Rattle.writer.proofs.Ranges.{Fits, operand_fits, count_fits, displacement_fits, branch_fits, alu_cc_small, shift_small, access_small}
use Rattle.v8.specs.declared.Edition.{Edition}
use Rattle.v8.specs.declared.Edition.TheVariants.{V8, V9}
use Rattle.v8.specs.declared.BranchForm.{BranchForm}
use Rattle.v8.specs.declared.BranchForm.TheVariants.{Unpredicted, Predicted}
use Rattle.v8.specs.declared.AluOp.{AluOp}
use Rattle.v8.specs.declared.AluOp.TheVariants.{Add, And, Or, Xor, Sub, Andn, Orn, Xnor}
use Rattle.v8.specs.declared.ShiftOp.{ShiftOp}
use Rattle.v8.specs.declared.ShiftOp.TheVariants.{Sll, Srl, Sra}
use Rattle.v8.specs.declared.LoadOp.TheVariants.{Ld, Ldub, Lduh, Ldsb, Ldsh}
use Rattle.v8.specs.declared.StoreOp.TheVariants.{St, Stb, Sth}
use Rattle.v8.specs.declared.Access.{Access}
use Rattle.v8.specs.declared.Access.TheVariants.{Loads, Stores}
use Rattle.v8.specs.declared.Operand.{Operand}
use Rattle.v8.specs.declared.Operand.TheVariants.{Reg, Imm}
use Rattle.v8.specs.declared.Displacement.{Displacement}
use Rattle.v8.specs.declared.Displacement.TheVariants.{Index, Bytes}
use Rattle.v8.specs.declared.Operation.{Operation}
use Rattle.v8.specs.declared.Operation.TheVariants.{Sethi, Alu, Shift, Memory}
use Rattle.v8.specs.declared.Instruction.TheVariants.{Plain, Branch, Return}
use Rattle.v8.specs.declared.Reading.TheVariants.{Read}
use Rattle.std.specs.Prelude.{Option, Some, None}

unwritable : {A : Type 0} {w : ℕ} → None ≡ Some w → A
unwritable e = let z : ◌≡◌ {A = ℕ} 0 1 = cc in absurd (omega arith)

out_of_range : {A : Type 0} {b : ℕ} → None ≡ Some b → A
out_of_range e = let z : ◌≡◌ {A = ℕ} 0 1 = cc in absurd (omega arith)

written : {a b : ℕ} → Some a ≡ Some b → a ≡ b
written e = cc

bits : {a b : ℕ} → Some a ≡ Some b → a ≡ b
bits e = cc

-- ---- the parts

-- a signed number that fits is the sign extension of its bits
signed-bits : {A : Type 0} (n i v b : ℕ) → signed_bits n i v ≡ Some b → (v ≡ sign_extend n (v % 2 ^ n) → i + v % 2 ^ n ≡ b → A) → A
unfolding signed_bits
signed-bits n i v b e k = cond_went (eqb v (sign_extend n (v % 2 ^ n))) _ _ _ e (λ t q. k (eqb-true _ _ t) (bits q)) (λ t q. out_of_range q)

five-bits : {A : Type 0} (i v b : ℕ) → five_bits i v ≡ Some b → (v < 32 → i + v ≡ b → A) → A
unfolding five_bits
five-bits i v b e k = cond_went (ltb v 32) _ _ _ e (λ t q. k (ltb-true _ _ t) (bits q)) (λ t q. out_of_range q)

reg_read : (r b : ℕ) → r < 32 → 0 + r ≡ b → operand_of b ≡ Some (Reg r)
unfolding operand_of
reg_read r b h e =
    let i : i_of b ≡ 0 = omega arith in
    let u : unused_of b ≡ 0 = omega arith in
    let n : rs2_of b ≡ r = omega arith in
    simp (i, u, n)

imm_read : (v b : ℕ) → v ≡ sign_extend 13 (v % 2 ^ 13) → i_bit + v % 2 ^ 13 ≡ b → operand_of b ≡ Some (Imm v)
unfolding operand_of
imm_read v b h e =
    let i : i_of b ≡ 1 = omega arith in
    let n : simm13_of b ≡ v % 2 ^ 13 = omega arith in
    simp (i, n, ← h)

operand_read : (x : Operand) (b : ℕ) → operand_bits x ≡ Some b → operand_of b ≡ Some x
operand_read (Reg r) b e = five-bits 0 r b e (reg_read r b)
operand_read (Imm v) b e = signed-bits 13 i_bit v b e (imm_read v b)

count_reg : (r b : ℕ) → r < 32 → 0 + r ≡ b → count_of b ≡ Some (Reg r)
unfolding count_of
count_reg r b h e =
    let i : i_of b ≡ 0 = omega arith in
    let u : unused_of b ≡ 0 = omega arith in
    let n : rs2_of b ≡ r = omega arith in
    simp (i, u, n)

count_imm : (v b : ℕ) → v < 32 → i_bit + v ≡ b → count_of b ≡ Some (Imm v)
unfolding count_of
count_imm v b h e =
    let d : b / 2 ^ 5 ≡ 256 = omega arith in
    let i : i_of b ≡ 1 = omega arith in
    let u : unused_of b ≡ 0 = rw d in
    let n : rs2_of b ≡ v = omega arith in
    simp (i, u, n)

count_read : (x : Operand) (b : ℕ) → count_bits x ≡ Some b → count_of b ≡ Some x
count_read (Reg r) b e = five-bits 0 r b e (count_reg r b)
count_read (Imm v) b e = five-bits i_bit v b e (count_imm v b)

-- the fields in the low 14 bits, where an operand and a count stand
low_i : (w : ℕ) → i_of (w % 2 ^ 14) ≡ i_of w
low_i w = omega arith

low_unused : (w : ℕ) → unused_of (w % 2 ^ 14) ≡ unused_of w
low_unused w = omega arith

low_rs2 : (w : ℕ) → rs2_of (w % 2 ^ 14) ≡ rs2_of w
low_rs2 w = omega arith

low_simm13 : (w : ℕ) → simm13_of (w % 2 ^ 14) ≡ simm13_of w
low_simm13 w = omega arith

operand_low : (w : ℕ) → operand_of (w % 2 ^ 14) ≡ operand_of w
unfolding operand_of
operand_low w = simp (low_i w, low_unused w, low_rs2 w, low_simm13 w)

count_low : (w : ℕ) → count_of (w % 2 ^ 14) ≡ count_of w
unfolding count_of
count_low w = simp (low_i w, low_unused w, low_rs2 w)

-- ---- words of the formats 10 and 11

-- the fields of a packed word
record Packed (op rd op3 rs1 w : ℕ) (low : Option ℕ) : Type 0 where
  b : ℕ
  is : low ≡ Some b
  op_is : op_of w ≡ op
  rd_is : rd_of w ≡ rd
  op3_is : op3_of w ≡ op3
  rs1_is : rs1_of w ≡ rs1
  low_is : w % 2 ^ 14 ≡ b

fields : (op rd op3 rs1 w b : ℕ) → op < 4 → op3 < 64 → b < 2 ^ 14 → rd < 32 → rs1 < 32 → pack_of op rd op3 rs1 b ≡ w → Packed op rd op3 rs1 w (Some b)
unfolding pack_of
fields op rd op3 rs1 w b h k l m n e =
    record { b = b; is = refl; op_is = omega arith; rd_is = omega arith; op3_is = omega arith; rs1_is = omega arith; low_is = omega arith }

parts : (op rd op3 rs1 w : ℕ) (low : Option ℕ) → op < 4 → op3 < 64 → Fits 14 low → packed op rd op3 rs1 low ≡ Some w → Packed op rd op3 rs1 w low
unfolding packed
parts op rd op3 rs1 w (Some b) h k l e =
    cond_went (ltb rd 32) _ _ _ e
    (λ t q.
    cond_went (ltb rs1 32) _ _ _ q
    (λ u q. fields op rd op3 rs1 w b h k l (ltb-true _ _ t) (ltb-true _ _ u) (written q))
    (λ u q. unwritable q))
    (λ t q. unwritable q)
parts op rd op3 rs1 w None h k l e = unwritable e

operand_at : {op rd op3 rs1 w : ℕ} (x : Operand) → Packed op rd op3 rs1 w (operand_bits x) → operand_of w ≡ Some x
operand_at {w = w} x p = sym (operand_low w) ∙ ap operand_of p.low_is ∙ operand_read x p.b p.is

count_at : {op rd op3 rs1 w : ℕ} (x : Operand) → Packed op rd op3 rs1 w (count_bits x) → count_of w ≡ Some x
count_at {w = w} x p = sym (count_low w) ∙ ap count_of p.low_is ∙ count_read x p.b p.is

-- an address's second part is read as an operand
abbrev as_operand : Displacement → Operand
as_operand (Index r) = Reg r
as_operand (Bytes d) = Imm d.0

as_bits : (d : Displacement) → displacement_bits d ≡ operand_bits (as_operand d)
as_bits (Index r) = refl
as_bits (Bytes d) = refl

as_back : (d : Displacement) → displacement_of (as_operand d) ≡ d
as_back (Index r) = refl
as_back (Bytes d) = refl

-- ---- the opcode chooses the case

in_10 : (e : Edition) (w : ℕ) → op_of w ≡ 2 → reading_of e w ≡ format10 w
unfolding reading_of
in_10 e w h = simp h

in_11 : (e : Edition) (w : ℕ) → op_of w ≡ 3 → reading_of e w ≡ format11 w
unfolding reading_of
in_11 e w h = simp h

alu_case : (op : AluOp) (cc : Bool) (w : ℕ) → op3_of w ≡ alu_code_cc op cc → format10 w ≡ alu_with op cc w (operand_of w)
unfolding format10
alu_case Add false w k = simp k
alu_case Add true w k = simp k
alu_case And false w k = simp k
alu_case And true w k = simp k
alu_case Or false w k = simp k
alu_case Or true w k = simp k
alu_case Xor false w k = simp k
alu_case Xor true w k = simp k
alu_case Sub false w k = simp k
alu_case Sub true w k = simp k
alu_case Andn false w k = simp k
alu_case Andn true w k = simp k
alu_case Orn false w k = simp k
alu_case Orn true w k = simp k
alu_case Xnor false w k = simp k
alu_case Xnor true w k = simp k

shift_case : (op : ShiftOp) (w : ℕ) → op3_of w ≡ shift_code op → format10 w ≡ shift_with op w (count_of w)
unfolding format10
shift_case Sll w k = simp k
shift_case Srl w k = simp k
shift_case Sra w k = simp k

memory_case : (a : Access) (w : ℕ) → op3_of w ≡ access_code a → format11 w ≡ memory_with a w (operand_of w)
unfolding format11
memory_case (Loads Ld) w k = simp k
memory_case (Loads Ldub) w k = simp k
memory_case (Loads Lduh) w k = simp k
memory_case (Loads Ldsb) w k = simp k
memory_case (Loads Ldsh) w k = simp k
memory_case (Stores St) w k = simp k
memory_case (Stores Stb) w k = simp k
memory_case (Stores Sth) w k = simp k

-- ---- format 00

sethi_fields : (e : Edition) (rd imm22 w : ℕ) → rd < 32 → imm22 < 2 ^ 22 → rd * 2 ^ 25 + 4 * 2 ^ 22 + imm22 ≡ w → reading_of e w ≡ Read (Plain (Sethi rd imm22))
unfolding reading_of format00
sethi_fields e rd imm22 w p q r =
    let op : op_of w ≡ 0 = omega arith in
    let op2 : op2_of w ≡ 4 = omega arith in
    let d : rd_of w ≡ rd = omega arith in
    let v : low22_of w ≡ imm22 = omega arith in
    simp (op, op2, d, v)

sethi_back : (e : Edition) (rd imm22 w : ℕ) → sethi_word rd imm22 ≡ Some w → reading_of e w ≡ Read (Plain (Sethi rd imm22))
unfolding sethi_word
sethi_back e rd imm22 w p =
    cond_went (ltb rd 32) _ _ _ p
    (λ t q.
    cond_went (ltb imm22 (2 ^ 22)) _ _ _ q
    (λ u q. sethi_fields e rd imm22 w (ltb-true _ _ t) (ltb-true _ _ u) (written q))
    (λ u q. unwritable q))
    (λ t q. unwritable q)

-- the bits 24:0 of a branch are read as its form and its distance
unpredicted_read : (e : Edition) (v b w : ℕ) → op_of w ≡ 0 → w % 2 ^ 25 ≡ b → v ≡ sign_extend 22 (v % 2 ^ 22) → 2 * 2 ^ 22 + v % 2 ^ 22 ≡ b → reading_of e w ≡ branch_of w Unpredicted v
unfolding reading_of format00
unpredicted_read e v b w h l x s =
    let op2 : op2_of w ≡ 2 = omega arith in
    let f : low22_of w ≡ v % 2 ^ 22 = omega arith in
    simp (h, op2, f, ← x)

-- of one that is predicted, from its hint's bit n
record PredictedFields (n f w : ℕ) : Type 0 where
  op2_is : op2_of w ≡ 1
  cc_is : cc_of w ≡ 0
  hint_is : predict_of w ≡ n
  low_is : low19_of w ≡ f

predicted_fields : (n f b w : ℕ) → n < 2 → f < 2 ^ 19 → w % 2 ^ 25 ≡ b → 1 * 2 ^ 22 + n * 2 ^ 19 + f ≡ b → PredictedFields n f w
predicted_fields n f b w h k l e = record { op2_is = omega arith; cc_is = omega arith; hint_is = omega arith; low_is = omega arith }

predicted_read : (hint : Bool) (v b w : ℕ) → op_of w ≡ 0 → w % 2 ^ 25 ≡ b → v ≡ sign_extend 19 (v % 2 ^ 19) → 1 * 2 ^ 22 + cond hint (2 ^ 19) 0 + v % 2 ^ 19 ≡ b → reading_of V9 w ≡ branch_of w (Predicted hint) v
unfolding reading_of format00
predicted_read true v b w h l x s =
    let p = predicted_fields 1 (v % 2 ^ 19) b w (omega arith) (omega arith) l s in
    simp (h, p.op2_is, p.cc_is, p.hint_is, p.low_is, ← x)
predicted_read false v b w h l x s =
    let p = predicted_fields 0 (v % 2 ^ 19) b w (omega arith) (omega arith) l s in
    simp (h, p.op2_is, p.cc_is, p.hint_is, p.low_is, ← x)

form_read : (e : Edition) (form : BranchForm) (v b w : ℕ) → branch_bits e form v ≡ Some b → op_of w ≡ 0 → w % 2 ^ 25 ≡ b → reading_of e w ≡ branch_of w form v
form_read e Unpredicted v b w p h l = signed-bits 22 (2 * 2 ^ 22) v b p (unpredicted_read e v b w h l)
form_read V8 (Predicted hint) v b w p h l = out_of_range p
form_read V9 (Predicted hint) v b w p h l = signed-bits 19 (1 * 2 ^ 22 + cond hint (2 ^ 19) 0) v b p (predicted_read hint v b w h l)

-- the fields above them, from the annul bit n
record BranchFields (n cnd b w : ℕ) : Type 0 where
  op_is : op_of w ≡ 0
  annul_is : annul_of w ≡ n
  cond_is : cond_of w ≡ cnd
  low_is : w % 2 ^ 25 ≡ b

branch_fields : (n cnd b w : ℕ) → n < 2 → cnd < 16 → b < 2 ^ 25 → n * 2 ^ 29 + cnd * 2 ^ 25 + b ≡ w → BranchFields n cnd b w
branch_fields n cnd b w h k l e =
    record { op_is = omega arith; annul_is = rw top (omega arith); cond_is = omega arith; low_is = omega arith }
  where
    top : w / 2 ^ 29 ≡ n
    top = omega arith

branch_read : (e : Edition) (annul : Bool) (cnd : ℕ) (form : BranchForm) (v b w : ℕ) → branch_bits e form v ≡ Some b → cnd < 16 → b < 2 ^ 25 → cond annul (2 ^ 29) 0 + cnd * 2 ^ 25 + b ≡ w → reading_of e w ≡ Read (Branch (record { annul = annul; cond = cnd; distance = record { 0 = v }; form = form }))
branch_read e true cnd form v b w p h k s =
    let f = branch_fields 1 cnd b w (omega arith) h k s in
    form_read e form v b w p f.op_is f.low_is ∙ rw (f.annul_is, f.cond_is)
branch_read e false cnd form v b w p h k s =
    let f = branch_fields 0 cnd b w (omega arith) h k s in
    form_read e form v b w p f.op_is f.low_is ∙ rw (f.annul_is, f.cond_is)

branch_back : (e : Edition) (annul : Bool) (cnd : ℕ) (form : BranchForm) (v w : ℕ) (low : Option ℕ) → branch_bits e form v ≡ low → Fits 25 low → branch_word annul cnd low ≡ Some w → reading_of e w ≡ Read (Branch (record { annul = annul; cond = cnd; distance = record { 0 = v }; form = form }))
branch_back e annul cnd form v w (Some b) l k p =
    cond_went (ltb cnd 16) _ _ _ p (λ t q. branch_read e annul cnd form v b w l (ltb-true _ _ t) k (written q)) (λ t q. unwritable q)
branch_back e annul cnd form v w None l k p = unwritable p

-- ---- all

return_back : (e : Edition) (w : ℕ) → Some 0x81C3E008 ≡ Some w → reading_of e w ≡ Read Return
unfolding reading_of format10
return_back e w p = rw (← written p)

operation_back : (e : Edition) (x : Operation) (w : ℕ) → operation_word x ≡ Some w → reading_of e w ≡ Read (Plain x)
operation_back e (Sethi rd imm22) w q = sethi_back e rd imm22 w q
operation_back e (Alu op cc rd rs1 x) w q =
    let p = parts 2 rd (alu_code_cc op cc) rs1 w (operand_bits x) (omega arith) (alu_cc_small op cc) (operand_fits x) q in
    in_10 e w p.op_is ∙ alu_case op cc w p.op3_is ∙ rw (operand_at x p, p.rd_is, p.rs1_is)
operation_back e (Shift op rd rs1 x) w q =
    let p = parts 2 rd (shift_code op) rs1 w (count_bits x) (omega arith) (shift_small op) (count_fits x) q in
    in_10 e w p.op_is ∙ shift_case op w p.op3_is ∙ rw (count_at x p, p.rd_is, p.rs1_is)
operation_back e (Memory a rd rs1 d) w q =
    let p = parts 3 rd (access_code a) rs1 w (displacement_bits d) (omega arith) (access_small a) (displacement_fits d) q in
    in_11 e w p.op_is ∙ memory_case a w p.op3_is ∙ rw (operand_at (as_operand d) (rw (as_bits d) at p), as_back d, p.rd_is, p.rs1_is)

pub written_is_read : WrittenIsRead
unfolding writing_of
written_is_read e (Plain x) w p = operation_back e x w p
written_is_read e (Branch b) w p = branch_back e b.annul b.cond b.form b.distance.0 w _ refl (branch_fits e b.form b.distance.0) p
written_is_read e Return w p = return_back e w p
