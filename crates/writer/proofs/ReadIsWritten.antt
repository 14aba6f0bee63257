-- What is read is written back as the same word.
--
-- A reading has taken each field from the word, so each part that is written fits, and the parts add up to the word again:
-- a word is the sum of its fields (`unpacked`), and what is not in a field has been tested to be zero.
use Prim.Native.Nat.{ℕ, ◌+◌, ◌*◌, ◌/◌, ◌%◌, ◌-◌, ◌^◌, ◌<◌, ◌≤◌}
use mathlib.Core.Path.{◌≡◌, refl, sym, ap, ◌∙◌}
use mathlib.Core.Bool.{Bool, true, false, cond}
use native.Mathlib.Omega.{arith}
use lib.Dec.{ltb, eqb, eqb→eq}
use borrow.Author.Tests.{eqb-true, eqb-false, lt-ltb, eq-eqb}
use native.Mathlib.Nat.{add_comm, mod-eq_of_lt}
use lib.Pow.{low, high_ones}
use Rattle.v8.proofs.Choice.{cond_went, cond_both}
use Rattle.v8.proofs.Formats.{shift_at, access_at, format10_cases, format11_cases}
use Rattle.v8.proofs.Table.{at}
use Rattle.v8.proofs.Refused.{unread}
use Rattle.v8.specs.Signed.{sign_extend}
use Rattle.v8.specs.Field.{op_of, rd_of, annul_of, cond_of, op2_of, low22_of, cc_of, predict_of, low19_of, op3_of, rs1_of, i_of, unused_of, rs2_of, simm13_of}
use Rattle.v8.specs.Read.{reading_of, branch_of, predicted_of, format00, format10, format11, operand_of, count_of, displacement_of, alu_ops, alu_op_of, alu_with, shift_with, memory_with, leaf_return}
use Rattle.writer.specs.Write.{writing_of, i_bit, signed_bits, five_bits, operand_bits, count_bits, displacement_bits, alu_code, alu_code_cc, shift_code, access_code, pack_of, packed, sethi_word, branch_bits}
use Rattle.writer.specs.Laws.{ReadIsWritten}
use Rattle.v8.specs.declared.Edition.{Edition}
use Rattle.v8.specs.declared.Edition.TheVariants.{V8, V9}
use Rattle.v8.specs.declared.BranchForm.{BranchForm}
use Rattle.v8.specs.declared.AluOp.{AluOp}
use Rattle.v8.specs.declared.AluOp.TheVariants.{Add}
use Rattle.v8.specs.declared.ShiftOp.{ShiftOp}
use Rattle.v8.specs.declared.ShiftOp.TheVariants.{Sll, Srl, Sra}
use Rattle.v8.specs.declared.LoadOp.TheVariants.{Ld, Ldub, Lduh, Ldsb, Ldsh}
use Rattle.v8.specs.declared.StoreOp.TheVariants.{St, Stb, Sth}
use Rattle.v8.specs.declared.Access.{Access}
use Rattle.v8.specs.declared.Access.TheVariants.{Loads, Stores}
use Rattle.v8.specs.declared.Operand.{Operand}
use Rattle.v8.specs.declared.Operand.TheVariants.{Reg, Imm}
use Rattle.v8.specs.declared.Operation.TheVariants.{Sethi}
use Rattle.v8.specs.declared.Instruction.{Instruction}
use Rattle.v8.specs.declared.Instruction.TheVariants.{Plain, Return}
use Rattle.v8.specs.declared.Reading.{Reading}
use Rattle.v8.specs.declared.Reading.TheVariants.{Read}
use Rattle.std.specs.Prelude.{Option, Some, None}

read : {x y : Instruction} → Read x ≡ Read y → x ≡ y
read e = cc

second : {x y : Operand} → Some x ≡ Some y → x ≡ y
second e = cc

reserved : {A : Type 0} {x : Operand} → None ≡ Some x → A
reserved e = let z : ◌≡◌ {A = ℕ} 0 1 = cc in absurd (omega arith)

-- ---- the parts

-- sign extension keeps the field: what it adds is a multiple of 2^n
extended : (n f : ℕ) → n ≤ 32 → f < 2 ^ n → sign_extend n f % 2 ^ n ≡ f
unfolding sign_extend
extended n f h k =
    cond_both (λ (r : ℕ). r % 2 ^ n ≡ f) (ltb f (2 ^ (n - 1))) (λ _. mod-eq_of_lt k)
    (λ _. ap (λ (r : ℕ). r % 2 ^ n) multiple ∙ low (2 ^ (32 - n) - 1) n k)
  where
    whole : (n : ℕ) → n ≤ 32 → 32 ≡ 32 - n + n
    whole n h = omega arith

    multiple : f + (2 ^ 32 - 2 ^ n) ≡ (2 ^ (32 - n) - 1) * 2 ^ n + f
    multiple = add_comm f (2 ^ 32 - 2 ^ n) ∙ ap (λ (m : ℕ). m + f) (ap (λ (m : ℕ). 2 ^ m - 2 ^ n) (whole n h) ∙ high_ones (32 - n) n)

-- a sign-extended field is written as the field
signed_kept : (n i f : ℕ) → sign_extend n f % 2 ^ n ≡ f → signed_bits n i (sign_extend n f) ≡ Some (i + f)
unfolding signed_bits
signed_kept n i f e = simp (e, eq-eqb (sign_extend n f) _ refl)

five_kept : (i v : ℕ) → v < 32 → five_bits i v ≡ Some (i + v)
unfolding five_bits
five_kept i v h = simp (lt-ltb v 32 h)

-- the low 14 bits, from their fields
low_imm : (w : ℕ) → i_of w ≡ 1 → i_bit + simm13_of w ≡ w % 2 ^ 14
low_imm w h = omega arith

low_five : (w : ℕ) → unused_of w ≡ 0 → i_of w * 2 ^ 13 + rs2_of w ≡ w % 2 ^ 14
low_five w h =
    let d : w / 32 / 256 ≡ w / 8192 = omega arith in
    let f : w / 8192 / 2 ≡ w / 16384 = omega arith in
    omega arith

low_reg : (w : ℕ) → (i_of w ≡ 1 → ⊥) → unused_of w ≡ 0 → 0 + rs2_of w ≡ w % 2 ^ 14
low_reg w h u = let i : i_of w ≡ 0 = omega arith in let l = low_five w u in omega arith

operand_kept : (w : ℕ) (x : Operand) → operand_of w ≡ Some x → operand_bits x ≡ Some (w % 2 ^ 14)
unfolding operand_of
operand_kept w x e =
    cond_went (eqb (i_of w) 1) _ _ _ e
    (λ t q. rw (← second q) (signed_kept 13 i_bit (simm13_of w) (extended 13 (simm13_of w) (omega arith) (omega arith)) ∙ ap Some (low_imm w (eqb-true _ _ t))))
    (λ f q.
    cond_went (eqb (unused_of w) 0) _ _ _ q
    (λ t q. rw (← second q) (five_kept 0 (rs2_of w) (omega arith) ∙ ap Some (low_reg w (eqb-false _ _ f) (eqb-true _ _ t))))
    (λ g q. reserved q))

low_count : (w : ℕ) → i_of w ≡ 1 → unused_of w ≡ 0 → i_bit + rs2_of w ≡ w % 2 ^ 14
low_count w h u = let l = low_five w u in omega arith

count_kept : (w : ℕ) (x : Operand) → count_of w ≡ Some x → count_bits x ≡ Some (w % 2 ^ 14)
unfolding count_of
count_kept w x e =
    cond_went (eqb (unused_of w) 0) _ _ _ e
    (λ g q.
    cond_went (eqb (i_of w) 1) _ _ _ q
    (λ t q. rw (← second q) (five_kept i_bit (rs2_of w) (omega arith) ∙ ap Some (low_count w (eqb-true _ _ t) (eqb-true _ _ g))))
    (λ t q. rw (← second q) (five_kept 0 (rs2_of w) (omega arith) ∙ ap Some (low_reg w (eqb-false _ _ t) (eqb-true _ _ g)))))
    (λ g q. reserved q)

displacement_kept : (x : Operand) → displacement_bits (displacement_of x) ≡ operand_bits x
displacement_kept (Reg r) = refl
displacement_kept (Imm v) = refl

-- ---- words of the formats 10 and 11

-- a word is the sum of its fields
unpacked : (w : ℕ) → pack_of (op_of w) (rd_of w) (op3_of w) (rs1_of w) (w % 2 ^ 14) ≡ w
unfolding pack_of
unpacked w =
    let d1 : w / 33554432 / 32 ≡ w / 1073741824 = omega arith in
    let d2 : w / 524288 / 64 ≡ w / 33554432 = omega arith in
    let d3 : w / 16384 / 32 ≡ w / 524288 = omega arith in
    omega arith

packed_kept : (w op op3 : ℕ) (low : Option ℕ) → op_of w ≡ op → op3_of w ≡ op3 → low ≡ Some (w % 2 ^ 14) → packed op (rd_of w) op3 (rs1_of w) low ≡ Some w
unfolding packed
packed_kept w op op3 low p q r =
    rw (← p, ← q, r)
    (simp (lt-ltb (rd_of w) 32 (omega arith), lt-ltb (rs1_of w) 32 (omega arith)) (ap Some (unpacked w)))

alu_kept : (v : Edition) (w : ℕ) (op : AluOp) (cc : Bool) (x : Instruction) (o : Option Operand) → op_of w ≡ 2 → op3_of w ≡ alu_code_cc op cc → operand_of w ≡ o → alu_with op cc w o ≡ Read x → writing_of v x ≡ Some w
unfolding writing_of
alu_kept v w op cc x (Some o) p q r e = rw (← read e) (packed_kept w 2 _ _ p q (operand_kept w o r))
alu_kept v w op cc x None p q r e = unread e

shift_kept : (v : Edition) (w : ℕ) (op : ShiftOp) (x : Instruction) (o : Option Operand) → op_of w ≡ 2 → op3_of w ≡ shift_code op → count_of w ≡ o → shift_with op w o ≡ Read x → writing_of v x ≡ Some w
unfolding writing_of
shift_kept v w op x (Some o) p q r e = rw (← read e) (packed_kept w 2 _ _ p q (count_kept w o r))
shift_kept v w op x None p q r e = unread e

memory_kept : (v : Edition) (w : ℕ) (a : Access) (x : Instruction) (o : Option Operand) → op_of w ≡ 3 → op3_of w ≡ access_code a → operand_of w ≡ o → memory_with a w o ≡ Read x → writing_of v x ≡ Some w
unfolding writing_of
memory_kept v w a x (Some o) p q r e = rw (← read e) (packed_kept w 3 _ _ p q (displacement_kept o ∙ operand_kept w o r))
memory_kept v w a x None p q r e = unread e

return_kept : (v : Edition) (w : ℕ) (x : Instruction) → w ≡ leaf_return → Read Return ≡ Read x → writing_of v x ≡ Some w
unfolding writing_of
return_kept v w x h e = rw (← read e) (ap Some (sym h))

-- ---- each is written with the opcode that it is read with

alu-code : (k : ℕ) → k < 8 → alu_code (alu_op_of k) ≡ k
alu-code k h = eqb→eq _ _ (at Add (λ n op. eqb (alu_code op) n) alu_ops tt k h)

shift-code : (op : ShiftOp) → shift_at op ≡ shift_code op
shift-code Sll = refl
shift-code Srl = refl
shift-code Sra = refl

access-code : (a : Access) → access_at a ≡ access_code a
access-code (Loads Ld) = refl
access-code (Loads Ldub) = refl
access-code (Loads Lduh) = refl
access-code (Loads Ldsb) = refl
access-code (Loads Ldsh) = refl
access-code (Stores St) = refl
access-code (Stores Stb) = refl
access-code (Stores Sth) = refl

-- what is read is written back
abbrev Kept : Edition → Instruction → ℕ → Reading → Type 0
Kept v x w r = r ≡ Read x → writing_of v x ≡ Some w

format10_kept : (v : Edition) (w : ℕ) (x : Instruction) → op_of w ≡ 2 → Kept v x w (format10 w)
format10_kept v w x p =
    format10_cases (Kept v x w) w
    (λ k l e. alu_kept v w (alu_op_of k) false x (operand_of w) p (e ∙ sym (alu-code k l)) refl)
    (λ k l e. alu_kept v w (alu_op_of k) true x (operand_of w) p (e ∙ ap (λ (n : ℕ). n + 0x10) (sym (alu-code k l))) refl)
    (λ op e. shift_kept v w op x (count_of w) p (e ∙ shift-code op) refl)
    (return_kept v w x)
    unread

format11_kept : (v : Edition) (w : ℕ) (x : Instruction) → op_of w ≡ 3 → Kept v x w (format11 w)
format11_kept v w x p = format11_cases (Kept v x w) w (λ a e. memory_kept v w a x (operand_of w) p (e ∙ access-code a) refl) unread

-- ---- format 00

sethi_kept : (v : Edition) (w : ℕ) → op_of w ≡ 0 → op2_of w ≡ 4 → writing_of v (Plain (Sethi (rd_of w) (low22_of w))) ≡ Some w
unfolding writing_of sethi_word
sethi_kept v w h k =
    simp (lt-ltb (rd_of w) 32 (omega arith), lt-ltb (low22_of w) (2 ^ 22) (omega arith)) (ap Some (sum w h k))
  where
    sum : (w : ℕ) → op_of w ≡ 0 → op2_of w ≡ 4 → rd_of w * 2 ^ 25 + 4 * 2 ^ 22 + low22_of w ≡ w
    sum w h k = omega arith

-- a bit that is not set
clear : (n : ℕ) → (n % 2 ≡ 1 → ⊥) → n % 2 ≡ 0
clear n h = omega arith

-- a branch's word, from its annul bit n and what stands below
branch_fields : (w n : ℕ) → op_of w ≡ 0 → annul_of w ≡ n → n * 2 ^ 29 + cond_of w * 2 ^ 25 + w % 2 ^ 25 ≡ w
branch_fields w n h a = sum w n (top w n h a)
  where
    top : (w n : ℕ) → op_of w ≡ 0 → annul_of w ≡ n → w / 2 ^ 29 ≡ n
    top w n h a = let d : w / 536870912 / 2 ≡ w / 1073741824 = omega arith in omega arith

    sum : (w n : ℕ) → w / 2 ^ 29 ≡ n → n * 2 ^ 29 + cond_of w * 2 ^ 25 + w % 2 ^ 25 ≡ w
    sum w n a = let d : w / 33554432 / 16 ≡ w / 536870912 = omega arith in omega arith

branch_sum : (w : ℕ) (t : Bool) → eqb (annul_of w) 1 ≡ t → op_of w ≡ 0 → cond t (2 ^ 29) 0 + cond_of w * 2 ^ 25 + w % 2 ^ 25 ≡ w
branch_sum w true e h = branch_fields w 1 h (eqb-true (annul_of w) 1 e)
branch_sum w false e h = branch_fields w 0 h (clear (w / 2 ^ 29) (eqb-false (annul_of w) 1 e))

branch_kept : (v : Edition) (w : ℕ) (x : Instruction) (form : BranchForm) (d : ℕ) → op_of w ≡ 0 → branch_bits v form d ≡ Some (w % 2 ^ 25) → Kept v x w (branch_of w form d)
unfolding writing_of
branch_kept v w x form d h b e = rw (← read e, b) (simp (lt-ltb (cond_of w) 16 (omega arith)) (ap Some (branch_sum w _ refl h)))

-- the distance of either form, a field f of n bits below `head`
distance_kept : (w n head f : ℕ) → n ≤ 32 → f < 2 ^ n → head + f ≡ w % 2 ^ 25 → signed_bits n head (sign_extend n f) ≡ Some (w % 2 ^ 25)
distance_kept w n head f h k s = signed_kept n head f (extended n f h k) ∙ ap Some s

predicted_fields : (w n : ℕ) → predict_of w ≡ n → op2_of w ≡ 1 → cc_of w ≡ 0 → 1 * 2 ^ 22 + n * 2 ^ 19 + low19_of w ≡ w % 2 ^ 25
predicted_fields w n p h k =
    let d1 : w / 524288 / 2 ≡ w / 1048576 = omega arith in
    let d2 : w / 1048576 / 4 ≡ w / 4194304 = omega arith in
    let d3 : w / 4194304 / 8 ≡ w / 33554432 = omega arith in
    omega arith

predicted_sum : (w : ℕ) (t : Bool) → eqb (predict_of w) 1 ≡ t → op2_of w ≡ 1 → cc_of w ≡ 0 → 1 * 2 ^ 22 + cond t (2 ^ 19) 0 + low19_of w ≡ w % 2 ^ 25
predicted_sum w true e h k = predicted_fields w 1 (eqb-true (predict_of w) 1 e) h k
predicted_sum w false e h k = predicted_fields w 0 (clear (w / 2 ^ 19) (eqb-false (predict_of w) 1 e)) h k

predicted_kept : (v : Edition) (w : ℕ) (x : Instruction) → op_of w ≡ 0 → op2_of w ≡ 1 → Kept v x w (predicted_of v w)
predicted_kept V8 w x h k e = unread e
predicted_kept V9 w x h k e =
    cond_went (eqb (cc_of w) 0) _ _ _ e
    (λ t. branch_kept V9 w x _ _ h (distance_kept w 19 _ (low19_of w) (omega arith) (omega arith) (predicted_sum w _ refl k (eqb-true _ _ t))))
    (λ t q. unread q)

format00_kept : (v : Edition) (w : ℕ) (x : Instruction) → op_of w ≡ 0 → Kept v x w (format00 v w)
unfolding format00
format00_kept v w x h e =
    cond_went (eqb (op2_of w) 4) _ _ _ e
    (λ t q. rw (← read q) (sethi_kept v w h (eqb-true _ _ t)))
    (λ t q.
    cond_went (eqb (op2_of w) 2) _ _ _ q
    (λ t. branch_kept v w x _ _ h (distance_kept w 22 _ (low22_of w) (omega arith) (omega arith) (unpredicted_sum w (eqb-true _ _ t))))
    (λ t q.
    cond_went (eqb (op2_of w) 1) _ _ _ q
    (λ t. predicted_kept v w x h (eqb-true _ _ t))
    (λ t q. unread q)))
  where
    unpredicted_sum : (w : ℕ) → op2_of w ≡ 2 → 2 * 2 ^ 22 + low22_of w ≡ w % 2 ^ 25
    unpredicted_sum w k = omega arith

-- ---- all

pub read_is_written : ReadIsWritten
unfolding reading_of
read_is_written v w x e =
    cond_went (eqb (op_of w) 0) _ _ _ e
    (λ t q. format00_kept v w x (eqb-true _ _ t) q)
    (λ t q.
    cond_went (eqb (op_of w) 2) _ _ _ q
    (λ t q. format10_kept v w x (eqb-true _ _ t) q)
    (λ t q.
    cond_went (eqb (op_of w) 3) _ _ _ q
    (λ t q. format11_kept v w x (eqb-true _ _ t) q)
    (λ t q. unread q)))
