-- The ranges of a written word's parts: each part fits its field, and each opcode is below 64, so that the sum of the
-- parts is a word.
use Prim.Native.Nat.{ℕ, ◌+◌, ◌*◌, ◌%◌, ◌^◌, ◌<◌}
use mathlib.Core.Bool.{Bool, true, false}
use mathlib.Core.Path.{◌≡◌, sym, subst, ◌∙◌}
use native.Mathlib.Omega.{arith}
use lib.Dec.{ltb, eqb}
use borrow.Author.Tests.{ltb-true}
use Rattle.v8.proofs.Choice.{cond_both}
use Rattle.v8.specs.Signed.{sign_extend}
use Rattle.writer.specs.Write.{i_bit, signed_bits, five_bits, operand_bits, count_bits, displacement_bits, branch_bits, alu_code, alu_code_cc, shift_code, load_code, store_code, access_code}
use Rattle.v8.specs.declared.Edition.{Edition}
use Rattle.v8.specs.declared.Edition.TheVariants.{V8, V9}
use Rattle.v8.specs.declared.BranchForm.{BranchForm}
use Rattle.v8.specs.declared.BranchForm.TheVariants.{Unpredicted, Predicted}
use Rattle.v8.specs.declared.AluOp.{AluOp}
use Rattle.v8.specs.declared.AluOp.TheVariants.{Add, And, Or, Xor, Sub, Andn, Orn, Xnor}
use Rattle.v8.specs.declared.ShiftOp.{ShiftOp}
use Rattle.v8.specs.declared.ShiftOp.TheVariants.{Sll, Srl, Sra}
use Rattle.v8.specs.declared.LoadOp.{LoadOp}
use Rattle.v8.specs.declared.LoadOp.TheVariants.{Ld, Ldub, Lduh, Ldsb, Ldsh}
use Rattle.v8.specs.declared.StoreOp.{StoreOp}
use Rattle.v8.specs.declared.StoreOp.TheVariants.{St, Stb, Sth}
use Rattle.v8.specs.declared.Access.{Access}
use Rattle.v8.specs.declared.Access.TheVariants.{Loads, Stores}
use Rattle.v8.specs.declared.Operand.{Operand}
use Rattle.v8.specs.declared.Operand.TheVariants.{Reg, Imm}
use Rattle.v8.specs.declared.Displacement.{Displacement}
use Rattle.v8.specs.declared.Displacement.TheVariants.{Index, Bytes}
use Rattle.std.specs.Prelude.{Option, Some, None}

-- a part of n bits
abbrev pub Fits : ℕ → Option ℕ → Type 0
Fits n (Some b) = b < 2 ^ n
Fits n None = Unit {0}

signed_fits : (n i k v : ℕ) → i + v % 2 ^ n < 2 ^ k → Fits k (signed_bits n i v)
unfolding signed_bits
signed_fits n i k v h = cond_both (Fits k) (eqb v (sign_extend n (v % 2 ^ n))) (λ t. h) (λ t. tt)

five_fits : (i k v : ℕ) → (v < 32 → i + v < 2 ^ k) → Fits k (five_bits i v)
unfolding five_bits
five_fits i k v h = cond_both (Fits k) (ltb v 32) (λ t. h (ltb-true v 32 t)) (λ t. tt)

pub operand_fits : (x : Operand) → Fits 14 (operand_bits x)
operand_fits (Reg r) = five_fits 0 14 r (λ h. omega arith)
operand_fits (Imm v) = signed_fits 13 i_bit 14 v (omega arith)

pub count_fits : (x : Operand) → Fits 14 (count_bits x)
count_fits (Reg r) = five_fits 0 14 r (λ h. omega arith)
count_fits (Imm v) = five_fits i_bit 14 v (λ h. omega arith)

pub displacement_fits : (d : Displacement) → Fits 14 (displacement_bits d)
displacement_fits (Index r) = operand_fits (Reg r)
displacement_fits (Bytes d) = operand_fits (Imm d.0)

pub branch_fits : (e : Edition) (form : BranchForm) (v : ℕ) → Fits 25 (branch_bits e form v)
branch_fits e Unpredicted v = signed_fits 22 (2 * 2 ^ 22) 25 v (omega arith)
branch_fits V8 (Predicted hint) v = tt
branch_fits V9 (Predicted true) v = signed_fits 19 (1 * 2 ^ 22 + 2 ^ 19) 25 v (omega arith)
branch_fits V9 (Predicted false) v = signed_fits 19 (1 * 2 ^ 22 + 0) 25 v (omega arith)

-- a part that is there is below its bound
pub below : (n b : ℕ) {part low : Option ℕ} → Fits n part → low ≡ part → low ≡ Some b → b < 2 ^ n
below n b f e q = subst (Fits n) (sym e ∙ q) f

alu_small : (op : AluOp) → alu_code op < 8
alu_small Add = omega arith
alu_small And = omega arith
alu_small Or = omega arith
alu_small Xor = omega arith
alu_small Sub = omega arith
alu_small Andn = omega arith
alu_small Orn = omega arith
alu_small Xnor = omega arith

pub alu_cc_small : (op : AluOp) (cc : Bool) → alu_code_cc op cc < 64
alu_cc_small op true = omega (arith, alu_small op)
alu_cc_small op false = omega (arith, alu_small op)

pub shift_small : (op : ShiftOp) → shift_code op < 64
shift_small Sll = omega arith
shift_small Srl = omega arith
shift_small Sra = omega arith

load_small : (op : LoadOp) → load_code op < 64
load_small Ld = omega arith
load_small Ldub = omega arith
load_small Lduh = omega arith
load_small Ldsb = omega arith
load_small Ldsh = omega arith

store_small : (op : StoreOp) → store_code op < 64
store_small St = omega arith
store_small Stb = omega arith
store_small Sth = omega arith

pub access_small : (a : Access) → access_code a < 64
access_small (Loads op) = load_small op
access_small (Stores op) = store_small op
