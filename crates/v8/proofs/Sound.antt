-- In an instruction that is read a register is five bits of the word, and the number is a word: sign extension gives one, and a shift's count is
-- below 32. A word that is not read has its number.
use Prim.Native.Nat.{ℕ, ◌^◌, ◌<◌}
use mathlib.Core.Path.{refl}
use mathlib.Core.Bool.{Bool, true, false}
use native.Mathlib.Omega.{arith}
use lib.Dec.{ltb, eqb}
use Rattle.v8.proofs.Choice.{cond_both}
use Rattle.v8.proofs.Formats.{format10_cases, format11_cases}
use Rattle.v8.specs.Signed.{sign_extend}
use Rattle.v8.specs.Field.{op_of, op2_of, cc_of, op3_of, i_of, unused_of, simm13_of}
use Rattle.v8.specs.declared.Edition.{Edition}
use Rattle.v8.specs.declared.Edition.TheVariants.{V8, V9}
use Rattle.v8.specs.declared.AluOp.{AluOp}
use Rattle.v8.specs.declared.ShiftOp.{ShiftOp}
use Rattle.v8.specs.declared.Operand.TheVariants.{Reg, Imm}
use Rattle.v8.specs.declared.Operand.{Operand}
use Rattle.v8.specs.declared.Access.{Access}
use Rattle.std.specs.Prelude.{Option, Some, None}
use Rattle.v8.specs.Read.{reading_of, predicted_of, format00, format10, format11, operand_of, count_of, alu_with, shift_with, memory_with, alu_op_of, privileged10, privileged11, refused}
use Rattle.v8.specs.Laws.{OperandSmall, ReadingSound, ReadsSound}

abbrev SecondSmall : Option Operand → Type 0
SecondSmall (Some x) = OperandSmall x
SecondSmall None = Unit {0}

extended : (x : ℕ) → x < 2 ^ 13 → sign_extend 13 x < 4294967296
unfolding sign_extend
extended x l = cond_both (λ (v : ℕ). v < 4294967296) (ltb x (2 ^ 12)) (λ _. omega arith) (λ _. omega arith)

operand_small : (w : ℕ) → SecondSmall (operand_of w)
unfolding operand_of
operand_small w =
    cond_both SecondSmall (eqb (i_of w) 1) (λ _. extended (simm13_of w) (omega arith))
    λ _. cond_both SecondSmall (eqb (unused_of w) 0) (λ _. omega arith) (λ _. tt)

count_small : (w : ℕ) → SecondSmall (count_of w)
unfolding count_of
count_small w =
    cond_both SecondSmall (eqb (unused_of w) 0)
    (λ _. cond_both SecondSmall (eqb (i_of w) 1) (λ _. omega arith) (λ _. omega arith)) (λ _. tt)

alu-with : (op : AluOp) (cc : Bool) (w : ℕ) (x : Option Operand) → SecondSmall x → ReadingSound (alu_with op cc w x)
alu-with op cc w (Some x) l = (omega arith, omega arith, l)
alu-with op cc w None l = refl

shift-with : (op : ShiftOp) (w : ℕ) (x : Option Operand) → SecondSmall x → ReadingSound (shift_with op w x)
shift-with op w (Some x) l = (omega arith, omega arith, l)
shift-with op w None l = refl

memory-with : (a : Access) (w : ℕ) (x : Option Operand) → SecondSmall x → ReadingSound (memory_with a w x)
memory-with a w (Some (Reg r)) l = (omega arith, omega arith, l)
memory-with a w (Some (Imm v)) l = (omega arith, omega arith, l)
memory-with a w None l = refl

refused_with : (t : Bool) → ReadingSound (refused t)
refused_with true = refl
refused_with false = refl

predicted_small : (e : Edition) (w : ℕ) → ReadingSound (predicted_of e w)
predicted_small V8 w = refl
predicted_small V9 w = cond_both ReadingSound (eqb (cc_of w) 0) (λ _. tt) (λ _. refl)

format00_small : (e : Edition) (w : ℕ) → ReadingSound (format00 e w)
unfolding format00
format00_small e w =
    cond_both ReadingSound (eqb (op2_of w) 4) (λ _. omega arith)
    λ _. cond_both ReadingSound (eqb (op2_of w) 2) (λ _. tt)
    λ _. cond_both ReadingSound (eqb (op2_of w) 1) (λ _. predicted_small e w) (λ _. refl)

format10_small : (w : ℕ) → ReadingSound (format10 w)
format10_small w =
    format10_cases ReadingSound w
    (λ k _ _. alu-with (alu_op_of k) false w (operand_of w) (operand_small w))
    (λ k _ _. alu-with (alu_op_of k) true w (operand_of w) (operand_small w))
    (λ op _. shift-with op w (count_of w) (count_small w))
    (λ _. tt)
    (refused_with (privileged10 (op3_of w)))

format11_small : (w : ℕ) → ReadingSound (format11 w)
format11_small w = format11_cases ReadingSound w (λ a _. memory-with a w (operand_of w) (operand_small w)) (refused_with (privileged11 (op3_of w)))

pub reads_sound : ReadsSound
unfolding reading_of
reads_sound e w =
    cond_both ReadingSound (eqb (op_of w) 0) (λ _. format00_small e w)
    λ _. cond_both ReadingSound (eqb (op_of w) 2) (λ _. format10_small w)
    λ _. cond_both ReadingSound (eqb (op_of w) 3) (λ _. format11_small w) (λ _. refl)
