-- A refused word is numbered by whether it is privileged: no opcode of an instruction that is read is privileged, and a word that is refused
-- for its opcode carries the number of that opcode.
use Prim.Native.Nat.{ℕ}
use mathlib.Core.Path.{◌≡◌, refl, sym, ap, subst, ◌∙◌}
use mathlib.Core.Bool.{Bool, true, false, cond, ◌||◌}
use native.Mathlib.Omega.{arith}
use lib.Dec.{eqb}
use borrow.Author.Tests.{eqb-true}
use Rattle.v8.proofs.Choice.{cond_both}
use Rattle.v8.proofs.Formats.{shift_at, access_at, format10_cases, format11_cases}
use Rattle.v8.proofs.Refused.{below10}
use Rattle.v8.specs.Numbers.{not_read, privileged}
use Rattle.v8.specs.Field.{op_of, op2_of, cc_of, op3_of}
use Rattle.v8.specs.declared.Edition.{Edition}
use Rattle.v8.specs.declared.Edition.TheVariants.{V8, V9}
use Rattle.v8.specs.declared.AluOp.{AluOp}
use Rattle.v8.specs.declared.ShiftOp.{ShiftOp}
use Rattle.v8.specs.declared.ShiftOp.TheVariants.{Sll, Srl, Sra}
use Rattle.v8.specs.declared.LoadOp.TheVariants.{Ld, Ldub, Lduh, Ldsb, Ldsh}
use Rattle.v8.specs.declared.StoreOp.TheVariants.{St, Stb, Sth}
use Rattle.v8.specs.declared.Operand.{Operand}
use Rattle.v8.specs.declared.Access.{Access}
use Rattle.v8.specs.declared.Access.TheVariants.{Loads, Stores}
use Rattle.v8.specs.declared.Reading.{Reading}
use Rattle.std.specs.Prelude.{Option, Some, None}
use Rattle.v8.specs.Read.{reading_of, predicted_of, format00, format10, format11, operand_of, count_of, alu_with, shift_with, memory_with, alu_op_of, privileged10, privileged11}
use Rattle.v8.specs.Laws.{is_privileged, NumberedBy, ReadsNumbered}

-- a word that is refused and not privileged
plain : (p : Bool) → p ≡ false → not_read ≡ cond p privileged not_read
plain p e = rw e

-- instructions, by their second operand
alu-with : (p : Bool) (op : AluOp) (cc : Bool) (w : ℕ) (x : Option Operand) → p ≡ false → NumberedBy p (alu_with op cc w x)
alu-with p op cc w (Some x) e = e
alu-with p op cc w None e = plain p e

shift-with : (p : Bool) (op : ShiftOp) (w : ℕ) (x : Option Operand) → p ≡ false → NumberedBy p (shift_with op w x)
shift-with p op w (Some x) e = e
shift-with p op w None e = plain p e

memory-with : (p : Bool) (a : Access) (w : ℕ) (x : Option Operand) → p ≡ false → NumberedBy p (memory_with a w x)
memory-with p a w (Some x) e = e
memory-with p a w None e = plain p e

-- no opcode of theirs is privileged
shift_plain : (op : ShiftOp) → privileged10 (shift_at op) ≡ false
shift_plain Sll = refl
shift_plain Srl = refl
shift_plain Sra = refl

access_plain : (a : Access) → privileged11 (access_at a) ≡ false
access_plain (Loads Ld) = refl
access_plain (Loads Ldub) = refl
access_plain (Loads Lduh) = refl
access_plain (Loads Ldsb) = refl
access_plain (Loads Ldsh) = refl
access_plain (Stores St) = refl
access_plain (Stores Stb) = refl
access_plain (Stores Sth) = refl

predicted_numbered : (e : Edition) (w : ℕ) → NumberedBy false (predicted_of e w)
predicted_numbered V8 w = refl
predicted_numbered V9 w = cond_both (NumberedBy false) (eqb (cc_of w) 0) (λ _. refl) (λ _. refl)

format00_numbered : (e : Edition) (w : ℕ) → NumberedBy false (format00 e w)
unfolding format00
format00_numbered e w =
    cond_both (NumberedBy false) (eqb (op2_of w) 4) (λ _. refl)
    λ _. cond_both (NumberedBy false) (eqb (op2_of w) 2) (λ _. refl)
    λ _. cond_both (NumberedBy false) (eqb (op2_of w) 1) (λ _. predicted_numbered e w) (λ _. refl)

format10_numbered : (w : ℕ) → NumberedBy (privileged10 (op3_of w)) (format10 w)
format10_numbered w =
    format10_cases (NumberedBy (privileged10 (op3_of w))) w
    (λ k l e. alu-with _ (alu_op_of k) false w (operand_of w) (below10 (op3_of w) (omega arith)))
    (λ k l e. alu-with _ (alu_op_of k) true w (operand_of w) (below10 (op3_of w) (omega arith)))
    (λ op e. shift-with _ op w (count_of w) (ap privileged10 e ∙ shift_plain op))
    (λ e. ap (λ (v : ℕ). privileged10 (op3_of v)) e)
    refl

format11_numbered : (w : ℕ) → NumberedBy (privileged11 (op3_of w)) (format11 w)
format11_numbered w =
    format11_cases (NumberedBy (privileged11 (op3_of w))) w
    (λ a e. memory-with _ a w (operand_of w) (ap privileged11 e ∙ access_plain a)) refl

-- what holds by a format's own test holds by that of all words
same : (p q : Bool) (x : Reading) → p ≡ q → NumberedBy q x → NumberedBy p x
same p q x e n = subst (λ (t : Bool). NumberedBy t x) (sym e) n

first_alone : (p : Bool) → p || false ≡ p
first_alone true = refl
first_alone false = refl

pub reads_numbered : ReadsNumbered
unfolding reading_of
reads_numbered e w =
    let P : Reading → Type 0 = NumberedBy (is_privileged w) in
    cond_both P (eqb (op_of w) 0) (λ t. same (is_privileged w) false (format00 e w) (rw (eqb-true (op_of w) 0 t)) (format00_numbered e w))
    λ _. cond_both P (eqb (op_of w) 2) (λ t. same (is_privileged w) (privileged10 (op3_of w)) (format10 w) (rw (eqb-true (op_of w) 2 t) (first_alone (privileged10 (op3_of w)))) (format10_numbered w))
    λ f. cond_both P (eqb (op_of w) 3) (λ t. same (is_privileged w) (privileged11 (op3_of w)) (format11 w) (rw (eqb-true (op_of w) 3 t)) (format11_numbered w))
    (λ g. plain (is_privileged w) (rw (f, g)))
