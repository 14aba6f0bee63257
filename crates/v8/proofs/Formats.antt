-- Words of the formats 10 and 11 by their cases: what holds of the reading in each case of the definition holds of the format's reading. The
-- laws of reading go by these.
use Prim.Native.Nat.{ℕ, ◌+◌, ◌-◌, ◌≤◌, ◌<◌}
use mathlib.Core.Path.{◌≡◌, refl}
use mathlib.Core.Bool.{true, false}
use native.Mathlib.Omega.{arith}
use lib.Dec.{leb, eqb}
use borrow.Author.Tests.{leb-true, eqb-true}
use Rattle.v8.proofs.Choice.{cond_both}
use Rattle.v8.proofs.Search.{needed_le, and-false}
use Rattle.v8.specs.Field.{op3_of}
use Rattle.v8.specs.declared.ShiftOp.{ShiftOp}
use Rattle.v8.specs.declared.ShiftOp.TheVariants.{Sll, Srl, Sra}
use Rattle.v8.specs.declared.LoadOp.TheVariants.{Ld, Ldub, Lduh, Ldsb, Ldsh}
use Rattle.v8.specs.declared.StoreOp.TheVariants.{St, Stb, Sth}
use Rattle.v8.specs.declared.Access.{Access}
use Rattle.v8.specs.declared.Access.TheVariants.{Loads, Stores}
use Rattle.v8.specs.declared.Instruction.TheVariants.{Return}
use Rattle.v8.specs.declared.Reading.{Reading}
use Rattle.v8.specs.declared.Reading.TheVariants.{Read}
use Rattle.v8.specs.Read.{format10, format11, between, operand_of, count_of, alu_with, shift_with, memory_with, alu_op_of, leaf_return, privileged10, privileged11, refused}

-- the opcode of each shift, and of each load and store
abbrev pub shift_at : ShiftOp → ℕ
shift_at Sll = 0x25
shift_at Srl = 0x26
shift_at Sra = 0x27

abbrev pub access_at : Access → ℕ
access_at (Loads Ld) = 0x00
access_at (Loads Ldub) = 0x01
access_at (Loads Lduh) = 0x02
access_at (Stores St) = 0x04
access_at (Stores Stb) = 0x05
access_at (Stores Sth) = 0x06
access_at (Loads Ldsb) = 0x09
access_at (Loads Ldsh) = 0x0A

-- an opcode in a range
in-range : (first last k : ℕ) → between first last k ≡ true → (first ≤ k) × (k ≤ last)
in-range first last k e =
    (needed_le (between first last k) first k e (λ q. rw q), needed_le (between first last k) k last e (and-false (leb first k) (leb k last)))

module _ (P : Reading → Type 0) (w : ℕ) where
  pub format10_cases :
      ((k : ℕ) → k < 8 → op3_of w ≡ k → P (alu_with (alu_op_of k) false w (operand_of w)))
      → ((k : ℕ) → k < 8 → op3_of w ≡ k + 0x10 → P (alu_with (alu_op_of k) true w (operand_of w)))
      → ((op : ShiftOp) → op3_of w ≡ shift_at op → P (shift_with op w (count_of w)))
      → (w ≡ leaf_return → P (Read Return))
      → P (refused (privileged10 (op3_of w)))
      → P (format10 w)
  unfolding format10
  format10_cases alu alu-cc shift return other =
      cond_both P (leb (op3_of w) 0x07) (λ t. alu (op3_of w) (omega (arith, leb-true (op3_of w) 0x07 t)) refl)
      λ _. cond_both P (between 0x10 0x17 (op3_of w))
      (λ t. let h = in-range 0x10 0x17 (op3_of w) t in alu-cc (op3_of w - 0x10) (omega (arith, h.0, h.1)) (omega (arith, h.0)))
      λ _. cond_both P (eqb (op3_of w) 0x25) (λ t. shift Sll (eqb-true _ _ t))
      λ _. cond_both P (eqb (op3_of w) 0x26) (λ t. shift Srl (eqb-true _ _ t))
      λ _. cond_both P (eqb (op3_of w) 0x27) (λ t. shift Sra (eqb-true _ _ t))
      λ _. cond_both P (eqb w leaf_return) (λ t. return (eqb-true _ _ t)) (λ _. other)

  pub format11_cases :
      ((a : Access) → op3_of w ≡ access_at a → P (memory_with a w (operand_of w)))
      → P (refused (privileged11 (op3_of w)))
      → P (format11 w)
  unfolding format11
  format11_cases access other =
      cond_both P (eqb (op3_of w) 0x00) (λ t. access (Loads Ld) (eqb-true _ _ t))
      λ _. cond_both P (eqb (op3_of w) 0x01) (λ t. access (Loads Ldub) (eqb-true _ _ t))
      λ _. cond_both P (eqb (op3_of w) 0x02) (λ t. access (Loads Lduh) (eqb-true _ _ t))
      λ _. cond_both P (eqb (op3_of w) 0x04) (λ t. access (Stores St) (eqb-true _ _ t))
      λ _. cond_both P (eqb (op3_of w) 0x05) (λ t. access (Stores Stb) (eqb-true _ _ t))
      λ _. cond_both P (eqb (op3_of w) 0x06) (λ t. access (Stores Sth) (eqb-true _ _ t))
      λ _. cond_both P (eqb (op3_of w) 0x09) (λ t. access (Loads Ldsb) (eqb-true _ _ t))
      λ _. cond_both P (eqb (op3_of w) 0x0A) (λ t. access (Loads Ldsh) (eqb-true _ _ t)) (λ _. other)
