-- The integer condition codes that the code-setting forms set, by V8's own formulas over bit 31 of the operands and of the
-- result (V8, appendix C: the definitions of ADDcc, SUBcc and the logical instructions).
use Rattle.std.specs.Prelude.{ℕ, Bool, false, not, ◌&&◌, ◌||◌, eqb}
use Rattle.v8.specs.declared.AluOp.{AluOp}
use Rattle.v8.specs.declared.AluOp.TheVariants.{Add, And, Or, Xor, Sub, Andn, Orn, Xnor}
use Rattle.alu.specs.declared.codes.Codes.{Codes}
use Rattle.alu.specs.Result.{bit31, alu_of}

-- V, overflow, from bit 31 of the operands x and y and of the result r; the logical operations clear it
abbrev pub overflow_of : AluOp → Bool → Bool → Bool → Bool
overflow_of Add x y r = x && y && not r || not x && not y && r
overflow_of Sub x y r = x && not y && not r || not x && y && r
overflow_of And x y r = false
overflow_of Or x y r = false
overflow_of Xor x y r = false
overflow_of Andn x y r = false
overflow_of Orn x y r = false
overflow_of Xnor x y r = false

-- C, the carry of a sum and the borrow of a difference, from the same three bits; the logical operations clear it
abbrev pub carry_of : AluOp → Bool → Bool → Bool → Bool
carry_of Add x y r = x && y || not r && (x || y)
carry_of Sub x y r = not x && y || r && (not x || y)
carry_of And x y r = false
carry_of Or x y r = false
carry_of Xor x y r = false
carry_of Andn x y r = false
carry_of Orn x y r = false
carry_of Xnor x y r = false

-- the codes of an operation with the operands x and y and the result r
abbrev pub codes_with : AluOp → ℕ → ℕ → ℕ → Codes
codes_with op x y r =
    record {
      n = bit31 r;
      z = eqb r 0;
      v = overflow_of op (bit31 x) (bit31 y) (bit31 r);
      c = carry_of op (bit31 x) (bit31 y) (bit31 r);
    }

-- the codes that the code-setting form of an operation sets
unfoldable pub codes_of : AluOp → ℕ → ℕ → Codes
codes_of op x y = codes_with op x y (alu_of op x y)
