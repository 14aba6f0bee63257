-- The results of the arithmetic, logic and shift operations, and of SETHI, on 32-bit words held as natural numbers below 2^32
-- (V8, appendix B: "Add", "Subtract", "Logical", "Shift" and "SETHI").
use Rattle.std.specs.Prelude.{ℕ, ◌+◌, ◌-◌, ◌*◌, ◌/◌, ◌%◌, ◌^◌, Bool, cond, leb}
use Rattle.std.specs.Int.Bits.{bit_and, bit_or, bit_xor}
use Rattle.v8.specs.declared.AluOp.{AluOp}
use Rattle.v8.specs.declared.AluOp.TheVariants.{Add, And, Or, Xor, Sub, Andn, Orn, Xnor}
use Rattle.v8.specs.declared.ShiftOp.{ShiftOp}
use Rattle.v8.specs.declared.ShiftOp.TheVariants.{Sll, Srl, Sra}

-- bit 31 of a word, its sign
abbrev pub bit31 : ℕ → Bool
bit31 x = leb 2147483648 x

-- the sum of two words
abbrev pub add32 : ℕ → ℕ → ℕ
add32 x y = (x + y) % 4294967296

-- the difference of two words
abbrev pub sub32 : ℕ → ℕ → ℕ
sub32 x y = (x + 4294967296 - y) % 4294967296

-- a word with each bit turned
abbrev pub not32 : ℕ → ℕ
not32 y = 4294967295 - y

-- what an arithmetic or logic operation gives; ANDN, ORN and XNOR negate the second operand first
abbrev pub alu_of : AluOp → ℕ → ℕ → ℕ
alu_of Add x y = add32 x y
alu_of And x y = bit_and x y
alu_of Or x y = bit_or x y
alu_of Xor x y = bit_xor x y
alu_of Sub x y = sub32 x y
alu_of Andn x y = bit_and x (not32 y)
alu_of Orn x y = bit_or x (not32 y)
alu_of Xnor x y = bit_xor x (not32 y)

-- a word shifted left by s bits, zeros shifted in
abbrev pub sll32 : ℕ → ℕ → ℕ
sll32 x s = x * 2 ^ s % 4294967296

-- a word shifted right by s bits, zeros shifted in
abbrev pub srl32 : ℕ → ℕ → ℕ
srl32 x s = x / 2 ^ s

-- a word shifted right by s bits, the vacated bits filled with bit 31
abbrev pub sra32 : ℕ → ℕ → ℕ
sra32 x s = cond (bit31 x) (x / 2 ^ s + (4294967296 - 2 ^ (32 - s))) (x / 2 ^ s)

-- what a shift gives of a word and a count, of which the five low bits are used
abbrev pub shift_of : ShiftOp → ℕ → ℕ → ℕ
shift_of Sll x count = sll32 x (count % 32)
shift_of Srl x count = srl32 x (count % 32)
shift_of Sra x count = sra32 x (count % 32)

-- what SETHI gives: the number's 22 bits as the high bits, zeros below
abbrev pub sethi_of : ℕ → ℕ
sethi_of imm22 = imm22 % 4194304 * 1024
