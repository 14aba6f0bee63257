-- What the definitions of this crate mean, in statements that others use: results are words, the codes are the carry, the
-- borrow, the overflow and the order of signed numbers (in excess form, v8's Signed), and the conditions say what document 01
-- reads from them.
use Rattle.std.specs.Prelude.{ℕ, ◌+◌, ◌-◌, ◌<◌, ◌≡◌, Bool, not, ◌&&◌, ◌||◌, ltb, leb, eqb}
use Rattle.std.specs.Bool.{xor}
use Rattle.v8.specs.declared.AluOp.{AluOp}
use Rattle.v8.specs.declared.AluOp.TheVariants.{Add, Sub}
use Rattle.v8.specs.declared.ShiftOp.{ShiftOp}
use Rattle.v8.specs.Signed.{excess}
use Rattle.alu.specs.declared.codes.Codes.{Codes}
use Rattle.alu.specs.Result.{alu_of, shift_of, sethi_of}
use Rattle.alu.specs.Codes.{codes_of}
use Rattle.alu.specs.Condition.{cond_holds, condition_of, meets, compares, opposite_of}

-- what holds of every two words
abbrev pub OfWords : (ℕ → ℕ → Type 0) → Type 0
OfWords P = (x y : ℕ) → x < 4294967296 → y < 4294967296 → P x y

-- The result of an operation on two words is a word.
abbrev pub AluSmall : Type 0
AluSmall = (op : AluOp) → OfWords (λ x y. alu_of op x y < 4294967296)

-- A shifted word is a word, whatever the count.
abbrev pub ShiftSmall : Type 0
ShiftSmall = (op : ShiftOp) (x count : ℕ) → x < 4294967296 → shift_of op x count < 4294967296

-- SETHI's result is a word.
abbrev pub SethiSmall : Type 0
SethiSmall = (imm22 : ℕ) → sethi_of imm22 < 4294967296

-- C of ADDcc is the carry: the sum reaches 2^32.
abbrev pub AddCarries : Type 0
AddCarries = OfWords (λ x y. (codes_of Add x y).c ≡ leb 4294967296 (x + y))

-- C of SUBcc is the borrow: the first operand is the lower, as unsigned numbers.
abbrev pub SubBorrows : Type 0
SubBorrows = OfWords (λ x y. (codes_of Sub x y).c ≡ ltb x y)

-- whether an integer, given as 2^32 more than it is, is a signed number of 32 bits
abbrev pub in_range : ℕ → Bool
in_range e = leb 2147483648 e && ltb e 6442450944

-- V of ADDcc is set exactly where the sum of the signed numbers leaves 32 bits.
abbrev pub AddOverflows : Type 0
AddOverflows = OfWords (λ x y. (codes_of Add x y).v ≡ not (in_range (excess x + excess y)))

-- V of SUBcc is set exactly where the difference of the signed numbers leaves 32 bits.
abbrev pub SubOverflows : Type 0
SubOverflows = OfWords (λ x y. (codes_of Sub x y).v ≡ not (in_range (excess x + 4294967296 - excess y)))

-- Z of SUBcc: the operands are equal, as words.
abbrev pub SubZero : Type 0
SubZero = OfWords (λ x y. (codes_of Sub x y).z ≡ eqb x y)

-- Z of SUBcc: the operands are equal, as signed numbers.
abbrev pub SubEqual : Type 0
SubEqual = OfWords (λ x y. (codes_of Sub x y).z ≡ eqb (excess x) (excess y))

-- N xor V of SUBcc: the first operand is less, as signed numbers.
abbrev pub SubLess : Type 0
SubLess = OfWords (λ x y. xor (codes_of Sub x y).n (codes_of Sub x y).v ≡ ltb (excess x) (excess y))

-- Z or (N xor V) of SUBcc: the first operand is less or equal, as signed numbers.
abbrev pub SubAtMost : Type 0
SubAtMost = OfWords (λ x y. ((codes_of Sub x y).z || xor (codes_of Sub x y).n (codes_of Sub x y).v) ≡ leb (excess x) (excess y))

-- Each row of the table gives V8's formula of its condition.
abbrev pub RowsHold : Type 0
RowsHold = (k : ℕ) (f : Codes) → meets f (condition_of k) ≡ cond_holds k f

-- The opposite condition holds exactly where the condition does not.
abbrev pub OppositeHolds : Type 0
OppositeHolds = (k : ℕ) (f : Codes) → cond_holds (opposite_of k) f ≡ not (cond_holds k f)

-- After SUBcc, a condition whose narrowing class is not Unrelated holds exactly where the signed numbers compare as the class says.
abbrev pub Narrows : Type 0
Narrows =
    (k : ℕ)
    → OfWords (λ x y. cond_holds k (codes_of Sub x y) ≡ compares (condition_of k).narrowing (excess x) (excess y) (cond_holds k (codes_of Sub x y)))
