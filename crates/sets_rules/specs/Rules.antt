-- What arithmetic, logic and shifts make of sets of numbers (document 01, "What each word does to a row", rules 3, 5 and 6).
use Rattle.std.specs.Prelude.{ℕ, ◌+◌, ◌-◌, ◌*◌, ◌/◌, ◌^◌, min, cond, ◌||◌, leb, ltb, eqb}
use Rattle.v8.specs.Signed.{bias}
use Rattle.v8.specs.declared.AluOp.{AluOp}
use Rattle.v8.specs.declared.AluOp.TheVariants.{Add, And, Or, Xor, Sub, Andn, Orn, Xnor}
use Rattle.v8.specs.declared.ShiftOp.{ShiftOp}
use Rattle.v8.specs.declared.ShiftOp.TheVariants.{Sll, Srl, Sra}
use Rattle.sets.specs.Sets.{modulus, numbers, full, ended}
use Rattle.sets.specs.declared.NumberSet.{NumberSet}

-- An end that may leave the signed 32 bits is held 2^32 more than the number it is. So held, the lowest signed number is ..
abbrev pub lowest : ℕ
lowest = modulus - bias

-- .. and the first above the highest
abbrev pub beyond : ℕ
beyond = modulus + bias

-- the set with these ends, so held; "full if an end leaves signed 32 bits"
unfoldable pub within : ℕ → ℕ → ℕ → NumberSet
within step lo hi =
    cond (ltb lo lowest || ltb hi lowest || leb beyond lo || leb beyond hi) full
    (numbers step (lo - lowest) (hi - lowest))

-- "ADD on numbers: lo+lo', hi+hi', the smaller step"
unfoldable pub add_sets : NumberSet → NumberSet → NumberSet
add_sets a b = within (min a.step b.step) (a.lo + b.lo) (a.hi + b.hi)

-- "SUB: lo−hi', hi−lo', the smaller step"
unfoldable pub sub_sets : NumberSet → NumberSet → NumberSet
sub_sets a b = within (min a.step b.step) (a.lo + modulus - b.hi) (a.hi + modulus - b.lo)

-- "AND on numbers: from 0 to the smaller hi of the operands with lo ≥ 0, step 1; full if neither."
unfoldable pub and_sets : NumberSet → NumberSet → NumberSet
and_sets a b =
    cond (leb bias a.lo)
    (cond (leb bias b.lo) (ended 1 bias (min a.hi b.hi)) (ended 1 bias a.hi))
    (cond (leb bias b.lo) (ended 1 bias b.hi) full)

-- what an operation makes of two sets of numbers: "Other logic on numbers: full."
abbrev pub alu_sets : AluOp → NumberSet → NumberSet → NumberSet
alu_sets Add a b = add_sets a b
alu_sets And a b = and_sets a b
alu_sets Or a b = full
alu_sets Xor a b = full
alu_sets Sub a b = sub_sets a b
alu_sets Andn a b = full
alu_sets Orn a b = full
alu_sets Xnor a b = full

-- an end times 2^s, held 2^32 more than it is; 0, which so held is outside the 32 bits, where that would be negative
abbrev pub shifted_up : ℕ → ℕ → ℕ
shifted_up n s = n * 2 ^ s + modulus - bias * 2 ^ s

-- "SLL multiplies the ends by 2^s, with step the smaller of 8 and step × 2^s, full if an end leaves the signed 32 bits"
unfoldable pub sll_set : NumberSet → ℕ → NumberSet
sll_set a s = within (min 8 (a.step * 2 ^ s)) (shifted_up a.lo s) (shifted_up a.hi s)

-- an end divided by 2^s, rounding down, in excess form
abbrev pub shifted_down : ℕ → ℕ → ℕ
shifted_down n s = n / 2 ^ s + (bias - bias / 2 ^ s)

-- "SRA divides the ends rounding down, step 1"
unfoldable pub sra_set : NumberSet → ℕ → NumberSet
sra_set a s = ended 1 (shifted_down a.lo s) (shifted_down a.hi s)

-- "SRL as SRA if lo ≥ 0, else full for s = 0, else 0 to 2^(32−s)−1, step 1"
unfoldable pub srl_set : NumberSet → ℕ → NumberSet
srl_set a s = cond (leb bias a.lo) (sra_set a s) (cond (eqb s 0) full (numbers 1 bias (bias + (2 ^ (32 - s) - 1))))

-- what a shift by the single count s, below 32, makes of a set
abbrev pub shift_set : ShiftOp → NumberSet → ℕ → NumberSet
shift_set Sll a s = sll_set a s
shift_set Srl a s = srl_set a s
shift_set Sra a s = sra_set a s
