-- What arithmetic, logic and shifts make of sets is well formed, and holds what V8's operations make of their members. A word's signed number
-- is its excess form (v8's Signed). And it has the ends that document 01 names, as integers. The proofs are in proofs/.
use Rattle.std.specs.Prelude.{ℕ, ◌+◌, ◌-◌, ◌*◌, ◌^◌, ◌≤◌, ◌<◌, min, ◌≡◌, ◌≢◌, ℤ, pos, neg_ℤ, ◌+ℤ◌, ◌-ℤ◌, ◌*ℤ◌, ◌≤ℤ◌, ◌<ℤ◌}
use Rattle.std.specs.Int.Signed.{shr_z}
use Rattle.v8.specs.Signed.{excess, bias}
use Rattle.v8.specs.declared.AluOp.{AluOp}
use Rattle.v8.specs.declared.ShiftOp.{ShiftOp}
use Rattle.v8.specs.declared.ShiftOp.TheVariants.{Sll, Srl, Sra}
use Rattle.alu.specs.Result.{add32, sub32, alu_of, shift_of}
use Rattle.sets.specs.Sets.{modulus, full, SetRules, Member}
use Rattle.sets_rules.specs.Rules.{add_sets, sub_sets, alu_sets, shift_set}
use Rattle.sets_rules.specs.Integers.{integer, Ends, EndsOrFull, RoundedDown}
use Rattle.sets.specs.declared.NumberSet.{NumberSet}

-- What an operation makes of two sets is well formed ..
abbrev pub AluFormed : Type 0
AluFormed = (op : AluOp) (a b : NumberSet) → SetRules a → SetRules b → SetRules (alu_sets op a b)

-- .. and has the operation's result on any two of their members.
abbrev pub AluHolds : Type 0
AluHolds =
    (op : AluOp) (a b : NumberSet) (x y : ℕ) → SetRules a → SetRules b → x < modulus → y < modulus
    → Member a (excess x) → Member b (excess y) → Member (alu_sets op a b) (excess (alu_of op x y))

-- So a shift by a count below 32.
abbrev pub ShiftFormed : Type 0
ShiftFormed = (op : ShiftOp) (a : NumberSet) (s : ℕ) → s < 32 → SetRules a → SetRules (shift_set op a s)

abbrev pub ShiftHolds : Type 0
ShiftHolds =
    (op : ShiftOp) (a : NumberSet) (x s : ℕ) → s < 32 → SetRules a → x < modulus
    → Member a (excess x) → Member (shift_set op a s) (excess (shift_of op x s))

-- "Full number means all 32-bit values, step 1."
abbrev pub FullEnds : Type 0
FullEnds = Ends 1 (neg_ℤ (pos bias)) (pos bias -ℤ pos 1) full

-- Rule 3: "ADD on numbers: lo+lo', hi+hi', the smaller step; .. full if an end leaves signed 32 bits."
abbrev pub AddEnds : Type 0
AddEnds =
    (a b : NumberSet) → SetRules a → SetRules b
    → EndsOrFull (min a.step b.step) (integer a.lo +ℤ integer b.lo) (integer a.hi +ℤ integer b.hi) (add_sets a b)

-- "SUB: lo−hi', hi−lo', the smaller step; full if an end leaves signed 32 bits."
abbrev pub SubEnds : Type 0
SubEnds =
    (a b : NumberSet) → SetRules a → SetRules b
    → EndsOrFull (min a.step b.step) (integer a.lo -ℤ integer b.hi) (integer a.hi -ℤ integer b.lo) (sub_sets a b)

-- Rule 6: "SLL multiplies the ends by 2^s, with step the smaller of 8 and step × 2^s, full if an end leaves the signed 32 bits"
abbrev pub SllEnds : Type 0
SllEnds =
    (a : NumberSet) (s : ℕ) → s < 32 → SetRules a
    → EndsOrFull (min 8 (a.step * 2 ^ s)) (integer a.lo *ℤ pos (2 ^ s)) (integer a.hi *ℤ pos (2 ^ s)) (shift_set Sll a s)

-- The library's shr_z divides rounding down.
abbrev pub ShrRoundsDown : Type 0
ShrRoundsDown = (z : ℤ) (p : ℕ) → 0 < p → RoundedDown z p (shr_z z p)

-- "SRA divides the ends rounding down, step 1"
abbrev pub SraEnds : Type 0
SraEnds =
    (a : NumberSet) (s : ℕ) → s < 32
    → Ends 1 (shr_z (integer a.lo) (2 ^ s)) (shr_z (integer a.hi) (2 ^ s)) (shift_set Sra a s)

-- "SRL as SRA if lo ≥ 0 ..
abbrev pub SrlAsSra : Type 0
SrlAsSra = (a : NumberSet) (s : ℕ) → pos 0 ≤ℤ integer a.lo → shift_set Srl a s ≡ shift_set Sra a s

-- .. else full for s = 0 ..
abbrev pub SrlByNone : Type 0
SrlByNone = (a : NumberSet) → integer a.lo <ℤ pos 0 → shift_set Srl a 0 ≡ full

-- .. else 0 to 2^(32−s)−1, step 1"
abbrev pub SrlEnds : Type 0
SrlEnds =
    (a : NumberSet) (s : ℕ) → s < 32 → integer a.lo <ℤ pos 0 → s ≢ 0
    → Ends 1 (pos 0) (pos (2 ^ (32 - s)) -ℤ pos 1) (shift_set Srl a s)

-- the offset of an address from a base is one of the set
pub record Offset (base : ℕ) (s : NumberSet) (address : ℕ) : Type 0 where
  pub above : base ≤ address
  pub member : Member s (address - base + bias)

-- An address of a region of this size plus a number, where all the offsets stay in the region: the sum of the words is the sum.
abbrev pub AddsOffset : Type 0
AddsOffset =
    (a b : NumberSet) (base size x y : ℕ) → SetRules a → SetRules b → y < modulus → base + size < modulus
    → bias ≤ (add_sets a b).lo → (add_sets a b).hi ≤ bias + size
    → Offset base a x → Member b (excess y) → Offset base (add_sets a b) (add32 x y)

-- An address minus a number, likewise.
abbrev pub SubsOffset : Type 0
SubsOffset =
    (a b : NumberSet) (base size x y : ℕ) → SetRules a → SetRules b → y < modulus → base + size < modulus
    → bias ≤ (sub_sets a b).lo → (sub_sets a b).hi ≤ bias + size
    → Offset base a x → Member b (excess y) → Offset base (sub_sets a b) (sub32 x y)
