-- What an instruction makes of its operands' entries (document 01, "What each word does to a row": "First matching rule", rules 1 to 6).
use Rattle.std.specs.Prelude.{ℕ, ◌+◌, ◌%◌, Bool, true, false, cond, ◌&&◌, ◌||◌, List, leb}
use Rattle.v8.specs.Signed.{bias}
use Rattle.v8.specs.Numbers.{no_rule, outside_region}
use Rattle.v8.specs.declared.AluOp.{AluOp}
use Rattle.v8.specs.declared.AluOp.TheVariants.{Add, And, Or, Xor, Sub, Andn, Orn, Xnor}
use Rattle.v8.specs.declared.ShiftOp.{ShiftOp}
use Rattle.alu.specs.Result.{alu_of, shift_of}
use Rattle.sets.specs.declared.NumberSet.{NumberSet}
use Rattle.sets.specs.Sets.{full}
use Rattle.sets_rules.specs.Rules.{add_sets, sub_sets, alu_sets, shift_set}
use Rattle.rows.specs.declared.Entry.{Entry}
use Rattle.rules.specs.declared.Result.{Result}
use Rattle.rules.specs.declared.Result.TheVariants.{Gives, Fails}
use Rattle.rows.specs.Entry.{is_number, is_address, is_start_or_null, is_frame, is_zero, is_constant, word_of, constant, number_in, address_in, size_in}

-- both operands are single numbers, both are numbers
abbrev pub constants : Entry → Entry → Bool
constants a b = is_constant a && is_constant b

abbrev pub both_numbers : Entry → Entry → Bool
both_numbers a b = is_number a && is_number b

-- the offsets of a region, if none lies outside: "16 result offset below 0 or above size"
unfoldable pub offsets_give : List ℕ → ℕ → NumberSet → Result
offsets_give sizes r s = cond (leb bias s.lo && leb s.hi (bias + size_in sizes r)) (Gives (address_in r s)) (Fails outside_region)

-- 4. "Address plus number, number plus address: the same on offsets."
unfoldable pub address_sum : List ℕ → Entry → Entry → Result
address_sum sizes a b =
    cond (is_address a && is_number b) (offsets_give sizes a.region (add_sets a.set b.set))
    (cond (is_number a && is_address b) (offsets_give sizes b.region (add_sets a.set b.set))
    (Fails no_rule))

-- 4. "address minus number: the same on offsets. Kind 3 minus single 0 stays kind 3."
unfoldable pub address_difference : List ℕ → Entry → Entry → Result
address_difference sizes a b =
    cond (is_address a && is_number b) (offsets_give sizes a.region (sub_sets a.set b.set))
    (cond (is_start_or_null a && is_zero b) (Gives a)
    (Fails no_rule))

-- what an operation makes of operands that are not both numbers
abbrev pub address_rule : List ℕ → AluOp → Entry → Entry → Result
address_rule sizes Add a b = address_sum sizes a b
address_rule sizes And a b = Fails no_rule
address_rule sizes Or a b = Fails no_rule
address_rule sizes Xor a b = Fails no_rule
address_rule sizes Sub a b = address_difference sizes a b
address_rule sizes Andn a b = Fails no_rule
address_rule sizes Orn a b = Fails no_rule
address_rule sizes Xnor a b = Fails no_rule

-- the operation is OR
abbrev pub is_or : AluOp → Bool
is_or Add = false
is_or And = false
is_or Or = true
is_or Xor = false
is_or Sub = false
is_or Andn = false
is_or Orn = false
is_or Xnor = false

-- the operation is SUB
abbrev pub is_sub : AluOp → Bool
is_sub Add = false
is_sub And = false
is_sub Or = false
is_sub Xor = false
is_sub Sub = true
is_sub Andn = false
is_sub Orn = false
is_sub Xnor = false

-- what arithmetic and logic make: request 7, "6 for any other use of the frame"; 1 "All operands single numbers: the number V8 gives"; 2 "OR, ORcc with one operand the single 0: the other
-- operand's entry (first operand tested first)"; 3 and 5 on numbers; 4 on addresses
unfoldable pub alu_result : List ℕ → AluOp → Entry → Entry → Result
alu_result sizes op a b =
    cond (is_frame a || is_frame b) (Fails no_rule)
    (cond (constants a b) (Gives (constant (alu_of op (word_of a) (word_of b))))
    (cond (is_or op && is_zero a) (Gives b)
    (cond (is_or op && is_zero b) (Gives a)
    (cond (both_numbers a b) (Gives (number_in (alu_sets op a.set b.set)))
    (address_rule sizes op a b)))))

-- 6. "Shifts of numbers by a single count s"; "Other number counts: full."
unfoldable pub shift_result : ShiftOp → Entry → Entry → Result
shift_result op a b =
    cond (constants a b) (Gives (constant (shift_of op (word_of a) (word_of b))))
    (cond (both_numbers a b && is_constant b) (Gives (number_in (shift_set op a.set (word_of b % 32))))
    (cond (both_numbers a b) (Gives (number_in full))
    (Fails no_rule)))
