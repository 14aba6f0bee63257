-- The codes of ADDcc and SUBcc against the numbers: each law goes by the eight cases of bit 31 of the operands and of the result.
use Prim.Native.Nat.{ℕ, ◌+◌, ◌-◌, ◌≤◌, ◌<◌}
use mathlib.Core.Path.{◌≡◌, refl, sym}
use mathlib.Core.Bool.{Bool, true, false, not, xor, ◌||◌}
use native.Mathlib.Omega.{arith}
use lib.Dec.{ltb, leb, eqb}
use borrow.Author.Tests.{ltb-true, ltb-false, leb-true, leb-false, eqb-true, eqb-false, lt-ltb, le-ltb, le-leb, lt-leb, eq-eqb, ne_eqb}
use Rattle.v8.specs.declared.AluOp.TheVariants.{Add, Sub}
use Rattle.v8.specs.Signed.{excess}
use Rattle.alu.specs.Result.{bit31, add32, sub32}
use Rattle.alu.specs.Codes.{carry_of, overflow_of, codes_of}
use Rattle.alu.specs.Laws.{AddCarries, SubBorrows, in_range, AddOverflows, SubOverflows, SubZero, SubEqual, SubLess, SubAtMost}

-- an integer below, above and within the signed numbers of 32 bits
too_low : (e : ℕ) → e < 2147483648 → true ≡ not (in_range e)
too_low e h = rw (lt-leb 2147483648 e h)

too-high : (e : ℕ) → 6442450944 ≤ e → true ≡ not (in_range e)
too-high e h = rw (le-leb 2147483648 e (omega arith), le-ltb e 6442450944 h)

no_overflow : (e : ℕ) → 2147483648 ≤ e → e < 6442450944 → false ≡ not (in_range e)
no_overflow e h k = rw (le-leb 2147483648 e h, lt-ltb e 6442450944 k)

module _ (x y : ℕ) (hx : x < 4294967296) (hy : y < 4294967296) where
  add_carries_by : (bx by br : Bool) → bit31 x ≡ bx → bit31 y ≡ by → bit31 (add32 x y) ≡ br → carry_of Add bx by br ≡ leb 4294967296 (x + y)
  add_carries_by true true true p q r = sym (le-leb 4294967296 (x + y) (omega (arith, leb-true, leb-false)))
  add_carries_by true true false p q r = sym (le-leb 4294967296 (x + y) (omega (arith, leb-true, leb-false)))
  add_carries_by true false true p q r = sym (lt-leb 4294967296 (x + y) (omega (arith, leb-true, leb-false)))
  add_carries_by true false false p q r = sym (le-leb 4294967296 (x + y) (omega (arith, leb-true, leb-false)))
  add_carries_by false true true p q r = sym (lt-leb 4294967296 (x + y) (omega (arith, leb-true, leb-false)))
  add_carries_by false true false p q r = sym (le-leb 4294967296 (x + y) (omega (arith, leb-true, leb-false)))
  add_carries_by false false true p q r = sym (lt-leb 4294967296 (x + y) (omega (arith, leb-true, leb-false)))
  add_carries_by false false false p q r = sym (lt-leb 4294967296 (x + y) (omega (arith, leb-true, leb-false)))

  sub_borrows_by : (bx by br : Bool) → bit31 x ≡ bx → bit31 y ≡ by → bit31 (sub32 x y) ≡ br → carry_of Sub bx by br ≡ ltb x y
  sub_borrows_by true true true p q r = sym (lt-ltb x y (omega (arith, leb-true, leb-false)))
  sub_borrows_by true true false p q r = sym (le-ltb x y (omega (arith, leb-true, leb-false)))
  sub_borrows_by true false true p q r = sym (le-ltb x y (omega (arith, leb-true, leb-false)))
  sub_borrows_by true false false p q r = sym (le-ltb x y (omega (arith, leb-true, leb-false)))
  sub_borrows_by false true true p q r = sym (lt-ltb x y (omega (arith, leb-true, leb-false)))
  sub_borrows_by false true false p q r = sym (lt-ltb x y (omega (arith, leb-true, leb-false)))
  sub_borrows_by false false true p q r = sym (lt-ltb x y (omega (arith, leb-true, leb-false)))
  sub_borrows_by false false false p q r = sym (le-ltb x y (omega (arith, leb-true, leb-false)))

  add_overflows_by : (bx by br : Bool) → bit31 x ≡ bx → bit31 y ≡ by → bit31 (add32 x y) ≡ br → overflow_of Add bx by br ≡ not (in_range (excess x + excess y))
  add_overflows_by true true true p q r = no_overflow (excess x + excess y) (omega (arith, leb-true, leb-false)) (omega (arith, leb-true, leb-false))
  add_overflows_by true true false p q r = too_low (excess x + excess y) (omega (arith, leb-true, leb-false))
  add_overflows_by true false br p q r = no_overflow (excess x + excess y) (omega (arith, leb-true, leb-false)) (omega (arith, leb-true, leb-false))
  add_overflows_by false true br p q r = no_overflow (excess x + excess y) (omega (arith, leb-true, leb-false)) (omega (arith, leb-true, leb-false))
  add_overflows_by false false true p q r = too-high (excess x + excess y) (omega (arith, leb-true, leb-false))
  add_overflows_by false false false p q r = no_overflow (excess x + excess y) (omega (arith, leb-true, leb-false)) (omega (arith, leb-true, leb-false))

  sub_overflows_by : (bx by br : Bool) → bit31 x ≡ bx → bit31 y ≡ by → bit31 (sub32 x y) ≡ br → overflow_of Sub bx by br ≡ not (in_range (excess x + 4294967296 - excess y))
  sub_overflows_by true true br p q r = no_overflow (excess x + 4294967296 - excess y) (omega (arith, leb-true, leb-false)) (omega (arith, leb-true, leb-false))
  sub_overflows_by true false true p q r = no_overflow (excess x + 4294967296 - excess y) (omega (arith, leb-true, leb-false)) (omega (arith, leb-true, leb-false))
  sub_overflows_by true false false p q r = too_low (excess x + 4294967296 - excess y) (omega (arith, leb-true, leb-false))
  sub_overflows_by false true true p q r = too-high (excess x + 4294967296 - excess y) (omega (arith, leb-true, leb-false))
  sub_overflows_by false true false p q r = no_overflow (excess x + 4294967296 - excess y) (omega (arith, leb-true, leb-false)) (omega (arith, leb-true, leb-false))
  sub_overflows_by false false br p q r = no_overflow (excess x + 4294967296 - excess y) (omega (arith, leb-true, leb-false)) (omega (arith, leb-true, leb-false))

  sub_less_by : (bx by br : Bool) → bit31 x ≡ bx → bit31 y ≡ by → bit31 (sub32 x y) ≡ br → xor br (overflow_of Sub bx by br) ≡ ltb (excess x) (excess y)
  unfolding xor
  sub_less_by true true true p q r = sym (lt-ltb (excess x) (excess y) (omega (arith, leb-true, leb-false)))
  sub_less_by true true false p q r = sym (le-ltb (excess x) (excess y) (omega (arith, leb-true, leb-false)))
  sub_less_by true false true p q r = sym (lt-ltb (excess x) (excess y) (omega (arith, leb-true, leb-false)))
  sub_less_by true false false p q r = sym (lt-ltb (excess x) (excess y) (omega (arith, leb-true, leb-false)))
  sub_less_by false true true p q r = sym (le-ltb (excess x) (excess y) (omega (arith, leb-true, leb-false)))
  sub_less_by false true false p q r = sym (le-ltb (excess x) (excess y) (omega (arith, leb-true, leb-false)))
  sub_less_by false false true p q r = sym (lt-ltb (excess x) (excess y) (omega (arith, leb-true, leb-false)))
  sub_less_by false false false p q r = sym (le-ltb (excess x) (excess y) (omega (arith, leb-true, leb-false)))

  sub_zero_by : (t : Bool) → eqb (sub32 x y) 0 ≡ t → t ≡ eqb x y
  sub_zero_by true p = sym (eq-eqb x y (omega (arith, eqb-true)))
  sub_zero_by false p = sym (ne_eqb x y (λ e. eqb-false (sub32 x y) 0 p (omega arith)))

  same_excess : (t : Bool) → eqb x y ≡ t → t ≡ eqb (excess x) (excess y)
  same_excess true p = sym (eq-eqb (excess x) (excess y) (omega (arith, eqb-true)))
  same_excess false p = sym (ne_eqb (excess x) (excess y) (λ e. eqb-false x y p (omega arith)))

pub add_carries : AddCarries
unfolding codes_of
add_carries x y hx hy = add_carries_by x y hx hy _ _ _ refl refl refl

pub sub_borrows : SubBorrows
unfolding codes_of
sub_borrows x y hx hy = sub_borrows_by x y hx hy _ _ _ refl refl refl

pub add_overflows : AddOverflows
unfolding codes_of
add_overflows x y hx hy = add_overflows_by x y hx hy _ _ _ refl refl refl

pub sub_overflows : SubOverflows
unfolding codes_of
sub_overflows x y hx hy = sub_overflows_by x y hx hy _ _ _ refl refl refl

pub sub_less : SubLess
unfolding codes_of
sub_less x y hx hy = sub_less_by x y hx hy _ _ _ refl refl refl

pub sub-zero : SubZero
unfolding codes_of
sub-zero x y hx hy = sub_zero_by x y hx hy _ refl

pub sub_equal : SubEqual
sub_equal x y hx hy = rw (sub-zero x y hx hy) (same_excess x y hx hy _ refl)

-- equal or less is at most
equal_or_less : (a b : ℕ) (e l : Bool) → eqb a b ≡ e → ltb a b ≡ l → (e || l) ≡ leb a b
equal_or_less a b true l p q = sym (le-leb a b (omega (arith, eqb-true)))
equal_or_less a b false true p q = sym (le-leb a b (omega (arith, ltb-true)))
equal_or_less a b false false p q = sym (lt-leb a b (apart (eqb-false a b p) (ltb-false a b q)))
  where
    apart : (a ≡ b → ⊥) → b ≤ a → b < a
    apart p q = omega arith

pub sub_at_most : SubAtMost
sub_at_most x y hx hy = rw (sub_equal x y hx hy, sub_less x y hx hy) (equal_or_less (excess x) (excess y) _ _ refl refl)
