-- A number of 64 bits has at most 20 digits: one with more is at least 10^20.
use Prim.Native.Nat.{ℕ, zero, suc, ◌+◌, ◌-◌, ◌*◌, ◌^◌, ◌≤◌, ◌<◌}
use mathlib.Core.Path.{◌≡◌, refl, subst}
use mathlib.Core.Bool.{Bool, true, false}
use native.Mathlib.Omega.{arith}
use lib.Dec.{leb}
use lib.Pow.{pow-add}
use borrow.Author.Tests.{leb-true, leb-false}
use Rattle.io.specs.Digits.{IsDigitCount}

some_power : (j : ℕ) → 1 ≤ 10 ^ j
some_power zero = omega arith
some_power (suc j) = omega (arith, some_power j)

too_many : (n j : ℕ) → n < 18446744073709551616 → 10 ^ (20 + j) ≤ n → ⊥
too_many n j l h = far n (10 ^ j) l (some_power j) (subst (λ (p : ℕ). p ≤ n) (pow-add 10 20 j) h)
  where
    far : (n p : ℕ) → n < 18446744073709551616 → 1 ≤ p → 100000000000000000000 * p ≤ n → ⊥
    far n p l s h = omega arith

pub at-most : (n k : ℕ) → n < 18446744073709551616 → IsDigitCount 10 1 n k → k ≤ 20
at-most n k l f = by (leb k 20) refl
  where
    more : (k : ℕ) → 20 < k → k - 1 ≡ 20 + (k - 21)
    more k h = omega arith

    by : (t : Bool) → leb k 20 ≡ t → k ≤ 20
    by true t = leb-true k 20 t
    by false t =
        let h = leb-false k 20 t in
        absurd (too_many n (k - 21) l (subst (λ (p : ℕ). 10 ^ p ≤ n) (more k h) (f.2 (omega (arith, h)))))
