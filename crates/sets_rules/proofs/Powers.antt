-- Powers of two as the shifts meet them. A count s below 32 parts 2^31 into 2^s and 2^(31-s), so that dividing 2^31 leaves no
-- remainder, and what the code shifts fits its type.
use Prim.Native.Nat.{ℕ, ◌+◌, ◌-◌, ◌*◌, ◌%◌, ◌/◌, ◌^◌, ◌≤◌, ◌<◌}
use mathlib.Core.Path.{◌≡◌, sym, ◌∙◌, ap}
use mathlib.Core.Logic.{◌≢◌}
use native.Mathlib.Omega.{arith}
use native.Mathlib.Nat.{mul_comm, add-mul-div_left, mul-div_cancel_left, div-lt_iff_lt-mul, div-le_self, lt_of_lt_of_le}
use lib.Pow.{pow_pos, pow_mono, pow-add, shl_lt, shl_exact}
use Rattle.v8.specs.Signed.{bias}
use Rattle.sets.specs.Sets.{modulus}

-- 2^31 is the product of the two powers
pub parts : (s : ℕ) → s < 32 → 2 ^ s * 2 ^ (31 - s) ≡ bias
parts s h = sym (pow-add 2 s (31 - s)) ∙ ap (λ (n : ℕ). 2 ^ n) (whole s h)
  where
    whole : (s : ℕ) → s < 32 → s + (31 - s) ≡ 31
    whole s h = omega arith

-- division by p, where p g is 2^31
module _ (p g : ℕ) (pos : 0 < p) (pg : p * g ≡ bias) where
  pub half_div : bias / p ≡ g
  half_div = rw (← pg) (mul-div_cancel_left g pos)

  -- 2^31 more is g more after the division
  pub up_div : (n : ℕ) → (n + bias) / p ≡ n / p + g
  up_div n = rw (← pg) (add-mul-div_left n g pos)

  pub div_lt : (n : ℕ) → n < bias → n / p < g
  div_lt n h = (div-lt_iff_lt-mul pos).1 (rw (mul_comm g p, pg) h)

  pub half_le : g ≤ bias
  half_le = rw half_div at (div-le_self bias p)

  shr_fits_by : (n : ℕ) → n < modulus → n / p + (bias - bias / p) < modulus
  shr_fits_by n h = rw half_div (omega (arith, bound, half_le))
    where
      bound : n / p < 2 * g
      bound = (div-lt_iff_lt-mul pos).1 (omega (arith, h, pg))

-- an end shifted right fits a word
pub shr_fits : (n s : ℕ) → n < modulus → s < 32 → n / 2 ^ s + (bias - bias / 2 ^ s) < modulus
shr_fits n s h k = shr_fits_by (2 ^ s) (2 ^ (31 - s)) (pow_pos s) (parts s k) n h

-- a word shifted left within 64 bits loses no bit, and leaves bit 63 free
pub shl_fits : (n s : ℕ) → n < modulus → s < 32 → (n * 2 ^ s % 2 ^ 64 ≡ n * 2 ^ s) × (n * 2 ^ s < 2 ^ 63)
shl_fits n s h k = (shl_exact 32 s 64 h (omega arith), lt_of_lt_of_le (shl_lt {a = n} 32 s h) (pow_mono {i = 32 + s} {j = 63} (omega arith)))

-- 2^(32-s) of a count that is not 0
pub pow_half : (s : ℕ) → s ≢ 0 → 2 ^ (32 - s) ≤ bias
pow_half s k = pow_mono {i = 32 - s} {j = 31} (omega arith)
