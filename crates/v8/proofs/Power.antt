-- Powers of two that fit a word, as the code's `1 << n` gives them.
use Prim.Native.Nat.{ℕ, suc, ◌-◌, ◌*◌, ◌%◌, ◌^◌, ◌≤◌, ◌<◌}
use mathlib.Core.Path.{◌≡◌, ap, ◌∙◌}
use native.Mathlib.Omega.{arith}
use lib.Pow.{pow_pos, pow_mono}

-- 2^n is twice 2^(n-1)
pub twice : (n : ℕ) → 1 ≤ n → 2 ^ n ≡ 2 * 2 ^ (n - 1)
twice n h = ap (λ (m : ℕ). 2 ^ m) (next n h) ∙ double (n - 1)
  where
    next : (n : ℕ) → 1 ≤ n → n ≡ suc (n - 1)
    next n h = omega arith

    double : (n : ℕ) → 2 ^ suc n ≡ 2 * 2 ^ n
    double n = omega arith

-- 1 << n loses no bit
pub shifted : (n : ℕ) → n ≤ 31 → (1 * 2 ^ n) % 4294967296 ≡ 2 ^ n
shifted n h = fits n (omega (arith, pow_mono {i = n} {j = 31} h))
  where
    fits : (n : ℕ) → 2 ^ n < 4294967296 → (1 * 2 ^ n) % 4294967296 ≡ 2 ^ n
    fits n h = omega arith

-- the half of 2^n, as the code gives it
pub record Half (n : ℕ) : Type 0 where
  pub code : (1 * 2 ^ (n - 1)) % 4294967296 ≡ 2 ^ (n - 1)
  pub whole : 2 ^ n ≡ 2 * 2 ^ (n - 1)
  pub some : 1 ≤ 2 ^ (n - 1)
  pub most : 2 ^ (n - 1) ≤ 1073741824

pub half : (n : ℕ) → 1 ≤ n → n ≤ 31 → Half n
half n l h =
    record {
      code = shifted (n - 1) (omega arith);
      whole = twice n l;
      some = pow_pos (n - 1);
      most = pow_mono {i = n - 1} {j = 30} (omega arith);
    }
