-- The steps 1, 2, 4 and 8, of which each divides the greater ones. What is shown of a step goes by the four cases (`by_step`), where it
-- is a numeral.
use Prim.Native.Nat.{ℕ, zero, suc, ◌+◌, ◌-◌, ◌*◌, ◌%◌, ◌^◌, ◌≤◌, ◌<◌, min}
use mathlib.Core.Path.{◌≡◌}
use native.Mathlib.Omega.{arith}
use lib.Pow.{pow_pos}
use Rattle.sets.specs.Sets.{Step, s1, s2, s4, s8}

pub by_step : (P : ℕ → Type 0) → P 1 → P 2 → P 4 → P 8 → {s : ℕ} → Step s → P s
by_step P a b c d s1 = a
by_step P a b c d s2 = b
by_step P a b c d s4 = c
by_step P a b c d s8 = d

-- no step is greater than 8
pub to_eight : {s : ℕ} → Step s → s ≤ 8
to_eight = by_step (λ (s : ℕ). s ≤ 8) (omega arith) (omega arith) (omega arith) (omega arith)

-- the smaller of two steps
pub min_step : {s t : ℕ} → Step s → Step t → Step (min s t)
min_step s1 = by_step (λ (t : ℕ). Step (min 1 t)) s1 s1 s1 s1
min_step s2 = by_step (λ (t : ℕ). Step (min 2 t)) s1 s2 s2 s2
min_step s4 = by_step (λ (t : ℕ). Step (min 4 t)) s1 s2 s4 s4
min_step s8 = by_step (λ (t : ℕ). Step (min 8 t)) s1 s2 s4 s8

-- sums and differences of multiples
pub sum_on : {s : ℕ} → Step s → (a b : ℕ) → a % s ≡ 0 → b % s ≡ 0 → (a + b) % s ≡ 0
sum_on = by_step (λ (s : ℕ). (a b : ℕ) → a % s ≡ 0 → b % s ≡ 0 → (a + b) % s ≡ 0) (omega arith) (omega arith) (omega arith) (omega arith)

pub difference_on : {s : ℕ} → Step s → (a b : ℕ) → a % s ≡ 0 → b % s ≡ 0 → (a - b) % s ≡ 0
difference_on = by_step (λ (s : ℕ). (a b : ℕ) → a % s ≡ 0 → b % s ≡ 0 → (a - b) % s ≡ 0) (omega arith) (omega arith) (omega arith) (omega arith)

-- a multiple of a step is one of every smaller step
pub finer_on : {s t : ℕ} → Step s → Step t → t ≤ s → (d : ℕ) → d % s ≡ 0 → d % t ≡ 0
finer_on s1 = by_step (λ (t : ℕ). t ≤ 1 → (d : ℕ) → d % 1 ≡ 0 → d % t ≡ 0) (omega arith) (omega arith) (omega arith) (omega arith)
finer_on s2 = by_step (λ (t : ℕ). t ≤ 2 → (d : ℕ) → d % 2 ≡ 0 → d % t ≡ 0) (omega arith) (omega arith) (omega arith) (omega arith)
finer_on s4 = by_step (λ (t : ℕ). t ≤ 4 → (d : ℕ) → d % 4 ≡ 0 → d % t ≡ 0) (omega arith) (omega arith) (omega arith) (omega arith)
finer_on s8 = by_step (λ (t : ℕ). t ≤ 8 → (d : ℕ) → d % 8 ≡ 0 → d % t ≡ 0) (omega arith) (omega arith) (omega arith) (omega arith)

-- multiples of two steps add up on the smaller one
pub both_on : {s t : ℕ} → Step s → Step t → (a b : ℕ) → a % s ≡ 0 → b % t ≡ 0 → (a + b) % min s t ≡ 0
both_on ps pt a b p q =
    let m = min_step ps pt in
    sum_on m a b (finer_on ps m (omega arith) a p) (finer_on pt m (omega arith) b q)

-- a step is a multiple of the smaller ones only, and has itself as the lowest multiple
pub finer_of : {s t : ℕ} → Step s → Step t → s % t ≡ 0 → t ≤ s
finer_of s1 = by_step (λ (t : ℕ). 1 % t ≡ 0 → t ≤ 1) (omega arith) (omega arith) (omega arith) (omega arith)
finer_of s2 = by_step (λ (t : ℕ). 2 % t ≡ 0 → t ≤ 2) (omega arith) (omega arith) (omega arith) (omega arith)
finer_of s4 = by_step (λ (t : ℕ). 4 % t ≡ 0 → t ≤ 4) (omega arith) (omega arith) (omega arith) (omega arith)
finer_of s8 = by_step (λ (t : ℕ). 8 % t ≡ 0 → t ≤ 8) (omega arith) (omega arith) (omega arith) (omega arith)

pub lowest_on : {s : ℕ} → Step s → (d : ℕ) → 0 < d → d % s ≡ 0 → s ≤ d
lowest_on = by_step (λ (s : ℕ). (d : ℕ) → 0 < d → d % s ≡ 0 → s ≤ d) (omega arith) (omega arith) (omega arith) (omega arith)

-- the greatest multiple up to d
pub record Rounded (s d : ℕ) : Type 0 where
  pub most : d - d % s ≤ d
  pub on : (d - d % s) % s ≡ 0
  pub greatest : (e : ℕ) → e ≤ d → e % s ≡ 0 → e ≤ d - d % s

pub rounded : {s : ℕ} → Step s → (d : ℕ) → Rounded s d
rounded p d =
    record {
      most = omega arith;
      on = by_step (λ (s : ℕ). (d - d % s) % s ≡ 0) (omega arith) (omega arith) (omega arith) (omega arith) p;
      greatest =
          by_step (λ (s : ℕ). (e : ℕ) → e ≤ d → e % s ≡ 0 → e ≤ d - d % s) (omega arith) (omega arith) (omega arith) (omega arith) p;
    }

-- A step times 2^j, but at most 8, is a step, and divides what the step divides, times 2^j: for a count of 0, of 1, of 2, and of more,
-- where it is 8.
eight_times : (j : ℕ) → 2 ^ suc (suc (suc j)) ≡ 8 * 2 ^ j
eight_times j = omega arith

eight : {s : ℕ} → Step s → (q : ℕ) → 0 < q → min 8 (s * (8 * q)) ≡ 8
eight = by_step (λ (s : ℕ). (q : ℕ) → 0 < q → min 8 (s * (8 * q)) ≡ 8) (omega arith) (omega arith) (omega arith) (omega arith)

pub shifted_step : {s : ℕ} → Step s → (j : ℕ) → Step (min 8 (s * 2 ^ j))
shifted_step p zero = by_step (λ (s : ℕ). Step (min 8 (s * 1))) s1 s2 s4 s8 p
shifted_step p (suc zero) = by_step (λ (s : ℕ). Step (min 8 (s * 2))) s2 s4 s8 s8 p
shifted_step p (suc (suc zero)) = by_step (λ (s : ℕ). Step (min 8 (s * 4))) s4 s8 s8 s8 p
shifted_step p (suc (suc (suc j))) = rw (eight_times j, eight p (2 ^ j) (pow_pos j)) s8

pub shifted_on : {s : ℕ} → Step s → (j d : ℕ) → d % s ≡ 0 → (d * 2 ^ j) % min 8 (s * 2 ^ j) ≡ 0
shifted_on p zero = by_step (λ (s : ℕ). (d : ℕ) → d % s ≡ 0 → (d * 1) % min 8 (s * 1) ≡ 0) (omega arith) (omega arith) (omega arith) (omega arith) p
shifted_on p (suc zero) = by_step (λ (s : ℕ). (d : ℕ) → d % s ≡ 0 → (d * 2) % min 8 (s * 2) ≡ 0) (omega arith) (omega arith) (omega arith) (omega arith) p
shifted_on p (suc (suc zero)) = by_step (λ (s : ℕ). (d : ℕ) → d % s ≡ 0 → (d * 4) % min 8 (s * 4) ≡ 0) (omega arith) (omega arith) (omega arith) (omega arith) p
shifted_on p (suc (suc (suc j))) = λ d h. rw (eight_times j, eight p (2 ^ j) (pow_pos j)) (times d (2 ^ j))
  where
    times : (d q : ℕ) → (d * (8 * q)) % 8 ≡ 0
    times d q = omega arith
