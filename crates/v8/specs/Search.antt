-- Passes over the numbers below a bound: a test that every one has to pass, or some one, and the search for the lowest that passes. Each is
-- stated once, for any test. (The rules of document 01 that speak of every, some or the lowest are such passes.)
use Rattle.std.specs.Prelude.{ℕ, zero, suc, ◌+◌, ◌-◌, Bool, true, false, cond, ◌&&◌, ◌||◌}

-- every number below n passes the test f
unfoldable pub all : (ℕ → Bool) → ℕ → Bool
all f zero = true
all f (suc n) = all f n && f n

-- some number below n passes the test f
unfoldable pub any : (ℕ → Bool) → ℕ → Bool
any f zero = false
any f (suc n) = any f n || f n

-- the lowest of i, i + 1, .. that passes the test f, among n of them; i + n if none does
unfoldable pub lowest : (ℕ → Bool) → ℕ → ℕ → ℕ
lowest f i zero = i
lowest f i (suc n) = cond (f i) i (lowest f (i + 1) n)

-- the lowest number from i on, below n, that passes the test f; a number that is not below n if none does
unfoldable pub first : (ℕ → Bool) → ℕ → ℕ → ℕ
first f i n = lowest f i (n - i)
