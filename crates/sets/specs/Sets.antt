-- Sets of signed 32-bit numbers (document 01, "Rows": "one of lo, lo+step, .., hi, read signed"; "a single number has step 8"), their
-- form, and when one lies in another. Numbers stand in excess form, 2^31 more than the number, so that signed order is the order of ℕ.
use Rattle.std.specs.Prelude.{ℕ, ◌-◌, ◌%◌, ◌≤◌, ◌<◌, ◌≡◌, Bool, cond, not, ◌&&◌, ◌||◌, leb, eqb}
use Rattle.sets.specs.declared.NumberSet.{NumberSet}

-- 2^32: 32-bit words, and excess forms, lie below it
abbrev pub modulus : ℕ
modulus = 4294967296

-- the numbers from lo to hi that lie on the steps from lo
abbrev pub numbers : ℕ → ℕ → ℕ → NumberSet
numbers step lo hi = record { step = step; lo = lo; hi = hi }

-- one number; "a single number has step 8"
abbrev pub single : ℕ → NumberSet
single n = numbers 8 n n

-- "Full number means all 32-bit values, step 1."
abbrev pub full : NumberSet
full = numbers 1 0 (modulus - 1)

-- the set has one member
abbrev pub is_single : NumberSet → Bool
is_single s = eqb s.lo s.hi

-- "A set left with one member, also by narrowing, takes step 8."
unfoldable pub ended : ℕ → ℕ → ℕ → NumberSet
ended step lo hi = cond (eqb lo hi) (single lo) (numbers step lo hi)

-- a step: "1, 2, 4 or 8"
abbrev pub is_step : ℕ → Bool
is_step s = eqb s 1 || eqb s 2 || eqb s 4 || eqb s 8

-- "Step is 1, 2, 4 or 8, lo ≤ hi, hi − lo a multiple of it; a single number has step 8."
unfoldable pub set_ok : NumberSet → Bool
set_ok s =
    is_step s.step && leb s.lo s.hi && eqb ((s.hi - s.lo) % s.step) 0
    && (not (is_single s) || eqb s.step 8)

-- "A's set lies in B's": both ends of A are members of B, and A's step is a multiple of B's. (proofs/Fits.antt: exactly if every member of
-- A is one of B.)
unfoldable pub fits_set : NumberSet → NumberSet → Bool
fits_set a b =
    leb b.lo a.lo && leb a.hi b.hi && leb b.step a.step && eqb ((a.lo - b.lo) % b.step) 0

-- the steps
pub data Step : ℕ → Type 0 where
  s1 : Step 1
  s2 : Step 2
  s4 : Step 4
  s8 : Step 8

-- what the form of a set says
pub record SetRules (s : NumberSet) : Type 0 where
  pub steps : Step s.step
  pub order : s.lo ≤ s.hi
  pub top : s.hi < modulus
  pub even : (s.hi - s.lo) % s.step ≡ 0
  pub single : s.lo ≡ s.hi → s.step ≡ 8

-- the number n, in excess form, is one of the set
pub record Member (s : NumberSet) (n : ℕ) : Type 0 where
  pub low : s.lo ≤ n
  pub high : n ≤ s.hi
  pub grid : (n - s.lo) % s.step ≡ 0
