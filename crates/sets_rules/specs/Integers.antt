-- Sets by the integers that their ends stand for, as document 01 speaks of them. An excess form stands for the integer 2^31 below it; that of
-- a word stands for the integer of the word (v8's ExcessIs).
use Rattle.std.specs.Prelude.{ℕ, ◌≡◌, ◌≢◌, ℤ, pos, neg_ℤ, ◌+ℤ◌, ◌*ℤ◌, ◌≤ℤ◌, ◌<ℤ◌}
use Rattle.std.proofs.Math.IntN.{sub_ℕ}
use Rattle.v8.specs.Signed.{bias}
use Rattle.sets.specs.Sets.{full}
use Rattle.sets.specs.declared.NumberSet.{NumberSet}

-- the integer that an excess form stands for
abbrev pub integer : ℕ → ℤ
integer n = sub_ℕ n bias

-- an integer is one of the signed 32 bits: −2^31 ≤ z < 2^31
pub record Within32 (z : ℤ) : Type 0 where
  pub low : neg_ℤ (pos bias) ≤ℤ z
  pub high : z <ℤ pos bias

-- s is the set from lo to hi with this step; "A set left with one member .. takes step 8."
pub record Ends (step : ℕ) (lo hi : ℤ) (s : NumberSet) : Type 0 where
  pub lo_is : integer s.lo ≡ lo
  pub hi_is : integer s.hi ≡ hi
  pub step_is : lo ≢ hi → s.step ≡ step
  pub one_member : lo ≡ hi → s.step ≡ 8

-- s is that set; "full if an end leaves signed 32 bits"
pub record EndsOrFull (step : ℕ) (lo hi : ℤ) (s : NumberSet) : Type 0 where
  pub both_stay : Within32 lo → Within32 hi → Ends step lo hi s
  pub lo_leaves : ¬ Within32 lo → s ≡ full
  pub hi_leaves : ¬ Within32 hi → s ≡ full

-- q is z divided by p, rounding down: q p ≤ z < (q + 1) p
pub record RoundedDown (z : ℤ) (p : ℕ) (q : ℤ) : Type 0 where
  pub reached : (q *ℤ pos p) ≤ℤ z
  pub next : z <ℤ ((q +ℤ pos 1) *ℤ pos p)
