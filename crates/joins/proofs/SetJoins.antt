-- The join of two sets. It has the members of both, since its step divides their steps and the distance of their lowest numbers; and it lies in
-- every set that both lie in, since the step of such a set divides those too.
use Prim.Native.Nat.{ℕ, ◌+◌, ◌-◌, ◌%◌, ◌≤◌, ◌<◌, min, max}
use mathlib.Core.Path.{◌≡◌}
use mathlib.Core.Bool.{true, and-false}
use native.Mathlib.Omega.{arith}
use native.Mathlib.Decide.{dec_le}
use native.Mathlib.Nat.{le_trans, zero-mod, min-le_left, min-le_right, le-max_left, le-max_right, min-eq_left, min-eq_right, max-eq_left, max-eq_right}
use Rattle.v8.proofs.Search.{needed_le}
use Rattle.sets.specs.declared.NumberSet.{NumberSet}
use Rattle.sets.specs.Sets.{modulus, numbers, fits_set, Step, SetRules, Member}
use Rattle.sets.proofs.Steps.{by_step, sum_on, difference_on, finer_on}
use Rattle.sets.proofs.Ends.{ended_both, ended_formed, ended_holds, ended_only}
use Rattle.sets.proofs.Fits.{fits_holds, holds_fits}
use Rattle.joins.specs.Join.{common_step, join_sets}
use Rattle.joins.specs.Laws.{SetsFormed, BothLie, LeastSet}
use Rattle.joins.proofs.CommonSteps.{Common, common}

-- what is so of two numbers is so of the smaller and of the larger
of_min : (P : ℕ → Type 0) (x y : ℕ) → P x → P y → P (min x y)
of_min P x y p q = elim (dec_le x y) [ yes l ↦ rw (min-eq_left l) p | no n ↦ rw (min-eq_right {n = y} {m = x} (omega arith)) q ]

of_max : (P : ℕ → Type 0) (x y : ℕ) → P x → P y → P (max x y)
of_max P x y p q = elim (dec_le x y) [ yes l ↦ rw (max-eq_right l) q | no n ↦ rw (max-eq_left {n = x} {m = y} (omega arith)) p ]

-- of two numbers, each is as far from the smaller as a step that divides their distance allows
first_on : {s : ℕ} → Step s → (x y : ℕ) → (max x y - min x y) % s ≡ 0 → (x - min x y) % s ≡ 0
first_on =
    by_step (λ (s : ℕ). (x y : ℕ) → (max x y - min x y) % s ≡ 0 → (x - min x y) % s ≡ 0)
    (omega arith) (omega arith) (omega arith) (omega arith)

second_on : {s : ℕ} → Step s → (x y : ℕ) → (max x y - min x y) % s ≡ 0 → (y - min x y) % s ≡ 0
second_on =
    by_step (λ (s : ℕ). (x y : ℕ) → (max x y - min x y) % s ≡ 0 → (y - min x y) % s ≡ 0)
    (omega arith) (omega arith) (omega arith) (omega arith)

-- what lies on the steps from l lies on smaller steps from a number m on which l lies
on_through : {s t : ℕ} → Step s → Step t → t ≤ s → (n l m : ℕ) → l ≤ n → m ≤ l → (n - l) % s ≡ 0 → (l - m) % t ≡ 0 → (n - m) % t ≡ 0
on_through ps pt f n l m p q g h = rw (through p q) (sum_on pt (n - l) (l - m) (finer_on ps pt f (n - l) g) h)
  where
    through : l ≤ n → m ≤ l → n - m ≡ (n - l) + (l - m)
    through p q = omega arith

-- the lowest and the highest number of a set
lowest : (s : NumberSet) → SetRules s → Member s s.lo
lowest s r = record { low = omega arith; high = r.order; grid = rw (none s.lo) (zero-mod s.step) }
  where
    none : (l : ℕ) → l - l ≡ 0
    none l = omega arith

highest : (s : NumberSet) → SetRules s → Member s s.hi
highest s r = record { low = r.order; high = omega arith; grid = r.even }

-- what lies in a set has a multiple of its step
finer : (a c : NumberSet) → fits_set a c ≡ true → c.step ≤ a.step
unfolding fits_set
finer a c e = needed_le _ c.step a.step e (λ t. simp (t, and-false))

module _ (a b : NumberSet) (ra : SetRules a) (rb : SetRules b) where
  abbrev low : ℕ
  low = min a.lo b.lo

  abbrev high : ℕ
  high = max a.hi b.hi

  abbrev apart : ℕ
  apart = max a.lo b.lo - low

  abbrev step : ℕ
  step = common_step a.step b.step apart

  abbrev joined : NumberSet
  joined = numbers step low high

  shared : Common a.step b.step apart step
  shared = common ra.steps rb.steps apart

  -- the members of both are members of the join
  first_holds : (n : ℕ) → Member a n → Member joined n
  first_holds n m =
      record {
        low = le_trans (min-le_left a.lo b.lo) m.low;
        high = le_trans m.high (le-max_left a.hi b.hi);
        grid =
            on_through ra.steps shared.steps shared.first n a.lo low m.low (min-le_left a.lo b.lo) m.grid
            (first_on shared.steps a.lo b.lo shared.on);
      }

  second_holds : (n : ℕ) → Member b n → Member joined n
  second_holds n m =
      record {
        low = le_trans (min-le_right a.lo b.lo) m.low;
        high = le_trans m.high (le-max_right a.hi b.hi);
        grid =
            on_through rb.steps shared.steps shared.second n b.lo low m.low (min-le_right a.lo b.lo) m.grid
            (second_on shared.steps a.lo b.lo shared.on);
      }

  formed : SetRules (join_sets a b)
  unfolding join_sets
  formed =
      let last = of_max (Member joined) a.hi b.hi (first_holds a.hi (highest a ra)) (second_holds b.hi (highest b rb)) in
      ended_formed step low high shared.steps last.low (of_max (λ (n : ℕ). n < modulus) a.hi b.hi ra.top rb.top) last.grid

  both : (fits_set a (join_sets a b) ≡ true) × (fits_set b (join_sets a b) ≡ true)
  unfolding join_sets
  both = (
    holds_fits a (join_sets a b) ra formed (λ n m. ended_holds step low high n (first_holds n m)),
    holds_fits b (join_sets a b) rb formed (λ n m. ended_holds step low high n (second_holds n m)),
  )

  -- a set that both lie in has their ends, and a step that divides the common one
  module _ (c : NumberSet) (rc : SetRules c) (fa : fits_set a c ≡ true) (fb : fits_set b c ≡ true) where
    low_in : Member c low
    low_in = of_min (Member c) a.lo b.lo (fits_holds a c ra rc fa a.lo (lowest a ra)) (fits_holds b c rb rc fb b.lo (lowest b rb))

    next_in : Member c (max a.lo b.lo)
    next_in = of_max (Member c) a.lo b.lo (fits_holds a c ra rc fa a.lo (lowest a ra)) (fits_holds b c rb rc fb b.lo (lowest b rb))

    high_in : Member c high
    high_in = of_max (Member c) a.hi b.hi (fits_holds a c ra rc fa a.hi (highest a ra)) (fits_holds b c rb rc fb b.hi (highest b rb))

    apart_on : apart % c.step ≡ 0
    apart_on = rw (less (max a.lo b.lo) low c.lo low_in.low) at (difference_on rc.steps (max a.lo b.lo - c.lo) (low - c.lo) next_in.grid low_in.grid)
      where
        less : (x y z : ℕ) → z ≤ y → (x - z) - (y - z) ≡ x - y
        less x y z p = omega arith

    within : (n : ℕ) → Member joined n → Member c n
    within n m =
        record {
          low = le_trans low_in.low m.low;
          high = le_trans m.high high_in.high;
          grid =
              on_through shared.steps rc.steps (shared.greatest rc.steps (finer a c fa) (finer b c fb) apart_on) n low c.lo m.low low_in.low
              m.grid low_in.grid;
        }

    least : fits_set (join_sets a b) c ≡ true
    unfolding join_sets
    least = holds_fits (join_sets a b) c formed rc (λ n m. within n (ended_only step low high n m))

-- the join of two sets lies between bounds that both lie between
pub joined_ends : (s t : NumberSet) (k h : ℕ) → k ≤ s.lo → k ≤ t.lo → s.hi ≤ h → t.hi ≤ h → (k ≤ (join_sets s t).lo) × ((join_sets s t).hi ≤ h)
unfolding join_sets
joined_ends s t k h p q u v =
    ended_both (λ (r : NumberSet). (k ≤ r.lo) × (r.hi ≤ h)) _ (min s.lo t.lo) (max s.hi t.hi)
    (λ e. (omega arith, omega arith))
    (λ _. (omega arith, omega arith))

pub sets_formed : SetsFormed
sets_formed a b ra rb = formed a b ra rb

pub both_lie : BothLie
both_lie a b ra rb = both a b ra rb

pub least_set : LeastSet
least_set a b c ra rb rc fa fb = least a b ra rb c rc fa fb
