-- The test of inclusion is exact. It holds, since the members of a lie on a's steps from its lowest, which lies on b's steps, and b's step
-- divides a's. It is complete, since a's lowest, its highest and the one after its lowest are among those it has to hold for; a single
-- number has no next one, but the greatest step.
use Prim.Native.Nat.{ℕ, ◌+◌, ◌-◌, ◌%◌, ◌≤◌, ◌<◌}
use mathlib.Core.Path.{◌≡◌}
use mathlib.Core.Bool.{true, and-false}
use mathlib.Core.Logic.{⊎_elim}
use native.Mathlib.Omega.{arith}
use native.Mathlib.Nat.{le_trans, zero-mod, mod_self, eq-or-lt_of_le}
use borrow.Author.Tests.{le-leb, eq-eqb}
use Rattle.v8.proofs.Search.{needed_le, needed_eq}
use Rattle.sets.specs.Sets.{fits_set, Member}
use Rattle.sets.specs.Laws.{FitsHolds, HoldsFits}
use Rattle.sets.specs.declared.NumberSet.{NumberSet}
use Rattle.sets.proofs.Steps.{to_eight, sum_on, difference_on, finer_on, finer_of, lowest_on}

-- what the test says
record Inside (a b : NumberSet) : Type 0 where
  low : b.lo ≤ a.lo
  high : a.hi ≤ b.hi
  finer : b.step ≤ a.step
  grid : (a.lo - b.lo) % b.step ≡ 0

fits_inside : (a b : NumberSet) → fits_set a b ≡ true → Inside a b
unfolding fits_set
fits_inside a b e =
    record {
      low = needed_le _ b.lo a.lo e (λ t. simp t);
      high = needed_le _ a.hi b.hi e (λ t. simp (t, and-false));
      finer = needed_le _ b.step a.step e (λ t. simp (t, and-false));
      grid = needed_eq _ ((a.lo - b.lo) % b.step) 0 e (λ t. simp (t, and-false));
    }

inside_fits : (a b : NumberSet) → Inside a b → fits_set a b ≡ true
unfolding fits_set
inside_fits a b i = rw (le-leb _ _ i.low, le-leb _ _ i.high, le-leb _ _ i.finer, eq-eqb _ _ i.grid)

pub fits_holds : FitsHolds
fits_holds a b ra rb e n m =
    let i = fits_inside a b e in
    record {
      low = le_trans i.low m.low;
      high = le_trans m.high i.high;
      grid =
          rw (through i.low m.low)
          (sum_on rb.steps (n - a.lo) (a.lo - b.lo) (finer_on ra.steps rb.steps i.finer (n - a.lo) m.grid) i.grid);
    }
  where
    through : b.lo ≤ a.lo → a.lo ≤ n → n - b.lo ≡ (n - a.lo) + (a.lo - b.lo)
    through p q = omega arith

pub holds_fits : HoldsFits
holds_fits a b ra rb all = inside_fits a b (record { low = first.low; high = last.high; finer = finer; grid = first.grid })
  where
    none : (l : ℕ) → l - l ≡ 0
    none l = omega arith

    one : (l s : ℕ) → l + s - l ≡ s
    one l s = omega arith

    first : Member b a.lo
    first = all a.lo (record { low = omega arith; high = ra.order; grid = rw (none a.lo) (zero-mod a.step) })

    last : Member b a.hi
    last = all a.hi (record { low = ra.order; high = omega arith; grid = ra.even })

    next : a.lo < a.hi → Member b (a.lo + a.step)
    next h =
        all (a.lo + a.step)
        (record {
          low = omega arith;
          high = omega (arith, lowest_on ra.steps (a.hi - a.lo) (omega arith) ra.even);
          grid = rw (one a.lo a.step) (mod_self a.step);
        })

    apart : b.lo ≤ a.lo → (a.lo + a.step - b.lo) - (a.lo - b.lo) ≡ a.step
    apart p = omega arith

    finer : b.step ≤ a.step
    finer = ⊎_elim
        (λ (e : a.lo ≡ a.hi). rw (ra.single e) (to_eight rb.steps))
        (λ (h : a.lo < a.hi).
        finer_of ra.steps rb.steps
        (rw (apart first.low) at (difference_on rb.steps _ _ (next h).grid first.grid)))
        (eq-or-lt_of_le ra.order)
