-- Sets by their ends: the full set, and a set that takes step 8 if one member is left. Each is well formed, and holds the numbers between its
-- ends that lie on its steps.
use Prim.Native.Nat.{ℕ, ◌-◌, ◌%◌, ◌≤◌, ◌<◌}
use mathlib.Core.Path.{◌≡◌, refl}
use mathlib.Core.Logic.{◌≢◌}
use native.Mathlib.Omega.{arith}
use native.Mathlib.Nat.{zero-mod}
use lib.Dec.{eqb}
use borrow.Author.Tests.{eqb-true, eqb-false}
use Rattle.v8.proofs.Choice.{cond_both}
use Rattle.v8.specs.Signed.{excess}
use Rattle.sets.specs.Sets.{modulus, numbers, single, full, ended, Step, s1, s8, SetRules, Member}
use Rattle.sets.specs.declared.NumberSet.{NumberSet}
use Rattle.sets.proofs.Steps.{difference_on}

-- a member lies on the steps down from the highest, too
pub from_top : (s : NumberSet) (n : ℕ) → SetRules s → Member s n → (s.hi - n) % s.step ≡ 0
from_top s n r m = rw (rest m.low) (difference_on r.steps _ _ r.even m.grid)
  where
    rest : s.lo ≤ n → s.hi - n ≡ (s.hi - s.lo) - (n - s.lo)
    rest p = omega arith

pub full_formed : SetRules full
full_formed = record { steps = s1; order = omega arith; top = omega arith; even = omega arith; single = λ e. absurd (apart e) }
  where
    apart : ◌≡◌ {A = ℕ} 0 (modulus - 1) → ⊥
    apart e = omega arith

pub full_holds : (x : ℕ) → Member full (excess x)
full_holds x = omega arith

pub single_formed : (n : ℕ) → n < modulus → SetRules (single n)
single_formed n h = record { steps = s8; order = omega arith; top = h; even = omega arith; single = λ _. refl }

pub single_holds : (n : ℕ) → Member (single n) n
single_holds n = omega arith

-- what is so of one number and of more is so of a set with these ends
pub ended_both : (P : NumberSet → Type 0) (s l h : ℕ) → (l ≡ h → P (single l)) → (l ≢ h → P (numbers s l h)) → P (ended s l h)
unfolding ended
ended_both P s l h f g = cond_both P (eqb l h) (λ e. f (eqb-true l h e)) (λ e. g (eqb-false l h e))

pub ended_formed : (s l h : ℕ) → Step s → l ≤ h → h < modulus → (h - l) % s ≡ 0 → SetRules (ended s l h)
ended_formed s l h p k t g =
    ended_both SetRules s l h
    (λ e. single_formed l (omega arith))
    (λ e. record { steps = p; order = k; top = t; even = g; single = λ q. absurd (e q) })

-- the members are those of the numbers between the ends
pub ended_holds : (s l h n : ℕ) → Member (numbers s l h) n → Member (ended s l h) n
ended_holds s l h n m =
    ended_both (λ (r : NumberSet). Member r n) s l h (λ e. one m.low m.high e) (λ _. m)
  where
    one : l ≤ n → n ≤ h → l ≡ h → Member (single l) n
    one p q e = omega arith

pub ended_only : (s l h n : ℕ) → Member (ended s l h) n → Member (numbers s l h) n
ended_only s l h n =
    ended_both (λ (r : NumberSet). Member r n → Member (numbers s l h) n) s l h
    (λ e m. record { low = m.low; high = below e m.high; grid = rw (none m.low m.high) (zero-mod s) })
    (λ _ m. m)
  where
    below : l ≡ h → n ≤ l → n ≤ h
    below e q = omega arith

    none : l ≤ n → n ≤ l → n - l ≡ 0
    none p q = omega arith
