-- A set whose ends may leave the signed 32 bits: it is the full set, or the numbers between them.
use Prim.Native.Nat.{ℕ, ◌+◌, ◌-◌, ◌%◌, ◌≤◌, ◌<◌}
use mathlib.Core.Path.{◌≡◌, refl, sym, ◌∙◌}
use mathlib.Core.Bool.{Bool, true, false, ◌||◌, true≢false}
use native.Mathlib.Omega.{arith}
use lib.Dec.{ltb, leb}
use borrow.Author.Tests.{ltb-false, leb-false, le-ltb, lt-leb}
use Rattle.v8.proofs.Choice.{cond_both}
use Rattle.v8.specs.Signed.{excess, bias}
use Rattle.sets.specs.Sets.{modulus, numbers, full, Step, SetRules, Member}
use Rattle.sets_rules.specs.Rules.{lowest, beyond, within}
use Rattle.sets.specs.declared.NumberSet.{NumberSet}
use Rattle.sets.proofs.Ends.{full_formed, full_holds}

-- what fails none of two tests fails neither
neither : (a b : Bool) → (a || b) ≡ false → (a ≡ false) × (b ≡ false)
neither true b e = absurd (true≢false e)
neither false b e = (refl, e)

-- a number that is held 2^32 more than it is lies in the signed 32 bits
abbrev pub Held : ℕ → Type 0
Held w = (lowest ≤ w) × (w < beyond)

-- what is so of the full set where an end leaves the signed 32 bits, and of the numbers where both stay, is so of a set with these ends
pub within_both : (P : NumberSet → Type 0) (s l h : ℕ) → ((Held l → Held h → ⊥) → P full)
    → (Held l → Held h → P (numbers s (l - lowest) (h - lowest))) → P (within s l h)
unfolding within
within_both P s l h f g =
    cond_both P _
    (λ e. f (λ p q. true≢false (sym e ∙ stay p q)))
    (λ e.
    let a = neither _ (leb beyond h) e in
    let b = neither _ (leb beyond l) a.0 in
    let c = neither (ltb l lowest) (ltb h lowest) b.0 in
    g (ltb-false l lowest c.0, leb-false beyond l b.1) (ltb-false h lowest c.1, leb-false beyond h a.1))
  where
    stay : Held l → Held h → (ltb l lowest || ltb h lowest || leb beyond l || leb beyond h) ≡ false
    stay p q = rw (le-ltb l lowest p.0, le-ltb h lowest q.0, lt-leb beyond l p.1, lt-leb beyond h q.1)

-- as much less on both sides of a distance
less : (l n : ℕ) → lowest ≤ l → n - lowest - (l - lowest) ≡ n - l
less l n a = omega arith

pub within_formed : (s l h : ℕ) → Step s → l ≤ h → (h - l) % s ≡ 0 → (l ≡ h → s ≡ 8) → SetRules (within s l h)
within_formed s l h p k g one =
    within_both SetRules s l h (λ _. full_formed)
    (λ a b. record { steps = p; order = omega arith; top = omega arith; even = rw (less l h a.0) g; single = λ e. one (omega arith) })

module _ (s l h w : ℕ) (m : Member (numbers s l h) w) where
  lowered : lowest ≤ l → Member (numbers s (l - lowest) (h - lowest)) (w - lowest)
  lowered a = record { low = omega (arith, m.low); high = omega (arith, m.high); grid = rw (less l w a) m.grid }

  -- a word whose excess form is w, less 2^31 and modulo 2^32
  pub within_holds : (x : ℕ) → excess x ≡ (w + bias) % modulus → Member (within s l h) (excess x)
  within_holds x e =
      within_both (λ (r : NumberSet). Member r (excess x)) s l h (λ _. full_holds x)
      (λ a b. rw (e, folded a.0 b.1) (lowered a.0))
    where
      folded : lowest ≤ l → h < beyond → (w + bias) % modulus ≡ w - lowest
      folded a b = omega (arith, m.low, m.high)

  -- where no number of the set is negative, it is not the full set, and w itself is one of it
  pub within_positive : bias ≤ (within s l h).lo → (modulus ≤ w) × Member (within s l h) (w - lowest)
  within_positive =
      within_both (λ (r : NumberSet). bias ≤ r.lo → (modulus ≤ w) × Member r (w - lowest)) s l h
      (λ _ k. absurd (none k))
      (λ a b k. (omega (arith, m.low), lowered a.0))
    where
      none : bias ≤ 0 → ⊥
      none k = omega arith
