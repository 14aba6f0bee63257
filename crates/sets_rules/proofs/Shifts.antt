-- Shifts of sets. SRA's excess form is the excess form divided, since 2^31 is a multiple of 2^s. SLL's excess form is the excess form
-- times 2^s, modulo 2^32; where the lowest end is out of reach, the set is full.
use Prim.Native.Nat.{ℕ, ◌+◌, ◌-◌, ◌*◌, ◌%◌, ◌/◌, ◌^◌, ◌≤◌, ◌<◌, min}
use mathlib.Core.Path.{◌≡◌, sym, ◌∙◌, ap}
use native.Mathlib.Omega.{arith}
use native.Mathlib.Nat.{mod-one, mod-eq_of_lt, mul-le-mul_right, eq_of_mul-eq-mul_right}
use native.Mathlib.Decide.{dec_le}
use lib.Dec.{leb, eqb}
use lib.Pow.{pow_pos, pow_mono, shr_mono, shr_lt}
use borrow.Author.Tests.{leb-true, leb-false, eqb-false, lt-leb}
use Rattle.v8.proofs.Choice.{cond_both}
use Rattle.v8.proofs.Power.{twice}
use Rattle.v8.specs.Signed.{excess, bias}
use Rattle.v8.specs.declared.ShiftOp.TheVariants.{Sll, Srl, Sra}
use Rattle.alu.specs.Result.{sll32, srl32, sra32}
use Rattle.sets.specs.Sets.{modulus, numbers, full, s1, SetRules, Member}
use Rattle.sets_rules.specs.Rules.{within, shifted_up, shifted_down, sll_set, sra_set, srl_set}
use Rattle.sets_rules.specs.Laws.{ShiftFormed, ShiftHolds}
use Rattle.sets.specs.declared.NumberSet.{NumberSet}
use Rattle.sets.proofs.Steps.{shifted_step, shifted_on}
use Rattle.sets_rules.proofs.Powers.{parts, half_div, up_div, div_lt, half_le, shr_fits, pow_half}
use Rattle.sets.proofs.Ends.{full_formed, full_holds, ended_formed, ended_holds}
use Rattle.sets_rules.proofs.Overflow.{within_both, within_formed, within_holds}
use Rattle.sets_rules.proofs.Arithmetic.{positive}

sra_formed : (a : NumberSet) (s : ℕ) → s < 32 → SetRules a → SetRules (sra_set a s)
unfolding sra_set
sra_formed a s h r = ended_formed 1 _ _ s1 (omega (arith, shr_mono s r.order)) (shr_fits a.hi s r.top h) (mod-one _)

-- a word of either half divided by p, where p g is 2^31
module _ (p g : ℕ) (pos : 0 < p) (pg : p * g ≡ bias) where
  low_half : (n : ℕ) → n < bias → excess (n / p) ≡ (n + bias) / p + (bias - bias / p)
  low_half n h = rw (up_div p g pos pg n, half_div p g pos pg) (put (n / p) (div_lt p g pos pg n h) (half_le p g pos pg))
    where
      put : (q : ℕ) → q < g → g ≤ bias → excess q ≡ q + g + (bias - g)
      put q h k = omega arith

  high_half : (n : ℕ) → n < bias → excess ((n + bias) / p + (modulus - 2 * g)) ≡ n / p + (bias - bias / p)
  high_half n h = rw (up_div p g pos pg n, half_div p g pos pg) (put (n / p) (div_lt p g pos pg n h) (half_le p g pos pg))
    where
      put : (q : ℕ) → q < g → g ≤ bias → excess (q + g + (modulus - 2 * g)) ≡ q + (bias - g)
      put q h k = omega arith

-- the excess form of a shifted word is the shifted excess form
excess_sra : (x s : ℕ) → x < modulus → s < 32 → excess (sra32 x s) ≡ shifted_down (excess x) s
excess_sra x s h k =
    cond_both (λ (r : ℕ). excess r ≡ shifted_down (excess x) s) (leb bias x)
    (λ t. let e = leb-true bias x t in
    rw (above x e h, powers s k)
    (rw (back x e) at (high_half (2 ^ s) (2 ^ (31 - s)) (pow_pos s) (parts s k) (x - bias) (less x e h))))
    (λ t. let e = leb-false bias x t in
    rw (below x e) (low_half (2 ^ s) (2 ^ (31 - s)) (pow_pos s) (parts s k) x e))
  where
    above : (x : ℕ) → bias ≤ x → x < modulus → excess x ≡ x - bias
    above x h k = omega arith

    below : (x : ℕ) → x < bias → excess x ≡ x + bias
    below x h = omega arith

    back : (x : ℕ) → bias ≤ x → x - bias + bias ≡ x
    back x h = omega arith

    less : (x : ℕ) → bias ≤ x → x < modulus → x - bias < bias
    less x h k = omega arith

    powers : (s : ℕ) → s < 32 → 2 ^ (32 - s) ≡ 2 * 2 ^ (31 - s)
    powers s h = twice (32 - s) (omega arith) ∙ ap (λ (n : ℕ). 2 * 2 ^ n) (one s h)
      where
        one : (s : ℕ) → s < 32 → 32 - s - 1 ≡ 31 - s
        one s h = omega arith

sra_holds : (a : NumberSet) (x s : ℕ) → x < modulus → s < 32 → Member a (excess x) → Member (sra_set a s) (excess (sra32 x s))
unfolding sra_set
sra_holds a x s h k m =
    rw (excess_sra x s h k)
    (ended_holds 1 _ _ _
    (record { low = omega (arith, shr_mono s m.low); high = omega (arith, shr_mono s m.high); grid = mod-one _ }))

-- SRL: a set of numbers that are not negative is shifted as by SRA; else all words that a shifted word can be
srl_formed : (a : NumberSet) (s : ℕ) → s < 32 → SetRules a → SetRules (srl_set a s)
unfolding srl_set
srl_formed a s h r =
    cond_both SetRules (leb bias a.lo) (λ _. sra_formed a s h r)
    (λ _. cond_both SetRules (eqb s 0) (λ _. full_formed)
    (λ t. below (2 ^ (32 - s)) (pow_mono {i = 1} {j = 32 - s} (omega arith)) (pow_half s (eqb-false s 0 t))))
  where
    below : (n : ℕ) → 2 ≤ n → n ≤ bias → SetRules (numbers 1 bias (bias + (n - 1)))
    below n p q = record { steps = s1; order = omega arith; top = omega arith; even = mod-one _; single = λ e. absurd (apart e) }
      where
        apart : bias ≡ bias + (n - 1) → ⊥
        apart e = omega arith

srl_holds : (a : NumberSet) (x s : ℕ) → x < modulus → s < 32 → Member a (excess x) → Member (srl_set a s) (excess (srl32 x s))
unfolding srl_set
srl_holds a x s h k m =
    cond_both Holds (leb bias a.lo)
    (λ t. rw (same (positive a.lo x t h m.low).1) at (sra_holds a x s h k m))
    (λ _. cond_both Holds (eqb s 0) (λ _. full_holds (srl32 x s))
    (λ t. below (2 ^ (32 - s)) (x / 2 ^ s) (shr_lt (32 - s) s (rw (whole s k) h)) (pow_half s (eqb-false s 0 t))))
  where
    Holds : NumberSet → Type 0
    Holds r = Member r (excess (srl32 x s))

    same : x < bias → sra32 x s ≡ srl32 x s
    same p = rw (lt-leb bias x p)

    whole : (s : ℕ) → s < 32 → 32 - s + s ≡ 32
    whole s h = omega arith

    below : (n z : ℕ) → z < n → n ≤ bias → Member (numbers 1 bias (bias + (n - 1))) (excess z)
    below n z p q = omega arith

-- SLL: from l to v is (v - l) p, after both were shifted, where l stays in reach
gap : (l v p : ℕ) → l ≤ v → bias * p ≤ l * p + modulus
    → v * p + modulus - bias * p - (l * p + modulus - bias * p) ≡ (v - l) * p
gap l v p k h = rw (on l v k) at (put l (v - l) p h)
  where
    put : (l d p : ℕ) → bias * p ≤ l * p + modulus
        → (l + d) * p + modulus - bias * p - (l * p + modulus - bias * p) ≡ d * p
    put l d p h = omega arith

    on : (l v : ℕ) → l ≤ v → l + (v - l) ≡ v
    on l v k = omega arith

-- the order stays
order : (l v p : ℕ) → l ≤ v → l * p + modulus - bias * p ≤ v * p + modulus - bias * p
order l v p k = omega (arith, mul-le-mul_right p k)

-- what is so of the full set, and of the set where the lowest end is in reach, is so of the shifted set
in_reach : (P : NumberSet → Type 0) (t l h p : ℕ) → P full
    → (bias * p ≤ l * p + modulus → P (within t (l * p + modulus - bias * p) h))
    → P (within t (l * p + modulus - bias * p) h)
in_reach P t l h p f g =
    elim (dec_le (bias * p) (l * p + modulus)) [
      | yes k ↦ g k
      | no k ↦ within_both P t (l * p + modulus - bias * p) h (λ _. f) (λ q _. absurd (out k q.0))
    ]
  where
    out : ¬ (bias * p ≤ l * p + modulus) → bias ≤ l * p + modulus - bias * p → ⊥
    out k q = omega arith

sll_formed : (a : NumberSet) (s : ℕ) → SetRules a → SetRules (sll_set a s)
unfolding sll_set
sll_formed a s r =
    in_reach SetRules _ a.lo _ (2 ^ s) full_formed
    (λ k. within_formed _ _ _ (shifted_step r.steps s) (order a.lo a.hi (2 ^ s) r.order)
    (rw (gap a.lo a.hi (2 ^ s) r.order k) (shifted_on r.steps s (a.hi - a.lo) r.even))
    (λ e. rw (r.single (eq_of_mul-eq-mul_right (2 ^ s) (pow_pos s) a.lo a.hi (same e k))) (eight s)))
  where
    same : shifted_up a.lo s ≡ shifted_up a.hi s → bias * 2 ^ s ≤ a.lo * 2 ^ s + modulus → a.lo * 2 ^ s ≡ a.hi * 2 ^ s
    same e k = omega (arith, mul-le-mul_right (2 ^ s) r.order)

    eight : (s : ℕ) → min 8 (8 * 2 ^ s) ≡ 8
    eight s = omega (arith, pow_pos s)

-- the excess form of a word times p
excess_times : (x p : ℕ) → bias * p ≤ excess x * p + modulus
    → excess (x * p % modulus) ≡ (excess x * p + modulus - bias * p + bias) % modulus
excess_times x p h =
    sym (same (excess x * p + modulus - bias * p) ((x + bias) / modulus * p) (x * p)
    (put (excess x) ((x + bias) / modulus) h (parted x)))
  where
    same : (a k b : ℕ) → a + k * modulus ≡ b + modulus → (a + bias) % modulus ≡ (b % modulus + bias) % modulus
    same a k b e = omega arith

    parted : (x : ℕ) → excess x + (x + bias) / modulus * modulus ≡ x + bias
    parted x = omega arith

    put : (v q : ℕ) → bias * p ≤ v * p + modulus → v + q * modulus ≡ x + bias
        → v * p + modulus - bias * p + q * p * modulus ≡ x * p + modulus
    put v q h e = omega (arith, ap (λ (n : ℕ). n * p) e)

sll_holds : (a : NumberSet) (x s : ℕ) → SetRules a → Member a (excess x) → Member (sll_set a s) (excess (sll32 x s))
unfolding sll_set
sll_holds a x s r m =
    in_reach (λ (t : NumberSet). Member t (excess (sll32 x s))) _ a.lo _ (2 ^ s) (full_holds (sll32 x s))
    (λ k. within_holds _ _ _ (shifted_up (excess x) s)
    (record {
      low = order a.lo (excess x) (2 ^ s) m.low;
      high = order (excess x) a.hi (2 ^ s) m.high;
      grid = rw (gap a.lo (excess x) (2 ^ s) m.low k) (shifted_on r.steps s (excess x - a.lo) m.grid);
    })
    (sll32 x s)
    (excess_times x (2 ^ s) (omega (arith, k, mul-le-mul_right (2 ^ s) m.low))))

pub shift_formed : ShiftFormed
shift_formed Sll a s h r = sll_formed a s r
shift_formed Srl a s h r = srl_formed a s h r
shift_formed Sra a s h r = sra_formed a s h r

pub shift_holds : ShiftHolds
shift_holds Sll a x s h r k m = rw (mod-eq_of_lt h) (sll_holds a x s r m)
shift_holds Srl a x s h r k m = rw (mod-eq_of_lt h) (srl_holds a x s k h m)
shift_holds Sra a x s h r k m = rw (mod-eq_of_lt h) (sra_holds a x s k h m)
