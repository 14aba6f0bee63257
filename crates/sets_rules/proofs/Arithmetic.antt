-- Arithmetic and logic on sets. The excess form of a sum or difference of words is that of the numbers, modulo 2^32; the distances of two
-- numbers from the ends of their sets add up, on the smaller step. AND of a number that is not negative is not negative, and not greater.
use Prim.Native.Nat.{ℕ, ◌+◌, ◌-◌, ◌%◌, ◌≤◌, ◌<◌, min}
use mathlib.Core.Path.{◌≡◌, sym, ◌∙◌, ap}
use mathlib.Core.Bool.{true}
use native.Mathlib.Omega.{arith}
use native.Mathlib.Nat.{mod-one}
use lib.Dec.{leb}
use lib.Bits.{bit_and, and_le_l, and_le_r}
use borrow.Author.Tests.{leb-true}
use Rattle.v8.proofs.Choice.{cond_both}
use Rattle.v8.specs.Signed.{excess, bias}
use Rattle.v8.specs.declared.AluOp.TheVariants.{Add, And, Or, Xor, Sub, Andn, Orn, Xnor}
use Rattle.alu.specs.Result.{add32, sub32}
use Rattle.sets.specs.Sets.{modulus, numbers, ended, s1, SetRules, Member}
use Rattle.sets_rules.specs.Rules.{add_sets, sub_sets, and_sets}
use Rattle.sets_rules.specs.Laws.{AluFormed, AluHolds}
use Rattle.sets.specs.declared.NumberSet.{NumberSet}
use Rattle.sets.proofs.Steps.{min_step, both_on}
use Rattle.sets.proofs.Ends.{from_top, full_formed, full_holds, ended_formed, ended_holds}
use Rattle.sets_rules.proofs.Overflow.{within_formed, within_holds}

module _ (a b : NumberSet) (ra : SetRules a) (rb : SetRules b) where
  -- the sum of a member of each, between the sums of the ends
  pub sum_between : (m n : ℕ) → Member a m → Member b n → Member (numbers (min a.step b.step) (a.lo + b.lo) (a.hi + b.hi)) (m + n)
  sum_between m n ma mb =
      record {
        low = omega (arith, ma.low, mb.low);
        high = omega (arith, ma.high, mb.high);
        grid = rw (spread ma.low mb.low) (both_on ra.steps rb.steps _ _ ma.grid mb.grid);
      }
    where
      spread : a.lo ≤ m → b.lo ≤ n → m + n - (a.lo + b.lo) ≡ (m - a.lo) + (n - b.lo)
      spread p q = omega arith

  -- so the difference, 2^32 more than it is
  pub difference_between : (m n : ℕ) → Member a m → Member b n
      → Member (numbers (min a.step b.step) (a.lo + modulus - b.hi) (a.hi + modulus - b.lo)) (m + modulus - n)
  difference_between m n ma mb =
      record {
        low = omega (arith, ma.low, mb.high);
        high = omega (arith, ma.high, mb.low);
        grid =
            rw (spread ma.low mb.high rb.top)
            (both_on ra.steps rb.steps _ _ ma.grid (from_top b n rb mb));
      }
    where
      spread : a.lo ≤ m → n ≤ b.hi → b.hi < modulus → m + modulus - n - (a.lo + modulus - b.hi) ≡ (m - a.lo) + (b.hi - n)
      spread p q t = omega arith

  -- where both sets have one member, the smaller step is 8
  one_member : a.hi - a.lo + (b.hi - b.lo) ≡ 0 → min a.step b.step ≡ 8
  one_member e = rw (ra.single (omega (arith, ra.order)), rb.single (omega (arith, rb.order)))

  add_formed : SetRules (add_sets a b)
  unfolding add_sets
  add_formed =
      within_formed _ _ _ (min_step ra.steps rb.steps) (omega (arith, ra.order, rb.order))
      (rw apart (both_on ra.steps rb.steps _ _ ra.even rb.even))
      (λ e. one_member (omega (arith, ra.order, rb.order)))
    where
      apart : a.hi + b.hi - (a.lo + b.lo) ≡ (a.hi - a.lo) + (b.hi - b.lo)
      apart = omega (arith, ra.order, rb.order)

  sub_formed : SetRules (sub_sets a b)
  unfolding sub_sets
  sub_formed =
      within_formed _ _ _ (min_step ra.steps rb.steps) (omega (arith, ra.order, rb.order))
      (rw apart (both_on ra.steps rb.steps _ _ ra.even rb.even))
      (λ e. one_member (omega (arith, ra.order, rb.order, rb.top)))
    where
      apart : a.hi + modulus - b.lo - (a.lo + modulus - b.hi) ≡ (a.hi - a.lo) + (b.hi - b.lo)
      apart = omega (arith, ra.order, rb.order, rb.top)

  and_formed : SetRules (and_sets a b)
  unfolding and_sets
  and_formed =
      cond_both SetRules (leb bias a.lo)
      (λ p. cond_both SetRules (leb bias b.lo)
      (λ q. ended_formed 1 _ _ s1 (omega (arith, leb-true, ra.order, rb.order)) (omega (arith, ra.top)) (mod-one _))
      (λ _. ended_formed 1 _ _ s1 (omega (arith, leb-true, ra.order)) ra.top (mod-one _)))
      (λ _. cond_both SetRules (leb bias b.lo)
      (λ q. ended_formed 1 _ _ s1 (omega (arith, leb-true, rb.order)) rb.top (mod-one _))
      (λ _. full_formed))

pub alu_formed : AluFormed
alu_formed Add a b ra rb = add_formed a b ra rb
alu_formed And a b ra rb = and_formed a b ra rb
alu_formed Or a b ra rb = full_formed
alu_formed Xor a b ra rb = full_formed
alu_formed Sub a b ra rb = sub_formed a b ra rb
alu_formed Andn a b ra rb = full_formed
alu_formed Orn a b ra rb = full_formed
alu_formed Xnor a b ra rb = full_formed

-- the excess form of a sum and of a difference, which is the sum's solved for one of its terms
excess_sum : (x y : ℕ) → excess (add32 x y) ≡ (excess x + excess y + bias) % modulus
excess_sum x y = omega arith

excess_difference : (x y : ℕ) → x < modulus → y < modulus → excess (sub32 x y) ≡ (excess x + modulus - excess y + bias) % modulus
excess_difference x y h k =
    solved (excess (sub32 x y)) (excess y) (excess x) (word (sub32 x y)) (word y) (ap excess (sym (back x y h k)) ∙ excess_sum (sub32 x y) y)
  where
    word : (z : ℕ) → excess z < modulus
    word z = omega arith

    back : (x y : ℕ) → x < modulus → y < modulus → add32 (sub32 x y) y ≡ x
    back x y h k = omega arith

    solved : (p q r : ℕ) → p < modulus → q < modulus → r ≡ (p + q + bias) % modulus → p ≡ (r + modulus - q + bias) % modulus
    solved p q r h k e = omega arith

-- a word whose number lies from n on, where n is not negative
pub positive : (n x : ℕ) → leb bias n ≡ true → x < modulus → n ≤ excess x → (excess x ≡ x + bias) × (x < bias)
positive n x t h p = of (leb-true bias n t)
  where
    of : bias ≤ n → (excess x ≡ x + bias) × (x < bias)
    of q = omega arith

-- a word from 0 to h
up_to : (h z : ℕ) → z < bias → z + bias ≤ h → Member (ended 1 bias h) (excess z)
up_to h z k p = ended_holds 1 bias h (excess z) (record { low = omega arith; high = rw (small z k) p; grid = mod-one _ })
  where
    small : (z : ℕ) → z < bias → excess z ≡ z + bias
    small z k = omega arith

and_holds : (a b : NumberSet) (x y : ℕ) → x < modulus → y < modulus
    → Member a (excess x) → Member b (excess y) → Member (and_sets a b) (excess (bit_and x y))
unfolding and_sets
and_holds a b x y hx hy ma mb =
    cond_both Holds (leb bias a.lo)
    (λ p. cond_both Holds (leb bias b.lo)
    (λ q. up_to _ z (omega (arith, px p, and_le_l x y)) (omega (arith, px p, py q, and_le_l x y, and_le_r x y, ma.high, mb.high)))
    (λ _. up_to _ z (omega (arith, px p, and_le_l x y)) (omega (arith, px p, and_le_l x y, ma.high))))
    (λ _. cond_both Holds (leb bias b.lo)
    (λ q. up_to _ z (omega (arith, py q, and_le_r x y)) (omega (arith, py q, and_le_r x y, mb.high)))
    (λ _. full_holds z))
  where
    z : ℕ
    z = bit_and x y

    Holds : NumberSet → Type 0
    Holds r = Member r (excess (bit_and x y))

    px : leb bias a.lo ≡ true → (excess x ≡ x + bias) × (x < bias)
    px p = positive a.lo x p hx ma.low

    py : leb bias b.lo ≡ true → (excess y ≡ y + bias) × (y < bias)
    py p = positive b.lo y p hy mb.low

pub alu_holds : AluHolds
unfolding add_sets sub_sets
alu_holds Add a b x y ra rb hx hy ma mb =
    within_holds _ _ _ _ (sum_between a b ra rb (excess x) (excess y) ma mb) (add32 x y) (excess_sum x y)
alu_holds And a b x y ra rb hx hy ma mb = and_holds a b x y hx hy ma mb
alu_holds Or a b x y ra rb hx hy ma mb = full_holds _
alu_holds Xor a b x y ra rb hx hy ma mb = full_holds _
alu_holds Sub a b x y ra rb hx hy ma mb =
    within_holds _ _ _ _ (difference_between a b ra rb (excess x) (excess y) ma mb) (sub32 x y) (excess_difference x y hx hy)
alu_holds Andn a b x y ra rb hx hy ma mb = full_holds _
alu_holds Orn a b x y ra rb hx hy ma mb = full_holds _
alu_holds Xnor a b x y ra rb hx hy ma mb = full_holds _
