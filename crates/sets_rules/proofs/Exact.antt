-- Rule 3, and rule 6 of SLL, over the integers that the ends stand for. Each end is a difference of natural numbers; held 2^32 more than it
-- is, it is the end that the definition tests, so it leaves the signed 32 bits exactly where the test says so.
use Prim.Native.Nat.{ℕ, ◌+◌, ◌-◌, ◌*◌, ◌^◌, ◌≤◌, ◌<◌}
use mathlib.Core.Path.{◌≡◌, refl, sym, ◌∙◌}
use native.Mathlib.Omega.{arith}
use native.Mathlib.Nat.{mul-le-mul_right}
use native.Mathlib.Decide.{dec_le}
use lib.IntN.{ℤ, pos, sub_ℕ, ◌-ℤ◌, ◌*ℤ◌}
use Rattle.v8.specs.Signed.{bias}
use Rattle.v8.specs.declared.AluOp.TheVariants.{Add, Sub}
use Rattle.v8.specs.declared.ShiftOp.TheVariants.{Sll}
use Rattle.sets.specs.Sets.{modulus, numbers, full, SetRules}
use Rattle.sets_rules.specs.Rules.{lowest, within, add_sets, sub_sets, shifted_up, sll_set}
use Rattle.sets_rules.specs.Integers.{integer, Within32, Ends, EndsOrFull}
use Rattle.sets_rules.specs.Laws.{FullEnds, AddEnds, SubEnds, SllEnds}
use Rattle.sets.specs.declared.NumberSet.{NumberSet}
use Rattle.sets_rules.proofs.Differences.{same, same_of, sum, difference, multiple, le_of, le_to, lt_of, lt_to}
use Rattle.sets_rules.proofs.Overflow.{Held, within_both}
use Rattle.sets_rules.proofs.Arithmetic.{alu_formed}
use Rattle.sets_rules.proofs.Shifts.{shift_formed}

-- a difference lies in the signed 32 bits
stays : (a b : ℕ) → b ≤ a + bias → a < b + bias → Within32 (sub_ℕ a b)
stays a b p q = record { low = le_of 0 bias a b (omega arith); high = lt_of a b bias 0 (omega arith) }

stayed : (a b : ℕ) → Within32 (sub_ℕ a b) → (b ≤ a + bias) × (a < b + bias)
stayed a b w = (omega (arith, le_to 0 bias a b w.low), omega (arith, lt_to a b bias 0 w.high))

-- excess forms that stand for one integer are one
pub same_integer : (m n : ℕ) → integer m ≡ integer n → m ≡ n
same_integer m n e = omega (arith, same_of m bias n bias e)

-- well formed numbers, by the integers of their ends
pub ends : (s l h : ℕ) (lo hi : ℤ) → integer l ≡ lo → integer h ≡ hi → (l ≡ h → s ≡ 8) → Ends s lo hi (numbers s l h)
ends s l h lo hi e f one =
    record { lo_is = e; hi_is = f; step_is = λ _. refl; one_member = λ q. one (same_integer l h (e ∙ q ∙ sym f)) }

pub full_ends : FullEnds
full_ends = ends 1 0 (modulus - 1) _ _ refl refl (λ e. absurd (apart e))
  where
    apart : ◌≡◌ {A = ℕ} 0 (modulus - 1) → ⊥
    apart e = omega arith

-- full, where both ends cannot stay
is_full : (s : ℕ) (lo hi : ℤ) → (Within32 lo → Within32 hi → ⊥) → EndsOrFull s lo hi full
is_full s lo hi out = record { both_stay = λ p q. absurd (out p q); lo_leaves = λ _. refl; hi_leaves = λ _. refl }

-- the set with these ends, where l and h are held 2^32 more than lo and hi
ends_or_full : (s l h : ℕ) (lo hi : ℤ) → lo ≡ sub_ℕ l modulus → hi ≡ sub_ℕ h modulus
    → SetRules (within s l h) → EndsOrFull s lo hi (within s l h)
ends_or_full s l h lo hi e f =
    rw (e, f)
    (within_both (λ (r : NumberSet). SetRules r → EndsOrFull s (sub_ℕ l modulus) (sub_ℕ h modulus) r) s l h
    (λ out _. is_full s _ _ (λ p q. out (held l p) (held h q)))
    (λ p q r. record {
      both_stay = λ _ _. ends s _ _ _ _ (lowered l p.0) (lowered h q.0) r.single;
      lo_leaves = λ out. absurd (out (stays l modulus (omega arith) (omega arith)));
      hi_leaves = λ out. absurd (out (stays h modulus (omega arith) (omega arith)));
    }))
  where
    held : (w : ℕ) → Within32 (sub_ℕ w modulus) → Held w
    held w p = omega (arith, stayed w modulus p)

    lowered : (w : ℕ) → lowest ≤ w → integer (w - lowest) ≡ sub_ℕ w modulus
    lowered w p = same (w - lowest) bias w modulus (omega arith)

pub add_ends : AddEnds
unfolding add_sets
add_ends a b ra rb =
    ends_or_full _ _ _ _ _ (sum a.lo bias b.lo bias) (sum a.hi bias b.hi bias) (alu_formed Add a b ra rb)

pub sub_ends : SubEnds
unfolding sub_sets
sub_ends a b ra rb =
    ends_or_full _ _ _ _ _ (held a.lo b.hi rb.top) (held a.hi b.lo (omega (arith, rb.order, rb.top))) (alu_formed Sub a b ra rb)
  where
    held : (m n : ℕ) → n < modulus → integer m -ℤ integer n ≡ sub_ℕ (m + modulus - n) modulus
    held m n h = difference m bias n bias ∙ same (m + bias) (bias + n) (m + modulus - n) modulus (omega arith)

-- SLL: where the lowest end times 2^s lies 2^32 below 0, no end of the set is in reach
pub sll_ends : SllEnds
unfolding sll_set
sll_ends a s h r =
    elim (dec_le (bias * 2 ^ s) (a.lo * 2 ^ s + modulus)) [
      | yes k ↦ ends_or_full _ _ _ _ _ (held a.lo k) (held a.hi (omega (arith, k, mul-le-mul_right (2 ^ s) r.order))) (shift_formed Sll a s h r)
      | no k ↦ within_both (EndsOrFull _ _ _) _ (shifted_up a.lo s) _
          (λ _. is_full _ _ _ (λ p _. out k (rw (multiple a.lo bias (2 ^ s)) at p)))
          (λ p _. absurd (low k p.0))
    ]
  where
    held : (n : ℕ) → bias * 2 ^ s ≤ n * 2 ^ s + modulus → integer n *ℤ pos (2 ^ s) ≡ sub_ℕ (shifted_up n s) modulus
    held n k = multiple n bias (2 ^ s) ∙ same (n * 2 ^ s) (bias * 2 ^ s) (shifted_up n s) modulus (omega arith)

    out : ¬ (bias * 2 ^ s ≤ a.lo * 2 ^ s + modulus) → Within32 (sub_ℕ (a.lo * 2 ^ s) (bias * 2 ^ s)) → ⊥
    out k p = omega (arith, stayed (a.lo * 2 ^ s) (bias * 2 ^ s) p)

    low : ¬ (bias * 2 ^ s ≤ a.lo * 2 ^ s + modulus) → lowest ≤ shifted_up a.lo s → ⊥
    low k p = omega arith
