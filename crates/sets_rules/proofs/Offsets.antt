-- Addresses plus and minus numbers. Where no offset of the result is negative, its set is not the full set by an end out of range, so the
-- sum of the offset and the number is one of it; and where none passes the region's size, that many bytes from the base is an address, and
-- so the word that the sum gives.
use Prim.Native.Nat.{ℕ, ◌+◌, ◌-◌, ◌≤◌, ◌<◌}
use mathlib.Core.Path.{◌≡◌, refl, subst}
use mathlib.Core.Bool.{Bool, true, false}
use native.Mathlib.Omega.{arith}
use lib.Dec.{leb}
use borrow.Author.Tests.{leb-true, leb-false}
use Rattle.v8.specs.Signed.{excess, bias}
use Rattle.alu.specs.Result.{add32, sub32}
use Rattle.sets.specs.Sets.{modulus, Member}
use Rattle.sets_rules.specs.Rules.{add_sets, sub_sets}
use Rattle.sets_rules.specs.Laws.{Offset, AddsOffset, SubsOffset}
use Rattle.sets.specs.declared.NumberSet.{NumberSet}
use Rattle.sets_rules.proofs.Overflow.{within_positive}
use Rattle.sets_rules.proofs.Arithmetic.{sum_between, difference_between}

-- the address with the offset v
placed : (r : NumberSet) (base v t : ℕ) → bias ≤ v → t ≡ base + (v - bias) → Member r v → Offset base r t
placed r base v t p e m = rw e (record { above = omega arith; member = subst (Member r) (back base v p) m })
  where
    back : (base v : ℕ) → bias ≤ v → v ≡ base + (v - bias) - base + bias
    back base v p = omega arith

-- a word stands for itself or, from 2^31 on, for 2^32 less
by_sign : (P : ℕ → Type 0) (y : ℕ) → y < modulus
    → (y < bias → P (y + bias)) → (bias ≤ y → P (y - bias)) → P (excess y)
by_sign P y h f g = at (leb bias y) refl
  where
    low : y < bias → y + bias ≡ excess y
    low p = omega arith

    high : bias ≤ y → y - bias ≡ excess y
    high p = omega arith

    at : (t : Bool) → leb bias y ≡ t → P (excess y)
    at true t = let p = leb-true bias y t in subst P (high p) (g p)
    at false t = let p = leb-false bias y t in subst P (low p) (f p)

-- base, size, the address x, and the number's word y
module _ (base size x y : ℕ) (hy : y < modulus) (fits : base + size < modulus) (above : base ≤ x) where
  -- the sum of the words, where the sum w of the excess forms stays from 0 to the size
  sum_is : modulus ≤ x - base + bias + excess y → x - base + bias + excess y - bias ≤ bias + size
      → add32 x y ≡ base + (x - base + bias + excess y - bias - bias)
  sum_is =
      by_sign
      (λ (v : ℕ). modulus ≤ x - base + bias + v → x - base + bias + v - bias ≤ bias + size
      → add32 x y ≡ base + (x - base + bias + v - bias - bias))
      y hy (λ h p q. omega arith) (λ h p q. omega arith)

  difference_is : modulus ≤ x - base + bias + modulus - excess y
      → x - base + bias + modulus - excess y - bias ≤ bias + size
      → sub32 x y ≡ base + (x - base + bias + modulus - excess y - bias - bias)
  difference_is =
      by_sign
      (λ (v : ℕ). modulus ≤ x - base + bias + modulus - v
      → x - base + bias + modulus - v - bias ≤ bias + size
      → sub32 x y ≡ base + (x - base + bias + modulus - v - bias - bias))
      y hy (λ h p q. omega arith) (λ h p q. omega arith)

pub adds_offset : AddsOffset
unfolding add_sets
adds_offset a b base size x y ra rb hy fits low high o m =
    let w = within_positive _ _ _ _ (sum_between a b ra rb _ _ o.member m) low in
    placed _ base _ (add32 x y) (omega (arith, w.0))
    (sum_is base size x y hy fits o.above w.0 (omega (arith, w.1.high, high))) w.1

pub subs_offset : SubsOffset
unfolding sub_sets
subs_offset a b base size x y ra rb hy fits low high o m =
    let w = within_positive _ _ _ _ (difference_between a b ra rb _ _ o.member m) low in
    placed _ base _ (sub32 x y) (omega (arith, w.0))
    (difference_is base size x y hy fits o.above w.0 (omega (arith, w.1.high, high))) w.1
