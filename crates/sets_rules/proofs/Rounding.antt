-- Rule 6 of SRA and SRL, over the integers that the ends stand for. 2^31 is a multiple of 2^s, so dividing the excess form and filling up to
-- 2^31 again divides the integer: a negative one, −(k + 1), gives −(k / 2^s + 1), which is rounded down.
use Prim.Native.Nat.{ℕ, suc, ◌+◌, ◌-◌, ◌*◌, ◌/◌, ◌^◌, ◌≤◌, ◌<◌}
use mathlib.Core.Path.{◌≡◌, refl, sym, ◌∙◌, ap}
use native.Mathlib.Omega.{arith}
use native.Mathlib.Nat.{div-mul-le_self, lt-div-mul-add, lt_of_mul-lt-mul_right}
use lib.Dec.{le→leb, lt→ltb}
use lib.IntN.{ℤ, pos, negsuc, ◌-ℤ◌}
use lib.Signed.{shr_z}
use lib.Pow.{pow_pos, pow_mono}
use borrow.Author.Tests.{le-leb, lt-leb, ne_eqb}
use Rattle.v8.specs.Signed.{bias}
use Rattle.sets.specs.Sets.{numbers, ended}
use Rattle.sets_rules.specs.Rules.{shifted_down, sra_set, srl_set}
use Rattle.sets_rules.specs.Integers.{integer, Ends}
use Rattle.sets_rules.specs.Laws.{ShrRoundsDown, SraEnds, SrlAsSra, SrlByNone, SrlEnds}
use Rattle.sets_rules.proofs.Differences.{is_pos, is_negative, by_sign, same, minus, multiple, le_of, le_to, lt_of, lt_to}
use Rattle.sets_rules.proofs.Powers.{parts, half_div, up_div, half_le}
use Rattle.sets.proofs.Ends.{ended_both}
use Rattle.sets_rules.proofs.Exact.{ends}

pub rounds_down : ShrRoundsDown
rounds_down (pos a) p h =
    record {
      reached = record { le = le→leb (a / p * p) a (div-mul-le_self a p) };
      next = record { lt = lt→ltb a ((a / p + 1) * p) (omega (arith, lt-div-mul-add {a = a} h)) };
    }
rounds_down (negsuc a) p h =
    record {
      reached = rw (minus (suc (a / p) * p), minus (suc a)) (le_of 0 (suc (a / p) * p) 0 (suc a) (omega (arith, lt-div-mul-add {a = a} h)));
      next = rw (multiple 1 (suc (a / p)) p, minus (suc a)) (lt_of 0 (suc a) (1 * p) (suc (a / p) * p) (omega (arith, div-mul-le_self a p)));
    }

-- two numbers that fill g multiples of p, but for 1, have quotients that fill g, but for 1
filled : (n k p g : ℕ) → 0 < p → p * g ≡ suc (n + k) → g ≡ suc (n / p + k / p)
filled n k p g h e = omega (arith, below, over)
  where
    below : n / p + k / p < g
    below = lt_of_mul-lt-mul_right p (omega (arith, e, div-mul-le_self n p, div-mul-le_self k p))

    over : g < n / p + k / p + 2
    over = lt_of_mul-lt-mul_right p (omega (arith, e, lt-div-mul-add {a = n} h, lt-div-mul-add {a = k} h))

-- an end shifted down stands for the integer divided
module _ (p g : ℕ) (above : 0 < p) (pg : p * g ≡ bias) where
  divided_by : (n : ℕ) → integer (n / p + (bias - bias / p)) ≡ shr_z (integer n) p
  divided_by n =
      rw (half_div p g above pg)
      (by_sign (λ z. integer (n / p + (bias - g)) ≡ shr_z z p) n bias
      (λ k e. is_pos (n / p + (bias - g)) bias (k / p) (omega (arith, quotient k e, half_le p g above pg)))
      (λ k e. is_negative (n / p + (bias - g)) bias (k / p) (omega (arith, filled n k p g above (pg ∙ e), half_le p g above pg))))
    where
      turned : (k : ℕ) → n ≡ bias + k → n ≡ k + bias
      turned k e = omega arith

      quotient : (k : ℕ) → n ≡ bias + k → n / p ≡ k / p + g
      quotient k e = ap (λ (m : ℕ). m / p) (turned k e) ∙ up_div p g above pg k

divided : (n s : ℕ) → s < 32 → integer (shifted_down n s) ≡ shr_z (integer n) (2 ^ s)
divided n s h = divided_by (2 ^ s) (2 ^ (31 - s)) (pow_pos s) (parts s h) n

-- a set that takes step 8 if one member is left
ended_ends : (s l h : ℕ) (lo hi : ℤ) → integer l ≡ lo → integer h ≡ hi → Ends s lo hi (ended s l h)
ended_ends s l h lo hi e f =
    ended_both (Ends s lo hi) s l h
    (λ q. record { lo_is = e; hi_is = ap integer q ∙ f; step_is = λ ne. absurd (ne (sym e ∙ ap integer q ∙ f)); one_member = λ _. refl })
    (λ ne. ends s l h lo hi e f (λ q. absurd (ne q)))

pub sra_ends : SraEnds
unfolding sra_set
sra_ends a s h = ended_ends 1 _ _ _ _ (divided a.lo s h) (divided a.hi s h)

-- SRL: whether the lowest is negative
pub srl_as_sra : SrlAsSra
unfolding srl_set
srl_as_sra a s p = rw (le-leb bias a.lo (omega (arith, le_to 0 0 a.lo bias p)))

pub srl_by_none : SrlByNone
unfolding srl_set
srl_by_none a p = rw (lt-leb bias a.lo (omega (arith, lt_to a.lo bias 0 0 p)))

pub srl_ends : SrlEnds
unfolding srl_set
srl_ends a s h p k =
    rw (lt-leb bias a.lo (omega (arith, lt_to a.lo bias 0 0 p)), ne_eqb s 0 k)
    (below (2 ^ (32 - s)) (pow_mono {i = 1} {j = 32 - s} (omega arith)))
  where
    below : (n : ℕ) → 2 ≤ n → Ends 1 (pos 0) (pos n -ℤ pos 1) (numbers 1 bias (bias + (n - 1)))
    below n q = ends 1 bias (bias + (n - 1)) _ _ refl (same (bias + (n - 1)) bias n 1 (omega arith)) (λ e. absurd (apart e))
      where
        apart : bias ≡ bias + (n - 1) → ⊥
        apart e = omega arith
