-- The forms of a signed number agree: sign extension keeps the integer, the excess form is 2^31 more than it, and the order of
-- excess forms is that of the integers. Each goes by the sign; the reading is also that of the language's own i32.
use Prim.Native.Nat.{ℕ, suc, ◌+◌, ◌-◌, ◌^◌, ◌≤◌, ◌<◌}
use mathlib.Core.Path.{◌≡◌, refl, sym, ap, ◌∙◌}
use mathlib.Core.Bool.{Bool, true, false, cond}
use native.Mathlib.Omega.{arith}
use lib.Dec.{ltb}
use lib.IntN.{pos, negsuc}
use lib.Pow.{pow_mono}
use mir.Syntax.{w32}
use mir.Val.{sel, to_z}
use borrow.Author.Tests.{ltb-true, ltb-false, lt-ltb, le-ltb}
use Rattle.v8.proofs.Power.{twice}
use Rattle.v8.specs.Signed.{signed, sign_extend, excess, SignExtends, ExcessIs, ExcessOrder}

-- a word below 2^31 stands for itself, another for 2^32 less
not_negative : (x : ℕ) → x < 2147483648 → signed 32 x ≡ pos x
unfolding signed
not_negative x h = rw (lt-ltb x 2147483648 h)

negative : (x : ℕ) → 2147483648 ≤ x → signed 32 x ≡ negsuc (4294967296 - suc x)
unfolding signed
negative x h = rw (le-ltb x 2147483648 h)

-- below a bound or not
by_bound : {C : Type 0} (x m : ℕ) → (x < m → C) → (m ≤ x → C) → C
by_bound {C} x m f g = at (ltb x m) refl
  where
    at : (t : Bool) → ltb x m ≡ t → C
    at true p = f (ltb-true x m p)
    at false p = g (ltb-false x m p)

-- two tests of order that agree
same_order : (a b c d : ℕ) → (a < b → c < d) → (b ≤ a → d ≤ c) → ltb a b ≡ ltb c d
same_order a b c d f g = by_bound a b (λ h. rw (lt-ltb a b h, lt-ltb c d (f h))) (λ h. rw (le-ltb a b h, le-ltb c d (g h)))

pub sign_extends : SignExtends
unfolding signed sign_extend
sign_extends n x low high h =
    by_bound x (2 ^ (n - 1))
    (λ k. rw (lt-ltb x (2 ^ (n - 1)) k) (not_negative x (omega (arith, half))))
    (λ k. rw (le-ltb x (2 ^ (n - 1)) k) (negative (x + (2 ^ 32 - 2 ^ n)) (omega (arith, half, twice n low)) ∙ ap negsuc (omega (arith, half, twice n low))))
  where
    half : 2 ^ (n - 1) ≤ 2147483648
    half = pow_mono {i = n - 1} {j = 31} (omega arith)

pub excess_is : ExcessIs
excess_is x h =
    by_bound x 2147483648
    (λ k. rw (not_negative x k, le-ltb (excess x) 2147483648 (omega arith)) (ap pos (omega arith)))
    (λ k. rw (negative x k, lt-ltb (excess x) 2147483648 (omega arith)) (ap negsuc (omega arith)))

pub excess_order : ExcessOrder
excess_order x y hx hy =
    by_bound x 2147483648
    (λ p. by_bound y 2147483648
    (λ q. rw (not_negative x p, not_negative y q) (same_order x y (excess x) (excess y) (λ h. omega arith) (λ h. omega arith)))
    (λ q. rw (not_negative x p, negative y q) (sym (le-ltb (excess x) (excess y) (omega arith)))))
    (λ p. by_bound y 2147483648
    (λ q. rw (negative x p, not_negative y q) (sym (lt-ltb (excess x) (excess y) (omega arith))))
    (λ q. rw (negative x p, negative y q) (same_order (4294967296 - suc y) (4294967296 - suc x) (excess x) (excess y) (λ h. omega arith) (λ h. omega arith))))

-- The integer that a word stands for is its value as an i32.
pub signed_is_i32 : (x : ℕ) → signed 32 x ≡ to_z w32 x
unfolding signed
signed_is_i32 x = same (ltb x 2147483648)
  where
    same : (t : Bool) → cond t (pos x) (negsuc (4294967296 - suc x)) ≡ sel t (pos x) (negsuc (4294967296 - suc x))
    same true = refl
    same false = refl
