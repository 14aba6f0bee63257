-- Integers as differences of natural numbers: a − b is not negative, with a = b + k, or negative, with b = a + k + 1. So sums, differences,
-- multiples and the order of such integers are those of natural numbers, with what is taken away brought to the other side.
use Prim.Native.Nat.{ℕ, zero, suc, ◌+◌, ◌-◌, ◌*◌, ◌≤◌, ◌<◌}
use mathlib.Core.Path.{◌≡◌, refl, sym, ◌∙◌, ap, subst}
use mathlib.Core.Bool.{Bool, true, false}
use native.Mathlib.Omega.{arith}
use lib.Dec.{leb, ltb, leb→le, le→leb, ltb→lt, lt→ltb}
use lib.IntN.{ℤ, pos, negsuc, neg_ℤ, sub_ℕ, ◌+ℤ◌, ◌-ℤ◌, ◌*ℤ◌}
use lib.Signed.{le_z, lt_z, ◌≤ℤ◌, ◌<ℤ◌, ≤ℤ_refl}
use borrow.Author.Tests.{ltb-true, ltb-false, leb-true, lt-ltb, le-ltb, le-leb, lt-leb}

-- the difference by its sign
pub is_pos : (a b k : ℕ) → a ≡ b + k → sub_ℕ a b ≡ pos k
is_pos a b k e = rw (le-ltb a b (omega arith)) (ap pos (omega arith))

pub is_negative : (a b k : ℕ) → b ≡ suc (a + k) → sub_ℕ a b ≡ negsuc k
is_negative a b k e = rw (lt-ltb a b (omega arith)) (ap negsuc (omega arith))

pub by_sign : (P : ℤ → Type 0) (a b : ℕ) → ((k : ℕ) → a ≡ b + k → P (pos k)) → ((k : ℕ) → b ≡ suc (a + k) → P (negsuc k))
    → P (sub_ℕ a b)
by_sign P a b f g = at (ltb a b) refl
  where
    at : (t : Bool) → ltb a b ≡ t → P (sub_ℕ a b)
    at true e = let h = ltb-true a b e in rw (is_negative a b (b - suc a) (omega (arith, h))) (g (b - suc a) (omega (arith, h)))
    at false e = let h = ltb-false a b e in rw (is_pos a b (a - b) (omega (arith, h))) (f (a - b) (omega (arith, h)))

-- differences are the same if their cross sums are
pub same : (a b c d : ℕ) → a + d ≡ c + b → sub_ℕ a b ≡ sub_ℕ c d
same a b c d e =
    by_sign (λ z. z ≡ sub_ℕ c d) a b
    (λ k p. sym (is_pos c d k (omega arith)))
    (λ k p. sym (is_negative c d k (omega arith)))

-- what is taken from nothing
pub minus : (n : ℕ) → neg_ℤ (pos n) ≡ sub_ℕ 0 n
minus zero = refl
minus (suc n) = sym (is_negative 0 (suc n) n (omega arith))

pub turned : (a b : ℕ) → neg_ℤ (sub_ℕ a b) ≡ sub_ℕ b a
turned a b =
    by_sign (λ z. neg_ℤ z ≡ sub_ℕ b a) a b
    (λ k p. minus k ∙ same 0 k b a (omega arith))
    (λ k p. sym (is_pos b a (suc k) (omega arith)))

pub sum : (a b c d : ℕ) → sub_ℕ a b +ℤ sub_ℕ c d ≡ sub_ℕ (a + c) (b + d)
sum a b c d =
    by_sign (λ z. z +ℤ sub_ℕ c d ≡ sub_ℕ (a + c) (b + d)) a b
    (λ k p. by_sign (λ z. pos k +ℤ z ≡ sub_ℕ (a + c) (b + d)) c d
    (λ l q. sym (is_pos (a + c) (b + d) (k + l) (omega arith)))
    (λ l q. same k (suc l) (a + c) (b + d) (omega arith)))
    (λ k p. by_sign (λ z. negsuc k +ℤ z ≡ sub_ℕ (a + c) (b + d)) c d
    (λ l q. same l (suc k) (a + c) (b + d) (omega arith))
    (λ l q. sym (is_negative (a + c) (b + d) (suc (k + l)) (omega arith))))

pub difference : (a b c d : ℕ) → sub_ℕ a b -ℤ sub_ℕ c d ≡ sub_ℕ (a + d) (b + c)
difference a b c d = ap (λ z. sub_ℕ a b +ℤ z) (turned c d) ∙ sum a b d c

pub multiple : (a b p : ℕ) → sub_ℕ a b *ℤ pos p ≡ sub_ℕ (a * p) (b * p)
multiple a b p =
    by_sign (λ z. z *ℤ pos p ≡ sub_ℕ (a * p) (b * p)) a b
    (λ k e. sym (is_pos (a * p) (b * p) (k * p) (omega (arith, ap (λ (n : ℕ). n * p) e))))
    (λ k e. minus (suc k * p) ∙ same 0 (suc k * p) (a * p) (b * p) (omega (arith, ap (λ (n : ℕ). n * p) e)))

-- two tests of order that agree
agree : (s t : Bool) → (s ≡ true → t ≡ true) → (t ≡ true → s ≡ true) → s ≡ t
agree true t f g = sym (f refl)
agree false true f g = g refl
agree false false f g = refl

agree_le : (a b c d : ℕ) → (a ≤ b → c ≤ d) → (c ≤ d → a ≤ b) → leb a b ≡ leb c d
agree_le a b c d f g = agree (leb a b) (leb c d) (λ e. le-leb c d (f (leb-true a b e))) (λ e. le-leb a b (g (leb-true c d e)))

agree_lt : (a b c d : ℕ) → (a < b → c < d) → (c < d → a < b) → ltb a b ≡ ltb c d
agree_lt a b c d f g = agree (ltb a b) (ltb c d) (λ e. lt-ltb c d (f (ltb-true a b e))) (λ e. lt-ltb a b (g (ltb-true c d e)))

-- the order
pub le_is : (a b c d : ℕ) → le_z (sub_ℕ a b) (sub_ℕ c d) ≡ leb (a + d) (c + b)
le_is a b c d =
    by_sign (λ z. le_z z (sub_ℕ c d) ≡ leb (a + d) (c + b)) a b
    (λ k p. by_sign (λ z. le_z (pos k) z ≡ leb (a + d) (c + b)) c d
    (λ l q. agree_le k l (a + d) (c + b) (λ h. omega arith) (λ h. omega arith))
    (λ l q. sym (lt-leb (a + d) (c + b) (omega arith))))
    (λ k p. by_sign (λ z. le_z (negsuc k) z ≡ leb (a + d) (c + b)) c d
    (λ l q. sym (le-leb (a + d) (c + b) (omega arith)))
    (λ l q. agree_le l k (a + d) (c + b) (λ h. omega arith) (λ h. omega arith)))

pub lt_is : (a b c d : ℕ) → lt_z (sub_ℕ a b) (sub_ℕ c d) ≡ ltb (a + d) (c + b)
lt_is a b c d =
    by_sign (λ z. lt_z z (sub_ℕ c d) ≡ ltb (a + d) (c + b)) a b
    (λ k p. by_sign (λ z. lt_z (pos k) z ≡ ltb (a + d) (c + b)) c d
    (λ l q. agree_lt k l (a + d) (c + b) (λ h. omega arith) (λ h. omega arith))
    (λ l q. sym (le-ltb (a + d) (c + b) (omega arith))))
    (λ k p. by_sign (λ z. lt_z (negsuc k) z ≡ ltb (a + d) (c + b)) c d
    (λ l q. sym (lt-ltb (a + d) (c + b) (omega arith)))
    (λ l q. agree_lt l k (a + d) (c + b) (λ h. omega arith) (λ h. omega arith)))

pub le_of : (a b c d : ℕ) → a + d ≤ c + b → sub_ℕ a b ≤ℤ sub_ℕ c d
le_of a b c d h = record { le = rw (le_is a b c d) (le→leb (a + d) (c + b) h) }

pub le_to : (a b c d : ℕ) → sub_ℕ a b ≤ℤ sub_ℕ c d → a + d ≤ c + b
le_to a b c d h = leb→le (a + d) (c + b) (rw (le_is a b c d) at h.le)

pub lt_of : (a b c d : ℕ) → a + d < c + b → sub_ℕ a b <ℤ sub_ℕ c d
lt_of a b c d h = record { lt = rw (lt_is a b c d) (lt→ltb (a + d) (c + b) h) }

pub lt_to : (a b c d : ℕ) → sub_ℕ a b <ℤ sub_ℕ c d → a + d < c + b
lt_to a b c d h = ltb→lt (a + d) (c + b) (rw (lt_is a b c d) at h.lt)

-- the same differences have the same cross sums
pub same_of : (a b c d : ℕ) → sub_ℕ a b ≡ sub_ℕ c d → a + d ≡ c + b
same_of a b c d e =
    let self = ≤ℤ_refl (sub_ℕ a b) in
    omega (arith, le_to a b c d (subst (λ z. sub_ℕ a b ≤ℤ z) e self), le_to c d a b (subst (λ z. z ≤ℤ sub_ℕ a b) e self))
