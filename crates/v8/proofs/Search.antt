-- The laws of passes over the numbers below a bound that a loop cites: what one more number, the bound, a number that passes or fails says of the
-- whole pass. Each is an induction on the numbers that are left.
use Prim.Native.Nat.{ℕ, zero, suc, ◌+◌, ◌-◌, ◌≤◌, ◌<◌}
use mathlib.Core.Path.{◌≡◌, refl, sym, ap, ◌∙◌}
use mathlib.Core.Logic.{⊎_elim}
use mathlib.Core.Bool.{Bool, true, false, true≢false, ◌&&◌, ◌||◌, or-true}
use native.Mathlib.Nat.{not-suc-le-zero, eq-or-lt_of_le, le_of_suc-le-suc}
use native.Mathlib.Numerals.{add-one}
use native.Mathlib.Omega.{arith}
use borrow.Author.Tests.{leb-true, ltb-true, eqb-true}
use lib.Dec.{leb, ltb, eqb}
use Rattle.v8.specs.Search.{all, any, lowest, first}
use Rattle.v8.proofs.Choice.{cond_both}

-- what passed has passed each test without which it fails
pub needed : (x t : Bool) → x ≡ true → (t ≡ false → x ≡ false) → t ≡ true
needed x true h f = refl
needed x false h f = sym (f refl) ∙ h

-- the same of a test of numbers, as the fact that it tests
pub needed_le : (x : Bool) (a b : ℕ) → x ≡ true → (leb a b ≡ false → x ≡ false) → a ≤ b
needed_le x a b h f = leb-true a b (needed x (leb a b) h f)

pub needed_lt : (x : Bool) (a b : ℕ) → x ≡ true → (ltb a b ≡ false → x ≡ false) → a < b
needed_lt x a b h f = ltb-true a b (needed x (ltb a b) h f)

pub needed_eq : (x : Bool) (a b : ℕ) → x ≡ true → (eqb a b ≡ false → x ≡ false) → a ≡ b
needed_eq x a b h f = eqb-true a b (needed x (eqb a b) h f)

-- two tests that both pass
pub and_both : (a b : Bool) → a ≡ true → b ≡ true → a && b ≡ true
and_both a b e g = rw (e, g)

-- the second fails
pub and-false : (a b : Bool) → b ≡ false → a && b ≡ false
and-false true b e = e
and-false false b e = refl

-- two numbers, neither of which is less
pub neither_less : (k j : ℕ) → (k < j → ⊥) → (j < k → ⊥) → k ≡ j
neither_less k j f g = omega arith

module _ (f : ℕ → Bool) where
  -- what every number passes, each passes
  pub all_at : (n i : ℕ) → all f n ≡ true → i < n → f i ≡ true
  unfolding all
  all_at zero i h l = absurd (not-suc-le-zero l)
  all_at (suc n) i h l = ⊎_elim
      (λ (p : i ≡ n). ap f p ∙ needed (all f n && f n) (f n) h (and-false (all f n) (f n)))
      (λ (q : i < n). all_at n i (needed (all f n && f n) (all f n) h (λ e. rw e)) q)
      (eq-or-lt_of_le (le_of_suc-le-suc l))

  -- what each number passes, every one does
  pub all_each : (n : ℕ) → ((i : ℕ) → i < n → f i ≡ true) → all f n ≡ true
  unfolding all
  all_each zero h = refl
  all_each (suc n) h = and_both (all f n) (f n) (all_each n (λ i l. h i (omega arith))) (h n (omega arith))

  -- the numbers below 0 pass
  pub all_none : all f 0 ≡ true
  unfolding all
  all_none = refl

  -- one number more passes
  pub all_more : (i : ℕ) → all f i ≡ true → f i ≡ true → all f (i + 1) ≡ true
  unfolding all
  all_more i h e = rw (add-one, h, e)

  -- where one number fails, not every one passes
  pub all_not : (n i : ℕ) → i < n → f i ≡ false → all f n ≡ false
  unfolding all
  all_not zero i l e = absurd (not-suc-le-zero l)
  all_not (suc n) i l e = ⊎_elim
      (λ (p : i ≡ n). and-false (all f n) (f n) (ap f (sym p) ∙ e))
      (λ (q : i < n). rw (all_not n i q e))
      (eq-or-lt_of_le (le_of_suc-le-suc l))

  -- none of the numbers below 0 passes
  pub any_none : any f 0 ≡ false
  unfolding any
  any_none = refl

  -- one number more
  pub any_more : (i : ℕ) → any f (i + 1) ≡ any f i || f i
  unfolding any
  any_more i = rw add-one

  -- one number that passes is some number
  pub any_at : (n i : ℕ) → i < n → f i ≡ true → any f n ≡ true
  unfolding any
  any_at zero i l e = absurd (not-suc-le-zero l)
  any_at (suc n) i l e = ⊎_elim
      (λ (p : i ≡ n). rw (ap f (sym p) ∙ e, or-true))
      (λ (q : i < n). rw (any_at n i q e))
      (eq-or-lt_of_le (le_of_suc-le-suc l))

  rest : (i n : ℕ) → i < n → n - i ≡ suc (n - (i + 1))
  rest i n l = omega arith

  -- the search ends where the test passes
  pub first_here : (i n : ℕ) → i < n → f i ≡ true → first f i n ≡ i
  unfolding first lowest
  first_here i n l e = rw (rest i n l, e, lowest)

  -- the search goes on where the test fails
  pub first_next : (i n : ℕ) → i < n → f i ≡ false → first f i n ≡ first f (i + 1) n
  unfolding first lowest
  first_next i n l e = rw (rest i n l, e, lowest)

  -- the search ends at the bound
  pub first_end : (i n : ℕ) → n ≤ i → first f i n ≡ i
  unfolding first lowest
  first_end i n l = let z : n - i ≡ 0 = omega arith in rw z

  lowest_from : (n i : ℕ) → i ≤ lowest f i n
  unfolding lowest
  lowest_from zero i = omega arith
  lowest_from (suc n) i = cond_both (λ (x : ℕ). i ≤ x) (f i) (λ e. omega arith) (λ e. omega (arith, lowest_from n (i + 1)))

  lowest_passes : (n i : ℕ) → lowest f i n < i + n → f (lowest f i n) ≡ true
  unfolding lowest
  lowest_passes zero i l = absurd (omega arith)
  lowest_passes (suc n) i l =
      cond_both (λ (x : ℕ). x < i + suc n → f x ≡ true) (f i) (λ e m. e) (λ e m. lowest_passes n (i + 1) (omega arith)) l

  lowest_least : (n i j : ℕ) → i ≤ j → j < lowest f i n → f j ≡ false
  unfolding lowest
  lowest_least zero i j a l = absurd (omega arith)
  lowest_least (suc n) i j a l =
      cond_both (λ (x : ℕ). j < x → f j ≡ false) (f i)
      (λ e m. absurd (omega arith))
      (λ e m. ⊎_elim
      (λ (p : i ≡ j). ap f (sym p) ∙ e)
      (λ (q : i < j). lowest_least n (i + 1) j (omega arith) m)
      (eq-or-lt_of_le a))
      l

  -- what is found is not below the start
  pub first_from : (i n : ℕ) → i ≤ first f i n
  unfolding first
  first_from i n = lowest_from (n - i) i

  -- what is found below the bound passes
  pub first_passes : (i n : ℕ) → first f i n < n → f (first f i n) ≡ true
  unfolding first
  first_passes i n l = lowest_passes (n - i) i (omega (arith, lowest_from (n - i) i))

  -- what is lower than the one found fails
  pub first_least : (i n j : ℕ) → i ≤ j → j < first f i n → f j ≡ false
  unfolding first
  first_least i n j a l = lowest_least (n - i) i j a l

  -- what passes, with all before it failing, is found
  pub first_is : (i n j : ℕ) → i ≤ j → j < n → f j ≡ true → ((k : ℕ) → i ≤ k → k < j → f k ≡ false) → first f i n ≡ j
  first_is i n j a b t h =
      neither_less (first f i n) j
      (λ l. true≢false (sym (first_passes i n (omega arith)) ∙ h (first f i n) (first_from i n) l))
      (λ l. true≢false (sym t ∙ first_least i n j a l))
