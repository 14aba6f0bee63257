-- The test of form is exactly the rules of form: a set passes it if it passes each of its four tests.
use Prim.Native.Nat.{ℕ, ◌-◌, ◌%◌}
use mathlib.Core.Path.{◌≡◌, refl, sym, subst}
use mathlib.Core.Bool.{Bool, true, false, not, ◌||◌, and-false}
use lib.Dec.{eqb}
use borrow.Author.Tests.{eqb-true, le-leb, eq-eqb}
use Rattle.v8.proofs.Search.{needed, needed_le, needed_eq}
use Rattle.sets.specs.Sets.{Step, s1, s2, s4, s8, is_step, is_single, set_ok}
use Rattle.sets.specs.Laws.{Obeys, Passes}
use Rattle.sets.specs.declared.NumberSet.{NumberSet}
use Rattle.sets.proofs.Steps.{by_step}

-- what passes one of two tests passes the first, or the second
either : {P : Type 0} (a b : Bool) → (a || b) ≡ true → (a ≡ true → P) → (b ≡ true → P) → P
either true b e f g = f refl
either false b e f g = g e

is-step : (s : ℕ) → is_step s ≡ true → Step s
is-step s e =
    either _ (eqb s 8) e
    (λ e. either _ (eqb s 4) e
    (λ e. either (eqb s 1) (eqb s 2) e (put 1 s1) (put 2 s2))
    (put 4 s4))
    (put 8 s8)
  where
    put : (n : ℕ) → Step n → eqb s n ≡ true → Step s
    put n p e = subst Step (sym (eqb-true s n e)) p

step_is : {s : ℕ} → Step s → is_step s ≡ true
step_is = by_step (λ (s : ℕ). is_step s ≡ true) refl refl refl refl

-- a single number has step 8
one_eight : (s : NumberSet) → (not (is_single s) || eqb s.step 8) ≡ true → s.lo ≡ s.hi → s.step ≡ 8
one_eight s e h = eqb-true s.step 8 (rw (eq-eqb s.lo s.hi h) at e)

eight_one : (s : NumberSet) (t : Bool) → is_single s ≡ t → (s.lo ≡ s.hi → s.step ≡ 8) → (not t || eqb s.step 8) ≡ true
eight_one s true e h = eq-eqb s.step 8 (h (eqb-true s.lo s.hi e))
eight_one s false e h = refl

pub obeys : Obeys
unfolding set_ok
obeys s top ok =
    record {
      steps = is-step s.step (needed _ (is_step s.step) ok (λ e. simp e));
      order = needed_le _ s.lo s.hi ok (λ e. simp (e, and-false));
      top = top;
      even = needed_eq _ ((s.hi - s.lo) % s.step) 0 ok (λ e. simp (e, and-false));
      single = one_eight s (needed _ (not (is_single s) || eqb s.step 8) ok (λ e. simp (e, and-false)));
    }

pub passes : Passes
unfolding set_ok
passes s r = rw (step_is r.steps, le-leb _ _ r.order, eq-eqb _ _ r.even, eight_one s (is_single s) refl r.single)
