-- The common step of two steps and a distance: it is a step, at most both, divides the distance, and no greater one does.
use Prim.Native.Nat.{ℕ, ◌%◌, ◌≤◌}
use mathlib.Core.Path.{◌≡◌, sym, ◌∙◌}
use mathlib.Core.Bool.{true, false, ◌&&◌}
use native.Mathlib.Omega.{arith}
use native.Mathlib.Nat.{mod-one}
use lib.Dec.{leb, eqb}
use borrow.Author.Tests.{leb-true, eqb-true, le-leb, eq-eqb}
use Rattle.v8.proofs.Choice.{cond_both, and_went, false_true}
use Rattle.sets.specs.Sets.{Step, s1, s2, s4, s8}
use Rattle.sets.proofs.Steps.{by_step}
use Rattle.joins.specs.Join.{is_common, common_step}

-- n is the common step of s and t and the distance d
pub record Common (s t d n : ℕ) : Type 0 where
  pub steps : Step n
  pub first : n ≤ s
  pub second : n ≤ t
  pub on : d % n ≡ 0
  pub greatest : {u : ℕ} → Step u → u ≤ s → u ≤ t → d % u ≡ 0 → u ≤ n

ruleset every-step = (s1, s2, s4, s8)

-- 1 is at most every step
one_least : {s : ℕ} → Step s → 1 ≤ s
one_least = by_step (λ (s : ℕ). 1 ≤ s) (omega arith) (omega arith) (omega arith) (omega arith)

module _ {s t : ℕ} (ps : Step s) (pt : Step t) (d : ℕ) where
  -- what the test of a step says
  passes : (n : ℕ) → is_common n s t d ≡ true → (n ≤ s) × (n ≤ t) × (d % n ≡ 0)
  passes n e =
      let p = and_went (leb n s && leb n t) (eqb (d % n) 0) e in
      let q = and_went (leb n s) (leb n t) p.0 in
      (leb-true n s q.0, leb-true n t q.1, eqb-true (d % n) 0 p.1)

  fails : {C : Type 0} (n : ℕ) → is_common n s t d ≡ false → n ≤ s → n ≤ t → d % n ≡ 0 → C
  fails n e a b c = false_true (sym e ∙ rw (le-leb n s a, le-leb n t b, eq-eqb (d % n) 0 c))

  -- a step that divides the distance and is at most both is at most n
  abbrev UpTo : ℕ → ℕ → Type 0
  UpTo n u = u ≤ s → u ≤ t → d % u ≡ 0 → u ≤ n

  -- the step that passes first, where no greater one does
  pub common : Common s t d (common_step s t d)
  unfolding common_step
  common =
      cond_both (Common s t d) (is_common 8 s t d)
      (λ e. let p = passes 8 e in
      record {
        steps = search every-step;
        first = omega arith;
        second = omega arith;
        on = omega arith;
        greatest = by_step (UpTo _) (λ _ _ _. omega arith) (λ _ _ _. omega arith) (λ _ _ _. omega arith) (λ _ _ _. omega arith);
      })
      (λ n8. cond_both (Common s t d) (is_common 4 s t d)
      (λ e. let p = passes 4 e in
      record {
        steps = search every-step;
        first = omega arith;
        second = omega arith;
        on = omega arith;
        greatest = by_step (UpTo _) (λ _ _ _. omega arith) (λ _ _ _. omega arith) (λ _ _ _. omega arith) (fails 8 n8);
      })
      (λ n4. cond_both (Common s t d) (is_common 2 s t d)
      (λ e. let p = passes 2 e in
      record {
        steps = search every-step;
        first = omega arith;
        second = omega arith;
        on = omega arith;
        greatest = by_step (UpTo _) (λ _ _ _. omega arith) (λ _ _ _. omega arith) (fails 4 n4) (fails 8 n8);
      })
      (λ n2. record {
        steps = s1;
        first = one_least ps;
        second = one_least pt;
        on = mod-one d;
        greatest = by_step (UpTo 1) (λ _ _ _. omega arith) (fails 2 n2) (fails 4 n4) (fails 8 n8);
      })))
