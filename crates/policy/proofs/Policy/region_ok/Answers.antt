-- The test of a region is the one that is defined. Invariant: the fields below k obey the rules, and `end` is where they end.
use Prim.Native.Nat.{ℕ, ◌≤◌}
use mathlib.Core.Bool.{true, and-false}
use mathlib.Core.Path.{◌≡◌, refl, sym, ◌∙◌}
use native.Mathlib.Omega.{arith}
use native.Mathlib.Nat.{le_antisymm}
use borrow.Author.Tests.{lt-leb, le-leb}
use Rattle.v8.specs.Search.{all}
use Rattle.v8.proofs.Search.{all_none, all_more, all_not}
use Rattle.policy.specs.Policy.{size_of, count_of, size_ok, field_at, field_at_ok, region_ok}
use Rattle.policy.specs.declared.Policy.{Policy}
use Rattle.policy.proofs.Ending.{end_first, end_next, follows_is}
use borrow.Author.Rules.{rules}
use Rattle.policy.proofs.Policy.region_ok.Goals as goal

-- the test of a region holds where that of its size, that of its number of fields and those of its fields do
holds-all : (p : Policy) (r : ℕ) {size count k : ℕ} → size_ok size ≡ true → count ≤ 16 → all (field_at_ok p r) k ≡ true → k ≡ count
    → size ≡ size_of p r → count ≡ count_of p r → true ≡ region_ok p r
unfolding region_ok
holds-all p r s c a e es ec = simp (← es, s, ← ec, le-leb _ _ c, ← e, a)

pub returns-then-not-size_ok : goal.returns-then-not-size_ok
unfolding region_ok
returns-then-not-size_ok c = simp (sym c.size_ok.ensures ∙ c.if-not-size_ok.true)

pub returns-then-count-gt16 : goal.returns-then-count-gt16
unfolding region_ok
returns-then-count-gt16 c = simp (sym c.size_ok.ensures ∙ c.if-not-size_ok.false, lt-leb _ _ c.if-count-gt16.true)

pub loop-k-init : goal.loop-k-init
loop-k-init c = (search rules, all_none _, end_first _ _)

pub returns-then-not-field_follows : goal.returns-then-not-field_follows
unfolding region_ok field_at
returns-then-not-field_follows c =
    let a = c.args in
    let e = sym (follows_is a.self.now a.r c.loop-k.k _ _ refl c.loop-k.invariant.2) ∙ sym c.field_follows.ensures ∙ c.if-not-field_follows.true in
    simp (all_not (field_at_ok a.self.now a.r) _ _ c.loop-k-test.true e, and-false)

pub loop-k-preserved : goal.loop-k-preserved
unfolding field_at
loop-k-preserved c =
    let a = c.args in
    let e = sym (follows_is a.self.now a.r c.loop-k.k _ _ refl c.loop-k.invariant.2) ∙ sym c.field_follows.ensures ∙ c.if-not-field_follows.false in (
      omega (arith, c.loop-k-test.true),
      all_more _ _ c.loop-k.invariant.1 e,
      end_next a.self.now a.r c.loop-k.k _ _ refl c.end-end.ensures,
    )

pub returns : goal.returns
returns c =
    holds-all _ _
    (sym c.size_ok.ensures ∙ c.if-not-size_ok.false)
    c.if-count-gt16.false
    c.loop-k.invariant.1
    (le_antisymm c.loop-k.invariant.0 c.loop-k-test.false)
    refl
    refl
