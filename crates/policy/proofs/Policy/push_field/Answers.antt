-- The tests of the add, one by one. The region exists, so it is one of the eight, and it has room, so the field has a place in the
-- arrays; the next policy is the one defined.
use Prim.Native.Nat.{ℕ, ◌<◌}
use mathlib.Core.Path.{◌≡◌, sym, ◌∙◌}
use mathlib.Core.Bool.{true, false}
use lib.Dec.{leb}
use native.Mathlib.Omega.{arith}
use borrow.Author.Tests.{lt-leb, le-leb}
use Rattle.v8.specs.Numbers.{acceptance}
use Rattle.policy.specs.declared.Field.{Field}
use Rattle.policy.specs.declared.Policy.{Policy}
use Rattle.policy.specs.Policy.{size_of, count_of, place_of, end_before, field_follows, field_fits, policy_ok}
use Rattle.policy.specs.Build.{with_field, field_number, built, add_field_of}
use Rattle.policy.proofs.WellFormed.{regions_at_most}
use Rattle.policy.proofs.Policy.push_field.Goals as goal
use Rattle.policy.proofs.Policy.push_field.Goals.{Else-not-field_follows, Else-self-region}

-- an existing region is one of the eight
below-8 : (c : Else-self-region) → c.args.region < 8
below-8 c = omega (arith, regions_at_most _ c.requires, c.if-self-region.false)

-- with room in the region, the next field has a place
place-below : (c : Else-not-field_follows) → place_of c.args.region (count_of c.args.self c.args.region) < 128
place-below c =
    omega (arith, regions_at_most _ c.requires, c.if-self-region.false, c.if-count-ge16.false)

-- what the add gives where every test passes
accepts : (p : Policy) (r : ℕ) (f : Field) → policy_ok p ≡ true → leb p.regions.count r ≡ false → leb 16 (count_of p r) ≡ false
    → field_follows p.regions.count (size_of p r) (end_before p r (count_of p r)) f ≡ true → add_field_of p r f ≡ record { policy = with_field p r f; number = acceptance }
unfolding built field_number field_fits
accepts p r f a b c d = simp (a, b, c, d)

pub returns-then-self-region : goal.returns-then-self-region
unfolding built field_number
returns-then-self-region c = simp (c.requires, le-leb _ _ c.if-self-region.true)

pub bounds-self-r : goal.bounds-self-r
bounds-self-r c = below-8 (goal.at.bounds-self-r c).Else-self-region

pub returns-then-count-ge16 : goal.returns-then-count-ge16
unfolding built field_number
returns-then-count-ge16 c = simp (c.requires, lt-leb _ _ c.if-self-region.false, le-leb _ _ c.if-count-ge16.true)

pub end_before-end-requires : goal.end_before-end-requires
end_before-end-requires c = (below-8 (goal.at.end_before-end-requires c).Else-self-region, omega (arith, c.if-count-ge16.false))

pub bounds-self-r-2 : goal.bounds-self-r-2
bounds-self-r-2 c = below-8 (goal.at.bounds-self-r-2 c).Else-self-region

pub returns-then-not-field_follows : goal.returns-then-not-field_follows
unfolding built field_number field_fits
returns-then-not-field_follows c =
    simp (
      c.requires,
      lt-leb _ _ c.if-self-region.false,
      lt-leb _ _ c.if-count-ge16.false,
      ← c.end_before-end.ensures,
      sym c.field_follows.ensures ∙ c.if-not-field_follows.true,
    )

pub bounds-self-place : goal.bounds-self-place
bounds-self-place c = place-below (goal.at.bounds-self-place c).Else-not-field_follows

pub bounds-self-r-3 : goal.bounds-self-r-3
bounds-self-r-3 c = below-8 (goal.at.bounds-self-r-3 c).Else-self-region

pub returns : goal.returns
returns c =
    sym (accepts _ _ _ c.requires (lt-leb _ _ c.if-self-region.false) (lt-leb _ _ c.if-count-ge16.false)
    (rw (← c.end_before-end.ensures) (sym c.field_follows.ensures ∙ c.if-not-field_follows.false)))
