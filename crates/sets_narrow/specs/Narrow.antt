-- What a comparison with a number leaves of a set (document 01, "A branch with note 2 narrows a noted number .. to the members that obey
-- it, for 9 and for 1 not taken only by dropping an end").
use Rattle.std.specs.Prelude.{ℕ, ◌+◌, ◌-◌, ◌%◌, min, max, Bool, cond, ◌&&◌, leb, ltb, eqb, Option, Some, None}
use Rattle.alu.specs.declared.condition.Narrowing.{Narrowing}
use Rattle.alu.specs.declared.condition.Narrowing.TheVariants.{Unrelated, EqualTo, NotEqualTo, LessThan, AtLeast, AtMost, GreaterThan}
use Rattle.sets.specs.Sets.{single, ended}
use Rattle.sets.specs.declared.NumberSet.{NumberSet}

-- the members up to n
unfoldable pub at_most : NumberSet → ℕ → Option NumberSet
at_most a n =
    cond (ltb n a.lo) None
    (Some (ended a.step a.lo (a.lo + ((min a.hi n - a.lo) - (min a.hi n - a.lo) % a.step))))

-- the members from n on
unfoldable pub at_least : NumberSet → ℕ → Option NumberSet
at_least a n =
    cond (ltb a.hi n) None
    (Some (ended a.step (a.hi - ((a.hi - max a.lo n) - (a.hi - max a.lo n) % a.step)) a.hi))

-- the members below n
unfoldable pub less_than : NumberSet → ℕ → Option NumberSet
less_than a n = cond (eqb n 0) None (at_most a (n - 1))

-- the members above n
abbrev pub greater_than : NumberSet → ℕ → Option NumberSet
greater_than a n = at_least a (n + 1)

-- n is one of the set
unfoldable pub is_member : NumberSet → ℕ → Bool
is_member a n = leb a.lo n && leb n a.hi && eqb ((n - a.lo) % a.step) 0

-- the member n alone
unfoldable pub only : NumberSet → ℕ → Option NumberSet
only a n = cond (is_member a n) (Some (single n)) None

-- the set without n where n is an end: "only by dropping an end"
unfoldable pub without : NumberSet → ℕ → Option NumberSet
without a n = cond (eqb n a.lo) (greater_than a n) (cond (eqb n a.hi) (less_than a n) (Some a))

-- what a condition of this class leaves
abbrev pub narrow_set : Narrowing → NumberSet → ℕ → Option NumberSet
narrow_set Unrelated a n = Some a
narrow_set EqualTo a n = only a n
narrow_set NotEqualTo a n = without a n
narrow_set LessThan a n = less_than a n
narrow_set AtLeast a n = at_least a n
narrow_set AtMost a n = at_most a n
narrow_set GreaterThan a n = greater_than a n
