-- The vocabulary that all definitions share: a choice by a test is the library's `cond`.
-- Here stand the way a choice, two tests and an alternative went, and the set of laws that turns facts about numbers into the outcomes of tests.
use mathlib.Core.Path.{◌≡◌, refl, sym}
use mathlib.Core.Bool.{Bool, true, false, true≢false, cond, ◌&&◌, ◌||◌}
use borrow.Author.Tests.{lt-ltb, le-ltb, le-leb, lt-leb, eq-eqb, ne_eqb}

-- the outcomes of tests, from facts about numbers: `search (tests, ..)`
pub ruleset tests = (lt-ltb, le-ltb, le-leb, lt-leb, eq-eqb, ne_eqb)

-- which way a choice went, if its outcome is known
pub cond_went : {A C : Type 0} (t : Bool) (a b c : A) → cond t a b ≡ c → (t ≡ true → a ≡ c → C) → (t ≡ false → b ≡ c → C) → C
cond_went true a b c e f g = f refl e
cond_went false a b c e f g = g refl e

-- what holds of both ways holds of the choice
pub cond_both : {A : Type 0} (P : A → Type 0) (t : Bool) {a b : A} → (t ≡ true → P a) → (t ≡ false → P b) → P (cond t a b)
cond_both P true f g = f refl
cond_both P false f g = g refl

-- a test that failed has not passed
pub false_true : {C : Type 0} → false ≡ true → C
false_true e = absurd (true≢false (sym e))

-- both of two tests passed
pub and_went : (a b : Bool) → a && b ≡ true → (a ≡ true) × (b ≡ true)
and_went true b e = (refl, e)
and_went false b e = false_true e

-- which of two tests passed
pub or_went : {C : Type 0} (a b : Bool) → a || b ≡ true → (a ≡ true → C) → (b ≡ true → C) → C
or_went true b e f g = f refl
or_went false b e f g = g e

-- neither did
pub or_failed : (a b : Bool) → a || b ≡ false → (a ≡ false) × (b ≡ false)
or_failed true b e = false_true (sym e)
or_failed false b e = (refl, e)
