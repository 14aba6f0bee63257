-- What a comparison leaves of a set is well formed, and has the members that obey it. The proofs are in proofs/Narrowing.antt.
use Rattle.std.specs.Prelude.{ℕ, ◌≡◌, true, Option, Some, None}
use Rattle.alu.specs.Condition.{compares}
use Rattle.alu.specs.declared.condition.Narrowing.{Narrowing}
use Rattle.alu.specs.declared.condition.Narrowing.TheVariants.{NotEqualTo}
use Rattle.sets.specs.Sets.{SetRules, Member}
use Rattle.sets_narrow.specs.Narrow.{narrow_set}
use Rattle.sets.specs.declared.NumberSet.{NumberSet}

-- n is among what is left
abbrev pub Among : Option NumberSet → ℕ → Type 0
Among (Some s) n = Member s n
Among None n = ⊥

-- what is left is well formed
abbrev pub LeftFormed : Option NumberSet → Type 0
LeftFormed (Some s) = SetRules s
LeftFormed None = Unit {0}

-- Narrowing keeps the form ..
abbrev pub NarrowFormed : Type 0
NarrowFormed = (c : Narrowing) (s : NumberSet) (n : ℕ) → SetRules s → LeftFormed (narrow_set c s n)

-- .. and every member that obeys ..
abbrev pub NarrowKeeps : Type 0
NarrowKeeps =
    (c : Narrowing) (s : NumberSet) (n m : ℕ) → SetRules s → Member s m → compares c m n true ≡ true → Among (narrow_set c s n) m

-- .. and only members of the set ..
abbrev pub NarrowWithin : Type 0
NarrowWithin = (c : Narrowing) (s : NumberSet) (n m : ℕ) → SetRules s → Among (narrow_set c s n) m → Member s m

-- .. that obey, but for "not equal", where only an end is dropped.
abbrev pub NarrowObeys : Type 0
NarrowObeys =
    (c : Narrowing) (s : NumberSet) (n m : ℕ) → SetRules s → (c ≡ NotEqualTo → ⊥) → Among (narrow_set c s n) m
    → compares c m n true ≡ true
