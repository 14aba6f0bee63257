-- What later parts rest on: the test of form and the test of inclusion say what they should. The proofs are in proofs/.
use Rattle.std.specs.Prelude.{ℕ, ◌<◌, ◌≡◌, true}
use Rattle.sets.specs.Sets.{modulus, set_ok, fits_set, SetRules, Member}
use Rattle.sets.specs.declared.NumberSet.{NumberSet}

-- The test of form passes the sets that obey the rules ..
abbrev pub Obeys : Type 0
Obeys = (s : NumberSet) → s.hi < modulus → set_ok s ≡ true → SetRules s

-- .. all of them.
abbrev pub Passes : Type 0
Passes = (s : NumberSet) → SetRules s → set_ok s ≡ true

-- Where the test of inclusion passes, every member of a is one of b ..
abbrev pub FitsHolds : Type 0
FitsHolds = (a b : NumberSet) → SetRules a → SetRules b → fits_set a b ≡ true → (n : ℕ) → Member a n → Member b n

-- .. and only there.
abbrev pub HoldsFits : Type 0
HoldsFits = (a b : NumberSet) → SetRules a → SetRules b → ((n : ℕ) → Member a n → Member b n) → fits_set a b ≡ true
