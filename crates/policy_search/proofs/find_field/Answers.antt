-- In a policy that obeys the rules ending early loses nothing (`ends_early`), so that what is found is the lowest field that holds the bytes.
use Prim.Native.Nat.{ℕ}
use mathlib.Core.Path.{◌≡◌, ap}
use mathlib.Core.Bool.{Bool, true, false, ◌&&◌, and-eq-true_iff}
use lib.Dec.{ltb}
use borrow.Author.Tests.{ltb-true}
use Rattle.policy.specs.declared.Policy.{Policy}
use Rattle.policy_search.specs.declared.Search.{Search}
use Rattle.policy_search.specs.declared.FieldSearch.{FieldSearch}
use Rattle.std.specs.Prelude.{Option, None}
use Rattle.policy.specs.Policy.{policy_ok}
use Rattle.policy_search.specs.Find.{find_field, field_holding, fields_looked, search_of}
use Rattle.policy.proofs.WellFormed.{obeys}
use Rattle.policy_search.proofs.FoundField.{ends_early}
use Rattle.policy_search.proofs.find_field.Goals as goal

module _ (p : Policy) (r low end : ℕ) where
  abbrev tested : Bool
  tested = policy_ok p && ltb r p.regions.count

  same : tested ≡ true → find_field p r low end ≡ field_holding p r low end
  same t = let g = (and-eq-true_iff (policy_ok p) (ltb r p.regions.count)).0 t in ends_early p (obeys p g.0) r low end (ltb-true r _ g.1)

  -- what is given of a search in a policy that obeys the rules
  abbrev given : Option ℕ → ℕ → FieldSearch
  given found looked = record { number = 0; found = found; looked = looked }

  accepted : tested ≡ true → (s : Search) → s ≡ record { found = find_field p r low end; looked = fields_looked p r low end } → given s.found s.looked ≡ search_of p r low end
  unfolding search_of
  accepted t s e = rw (t, ← same t) (ap (λ (x : Search). given x.found x.looked) e)

  refused : tested ≡ false → record { number = 20; found = None; looked = 0 } ≡ search_of p r low end
  unfolding search_of
  refused t = rw t

pub returns-then-well_formed-region : goal.returns-then-well_formed-region
returns-then-well_formed-region c =
    accepted _ _ _ _ (rw (← c.well_formed-2.ensures) c.if-well_formed-region.true) _ c.find_in-search.ensures

pub returns : goal.returns
returns c = refused _ _ _ _ (rw (← c.well_formed-2.ensures) c.if-well_formed-region.false)
