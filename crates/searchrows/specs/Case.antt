-- The worked cases of the field search (document 02, request 3): what is given, what comes of it, and what the definitions give for it.
use Rattle.std.specs.Prelude.{ℕ, ◌-◌, cond, eqb, Option, Some, None}
use Rattle.v8.specs.Numbers.{acceptance}
use Rattle.policy.specs.declared.Policy.{Policy}
use Rattle.policy_search.specs.declared.FieldSearch.{FieldSearch}
use Rattle.policy.specs.Policy.{place_of}
use Rattle.policy_search.specs.Find.{search_in, search_of}

-- what is given: a policy, a region, and the bytes wanted, from an offset up to another, which is not among them
pub data Given : Type 0 where
  -- a search in a policy handed in
  policy : Policy → ℕ → ℕ → ℕ → Given
  -- a search in a policy's fields, which nothing tests
  lists : Policy → ℕ → ℕ → ℕ → Given

-- what comes of it
pub data Outcome : Type 0 where
  -- the field found, by its number in the region, and how many fields were looked at
  finds : ℕ → ℕ → Outcome
  -- no field holds the bytes; how many were looked at
  none : ℕ → Outcome
  -- the number of the refusal
  refusal : ℕ → Outcome

-- a case and the outcome that it must have
pub record Row : Type 0 where
  pub given : Given
  pub expected : Outcome

-- what a search in region r gave
abbrev pub gave : ℕ → Option ℕ → ℕ → Outcome
gave r (Some place) looked = finds (place - place_of r 0) looked
gave r None looked = none looked

abbrev pub answered : ℕ → FieldSearch → Outcome
answered r s = cond (eqb s.number acceptance) (gave r s.found s.looked) (refusal s.number)

-- what the definitions give
abbrev pub outcome : Given → Outcome
outcome (policy p r low end) = answered r (search_of p r low end)
outcome (lists p r low end) =
    let s = search_in p.regions.fields p.fields r low end in
    gave r s.found s.looked
