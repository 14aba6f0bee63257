-- What the search finds and how many fields it looks at, in plain facts (document 02, request 3). The proofs are in proofs/FoundField.antt.
use Rattle.std.specs.Prelude.{ℕ, ◌+◌, ◌-◌, ◌≤◌, ◌<◌, ◌≡◌, ◌⊎◌, Some, None}
use Rattle.policy.specs.Policy.{count_of, place_of, field_at}
use Rattle.policy_search.specs.Find.{find_field, field_holding, fields_looked}
use Rattle.policy.specs.declared.Policy.{Policy}
use Rattle.policy.specs.Laws.{WellFormed, Holds}

-- the place that a search in region r found
pub record FoundHere (p : Policy) (r low end place : ℕ) : Type 0 where
  pub index : ℕ
  pub here : place ≡ place_of r index
  pub region_most : r < 8
  pub index_most : index < 16
  pub counted : index < count_of p r
  pub holds : Holds (field_at p (place_of r index)) low end
  pub lowest : (k : ℕ) → k < index → Holds (field_at p (place_of r k)) low end → ⊥

-- The field found holds the bytes, and no lower one does.
abbrev pub FoundHolds : Type 0
FoundHolds = (p : Policy) (r low end place : ℕ) → find_field p r low end ≡ Some place → FoundHere p r low end place

-- Where nothing is found, no field of the region holds the bytes, looked at or not: fields ascend, so that those after the one at which the search
-- ended begin past the bytes too.
abbrev pub NoneHolds : Type 0
NoneHolds =
    (p : Policy) → WellFormed p → (r k low end : ℕ) → r < p.regions.count → k < count_of p r → find_field p r low end ≡ None
    → Holds (field_at p (place_of r k)) low end → ⊥

-- "No outcome changes": the search finds the lowest field that holds the bytes, of all fields of the region.
abbrev pub EndsEarly : Type 0
EndsEarly = (p : Policy) → WellFormed p → (r low end : ℕ) → r < p.regions.count → find_field p r low end ≡ field_holding p r low end

-- the search ends at field k of region r: it holds the bytes, or begins past their lowest offset
abbrev pub Ends : Policy → ℕ → ℕ → ℕ → ℕ → Type 0
Ends p r low end k = Holds (field_at p (place_of r k)) low end ⊎ (low < (field_at p (place_of r k)).offset.0)

-- n fields of region r are those up to and with the first at which the search ends, or all if there is none
pub record UpToEnd (p : Policy) (r low end n : ℕ) : Type 0 where
  pub most : n ≤ count_of p r
  pub passed : (k : ℕ) → k + 1 < n → Ends p r low end k → ⊥
  pub some : n < count_of p r → 1 ≤ n
  pub last : n < count_of p r → Ends p r low end (n - 1)

-- No two numbers are so ..
abbrev pub OneCount : Type 0
OneCount = (p : Policy) (r low end n m : ℕ) → UpToEnd p r low end n → UpToEnd p r low end m → n ≡ m

-- .. and what the search counts is.
abbrev pub CountsLooked : Type 0
CountsLooked = (p : Policy) → WellFormed p → (r low end : ℕ) → r < p.regions.count → UpToEnd p r low end (fields_looked p r low end)

-- The field found is the last one looked at.
abbrev pub FoundLast : Type 0
FoundLast = (p : Policy) (r low end place : ℕ) → find_field p r low end ≡ Some place → place + 1 ≡ place_of r (fields_looked p r low end)

-- A field that holds some bytes is the one found.
abbrev pub Finds : Type 0
Finds =
    (p : Policy) → WellFormed p → (r k low end : ℕ) → r < p.regions.count → k < count_of p r → low < end
    → Holds (field_at p (place_of r k)) low end → find_field p r low end ≡ Some (place_of r k)
