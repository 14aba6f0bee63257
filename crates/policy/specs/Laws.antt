-- What later parts rest on, in plain facts: what a policy that obeys the rules says of each region and field, that a byte lies in one
-- field at most, and that the operations keep the rules (document 01, "Policy"). The proofs are in proofs/.
use Rattle.std.specs.Prelude.{ℕ, ◌+◌, ◌%◌, ◌≤◌, ◌<◌, ◌≡◌, true, length}
use Rattle.policy.specs.Element.{width_of, least_of, most_of}
use Rattle.policy.specs.Policy.{size_of, count_of, place_of, field_at, field_end, size_ok, field_fits, policy_ok}
use Rattle.v8.specs.Signed.{bias}
use Rattle.v8.specs.Numbers.{acceptance}
use Rattle.policy.specs.Build.{empty_policy, region_number, field_number, add_region_of, add_field_of}
use Rattle.policy.specs.declared.Field.{Field}
use Rattle.policy.specs.declared.Policy.{Policy}

-- a width: no element is empty, and none is wider than a word
pub record Wide (width : ℕ) : Type 0 where
  pub some : 1 ≤ width
  pub most : width ≤ 4

-- a size that a region may have
pub record SizeRules (size : ℕ) : Type 0 where
  pub least : 8 ≤ size
  pub most : size ≤ 4096
  pub step : size % 8 ≡ 0

-- a field of the elements 1 to 5: its numbers lie in the element's range
pub record NumberRules (f : Field) : Type 0 where
  pub least : least_of f.element ≤ f.lo
  pub order : f.lo ≤ f.hi
  pub most : f.hi ≤ most_of f.element
  pub target : f.target ≡ 0

-- a field of the elements 6 and 7: its target is a region
pub record AddressRules (regions : ℕ) (f : Field) : Type 0 where
  pub target : f.target < regions
  pub lo : f.lo ≡ bias
  pub hi : f.hi ≡ bias

-- a field of a region of this size
pub record FieldRules (regions size : ℕ) (f : Field) : Type 0 where
  pub element_least : 1 ≤ f.element
  pub element_most : f.element ≤ 7
  pub permission_least : 1 ≤ f.permission
  pub permission_most : f.permission ≤ 3
  pub count_least : 1 ≤ f.count
  pub aligned : f.offset.0 % width_of f.element ≡ 0
  pub inside : field_end f ≤ size
  pub numbers : f.element ≤ 5 → NumberRules f
  pub address : 6 ≤ f.element → AddressRules regions f

-- what the rules say of every region and every field
pub record WellFormed (p : Policy) : Type 0 where
  pub regions_most : p.regions.count ≤ 8
  pub size : (r : ℕ) → r < p.regions.count → SizeRules (size_of p r)
  pub count_most : (r : ℕ) → r < p.regions.count → count_of p r ≤ 16
  pub field : (r k : ℕ) → r < p.regions.count → k < count_of p r → FieldRules p.regions.count (size_of p r) (field_at p (place_of r k))
  pub ascending : (r k : ℕ) → r < p.regions.count → k + 1 < count_of p r → field_end (field_at p (place_of r k)) ≤ (field_at p (place_of r (k + 1))).offset.0

-- The test passes the policies that obey the rules ..
abbrev pub Obeys : Type 0
Obeys = (p : Policy) → policy_ok p ≡ true → WellFormed p

-- .. all of them.
abbrev pub Passes : Type 0
Passes = (p : Policy) → WellFormed p → policy_ok p ≡ true

-- byte b of the region lies in the field
abbrev pub InField : Field → ℕ → Type 0
InField f b = (f.offset.0 ≤ b) × (b < field_end f)

-- A field's bytes lie in its region.
abbrev pub InRegion : Type 0
InRegion =
    (p : Policy) → WellFormed p → (r k b : ℕ) → r < p.regions.count → k < count_of p r → InField (field_at p (place_of r k)) b
    → b < size_of p r

-- One byte lies in at most one field of a region.
abbrev pub InOneField : Type 0
InOneField =
    (p : Policy) → WellFormed p → (r k j b : ℕ) → r < p.regions.count → k < count_of p r → j < count_of p r
    → InField (field_at p (place_of r k)) b → InField (field_at p (place_of r j)) b → k ≡ j

-- the field holds the bytes from low up to end, which is not among them
abbrev pub Holds : Field → ℕ → ℕ → Type 0
Holds f low end = (f.offset.0 ≤ low) × (end ≤ field_end f)

-- Some bytes are held by at most one field of a region.
abbrev pub HeldByOne : Type 0
HeldByOne =
    (p : Policy) → WellFormed p → (r k j low end : ℕ) → r < p.regions.count → k < count_of p r → j < count_of p r → low < end
    → Holds (field_at p (place_of r k)) low end → Holds (field_at p (place_of r j)) low end → k ≡ j

-- what an accepted region obeys
pub record RegionAccepted (p : Policy) (size : ℕ) : Type 0 where
  pub ok : policy_ok p ≡ true
  pub room : p.regions.count < 8
  pub size_passes : size_ok size ≡ true

-- what an accepted field obeys
pub record FieldAccepted (p : Policy) (r : ℕ) (f : Field) : Type 0 where
  pub ok : policy_ok p ≡ true
  pub region : r < p.regions.count
  pub room : count_of p r < 16
  pub fits : field_fits p r (count_of p r) f ≡ true

-- A region is accepted only so.
abbrev pub AcceptsRegion : Type 0
AcceptsRegion = (p : Policy) (size : ℕ) → region_number p size ≡ acceptance → RegionAccepted p size

-- A field is accepted only so.
abbrev pub AcceptsField : Type 0
AcceptsField = (p : Policy) (r : ℕ) (f : Field) → field_number p r f ≡ acceptance → FieldAccepted p r f

-- the lists are as long as the arrays that they stand for
pub record Sized (p : Policy) : Type 0 where
  pub sizes : length p.regions.sizes ≡ 8
  pub fields : length p.regions.fields ≡ 8
  pub places : length p.fields ≡ 128

-- a policy of arrays that obeys the rules
pub record Sound (p : Policy) : Type 0 where
  pub sized : Sized p
  pub ok : policy_ok p ≡ true

-- The empty policy obeys the rules.
abbrev pub EmptySound : Type 0
EmptySound = Sound empty_policy

-- Adding a region keeps the rules, accepted or refused.
abbrev pub RegionSound : Type 0
RegionSound = (p : Policy) (size : ℕ) → Sound p → Sound (add_region_of p size).policy

-- Adding a field keeps the rules, accepted or refused.
abbrev pub FieldSound : Type 0
FieldSound = (p : Policy) (r : ℕ) (f : Field) → Sound p → Sound (add_field_of p r f).policy
