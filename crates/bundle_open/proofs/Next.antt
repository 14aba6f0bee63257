-- One region or field more, as loops count them: the definitions' next clauses at i + 1.
use Prim.Native.Nat.{ℕ, ◌+◌}
use mathlib.Core.Path.{◌≡◌, refl}
use mathlib.Core.List.{List}
use native.Mathlib.Numerals.{add-one}
use Rattle.policy.specs.declared.Built.{Built}
use Rattle.policy.specs.Build.{empty_policy}
use Rattle.bundle_layout.specs.Layout.{region_count, region_size, field_count, fields_before, field_read}
use Rattle.bundle_open.specs.Build.{region_to, field_to, with_regions, with_fields_of, with_fields}

module _ (b : List ℕ) where
  -- the adds of no regions, and of one more
  pub regions_first : with_regions b 0 ≡ record { policy = empty_policy; number = 0 }
  unfolding with_regions
  regions_first = refl

  pub regions_next : (i : ℕ) → with_regions b (i + 1) ≡ region_to (with_regions b i) (region_size b i)
  unfolding with_regions
  regions_next i = rw (add-one i)

  -- the adds of none of a region's fields, and of one more
  pub fields_of_first : (r : ℕ) (built : Built) → with_fields_of b r built 0 ≡ built
  unfolding with_fields_of
  fields_of_first r built = refl

  pub fields_of_next :
      (r : ℕ) (built : Built) (i : ℕ) → with_fields_of b r built (i + 1) ≡ field_to (with_fields_of b r built i) r (field_read b (fields_before b r + i))
  unfolding with_fields_of
  fields_of_next r built i = rw add-one

  -- the adds of the fields of no regions, and of one region more
  pub fields_first : with_fields b 0 ≡ with_regions b (region_count b)
  unfolding with_fields
  fields_first = refl

  pub fields_next : (r : ℕ) → with_fields b (r + 1) ≡ with_fields_of b r (with_fields b r) (field_count b r)
  unfolding with_fields
  fields_next r = rw add-one
