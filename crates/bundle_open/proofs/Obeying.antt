-- Every policy on the way to a bundle's obeys the rules: the empty one does, and each add keeps them, accepted or refused.
use Prim.Native.Nat.{ℕ, zero, suc, ◌+◌}
use mathlib.Core.List.{List}
use lib.Dec.{eqb}
use Rattle.v8.proofs.Choice.{cond_both}
use Rattle.policy.specs.declared.Field.{Field}
use Rattle.policy.specs.declared.Built.{Built}
use Rattle.policy.specs.Laws.{Sound}
use Rattle.policy.proofs.RegionKept.{empty_sound, region_sound}
use Rattle.policy.proofs.FieldKept.{field_sound}
use Rattle.bundle_layout.specs.Layout.{region_count, region_size, field_count, fields_before, field_read}
use Rattle.bundle_open.specs.Build.{region_to, field_to, with_regions, with_fields_of, with_fields}

-- what is built so far obeys the rules
abbrev Obeys : Built → Type 0
Obeys built = Sound built.policy

region_obeys : (built : Built) (size : ℕ) → Obeys built → Obeys (region_to built size)
unfolding region_to
region_obeys built size s = cond_both Obeys (eqb built.number 0) (λ t. region_sound built.policy size s) λ t. s

field_obeys : (built : Built) (r : ℕ) (f : Field) → Obeys built → Obeys (field_to built r f)
unfolding field_to
field_obeys built r f s = cond_both Obeys (eqb built.number 0) (λ t. field_sound built.policy r f s) λ t. s

module _ (b : List ℕ) where
  pub regions_obey : (n : ℕ) → Obeys (with_regions b n)
  unfolding with_regions
  regions_obey zero = empty_sound
  regions_obey (suc n) = region_obeys (with_regions b n) (region_size b n) (regions_obey n)

  pub fields_of_obey : (r : ℕ) (built : Built) → Obeys built → (n : ℕ) → Obeys (with_fields_of b r built n)
  unfolding with_fields_of
  fields_of_obey r built s zero = s
  fields_of_obey r built s (suc n) =
      field_obeys (with_fields_of b r built n) r (field_read b (fields_before b r + n)) (fields_of_obey r built s n)

  pub fields_obey : (n : ℕ) → Obeys (with_fields b n)
  unfolding with_fields
  fields_obey zero = regions_obey (region_count b)
  fields_obey (suc n) = fields_of_obey n (with_fields b n) (fields_obey n) (field_count b n)
