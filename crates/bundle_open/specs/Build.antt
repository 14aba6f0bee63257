-- The policy of a bundle, and its words (document 01, "Bundle"): "All regions are added before fields."
use Rattle.std.specs.Prelude.{ℕ, zero, suc, ◌+◌, cond, List, [], ◌∷◌, eqb}
use Rattle.v8.specs.Numbers.{acceptance}
use Rattle.memory.specs.Memory.{word_at}
use Rattle.policy.specs.declared.Field.{Field}
use Rattle.policy.specs.declared.Built.{Built}
use Rattle.policy.specs.Build.{empty_policy, add_region_of, add_field_of}
use Rattle.bundle_layout.specs.Layout.{region_count, region_size, field_count, fields_before, field_read, word_bytes}

-- an add, unless an earlier one was refused
unfoldable pub region_to : Built → ℕ → Built
region_to built size = cond (eqb built.number acceptance) (add_region_of built.policy size) built

unfoldable pub field_to : Built → ℕ → Field → Built
field_to built r f = cond (eqb built.number acceptance) (add_field_of built.policy r f) built

-- the n words from a place on
abbrev pub words_from : List ℕ → ℕ → ℕ → List ℕ
words_from b at zero = []
words_from b at (suc n) = word_at b at ∷ words_from b (at + word_bytes) n

module _ (b : List ℕ) where
  -- what the adds of the first n regions give
  unfoldable pub with_regions : ℕ → Built
  with_regions zero = record { policy = empty_policy; number = acceptance }
  with_regions (suc n) = region_to (with_regions n) (region_size b n)

  -- what the adds of region r's first n fields give, after others
  unfoldable pub with_fields_of : ℕ → Built → ℕ → Built
  with_fields_of r built zero = built
  with_fields_of r built (suc n) = field_to (with_fields_of r built n) r (field_read b (fields_before b r + n))

  -- what the adds of the fields of the first n regions give, after all the regions
  unfoldable pub with_fields : ℕ → Built
  with_fields zero = with_regions (region_count b)
  with_fields (suc n) = with_fields_of n (with_fields n) (field_count b n)

  -- the bundle's policy, or the first refusal of an add
  abbrev pub built_of : Built
  built_of = with_fields (region_count b)
