-- The fields of no regions, and of one region more, as a loop counts them: the definition's clauses at 0 and at i + 1.
use Prim.Native.Nat.{ℕ, ◌+◌}
use mathlib.Core.Path.{◌≡◌, refl}
use mathlib.Core.List.{List}
use native.Mathlib.Numerals.{add-one}
use Rattle.bundle_layout.specs.Layout.{field_count, fields_before}

module _ (b : List ℕ) where
  -- the counts of no regions, and of one more
  pub count_first : fields_before b 0 ≡ 0
  unfolding fields_before
  count_first = refl

  pub count_next : (i : ℕ) → fields_before b (i + 1) ≡ fields_before b i + field_count b i
  unfolding fields_before
  count_next i = rw add-one
