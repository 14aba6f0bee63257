-- What is known of the length of bytes that are a bundle.
use Prim.Native.Nat.{ℕ, ◌+◌, ◌*◌, ◌≤◌}
use mathlib.Core.Bool.{Bool, true, false, cond, and-false}
use mathlib.Core.List.{List}
use mathlib.Core.Path.{◌≡◌}
use native.Mathlib.Omega.{arith}
use lib.ListN.{length}
use Rattle.v8.proofs.Search.{needed_le, needed_eq}
use Rattle.bundle_layout.specs.Layout.{narrow_most, narrow_row_bytes, wide_most, most_given, narrow, most_bytes, word_count, entry_place, length_given, bundle_ok}
use Rattle.rows.specs.Geometry.{row_bytes, entry_bytes}

-- no more words are given, by rows of either version that lie in its most bytes
few_words :
    (t : Bool) (at n : ℕ)
    → at + cond t (narrow_row_bytes * 1) (row_bytes * 1) + entry_bytes + 4 * n + cond t (narrow_row_bytes * n) (row_bytes * n) ≤ cond t narrow_most wide_most
    → n ≤ most_given
few_words true at n l = omega (arith, l)
few_words false at n l = omega (arith, l)

-- either limit is at most that of version 2
most_wide : (t : Bool) → cond t narrow_most wide_most ≤ wide_most
most_wide true = omega arith
most_wide false = omega arith

module _ (b : List ℕ) where
  pub most_bytes_lem : bundle_ok b ≡ true → length b ≤ most_bytes b
  unfolding bundle_ok
  most_bytes_lem h = needed_le (bundle_ok b) (length b) (most_bytes b) h (λ e. rw e)

  pub given_bytes : bundle_ok b ≡ true → length b ≡ length_given b
  unfolding bundle_ok
  given_bytes h = needed_eq (bundle_ok b) (length b) (length_given b) h (λ e. simp (e, and-false))

  pub words_given : length b ≡ length_given b → length b ≤ most_bytes b → word_count b ≤ most_given
  words_given g m = few_words (narrow b) (entry_place b) (word_count b) (rw (← g) m)

  pub bytes_wide : length b ≤ most_bytes b → length b ≤ wide_most
  bytes_wide m = let w = most_wide (narrow b) in omega (arith, m, w)
