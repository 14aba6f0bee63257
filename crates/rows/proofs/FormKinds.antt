-- What an entry has to be to be well formed, by its kind.
use Prim.Native.Nat.{ℕ, ◌+◌}
use mathlib.Core.Bool.{◌&&◌, ◌||◌}
use mathlib.Core.List.{List}
use mathlib.Core.Path.{◌≡◌}
use borrow.Author.Tests.{ne_eqb}
use lib.Dec.{leb, ltb, eqb}
use Rattle.sets.specs.Sets.{set_ok}
use Rattle.rows.specs.Entry.{is_unset, is_return, is_frame, is_blank, size_in, entry_ok}
use Rattle.rows.specs.declared.Entry.{Entry}
use Rattle.v8.specs.Signed.{bias}

module _ (regions : ℕ) (sizes : List ℕ) (e : Entry) where
  pub ok_number : e.kind ≡ 1 → entry_ok regions sizes e ≡ (eqb e.region 0 && set_ok e.set)
  unfolding entry_ok
  ok_number k = rw k

  pub ok_address :
      e.kind ≡ 2
      → entry_ok regions sizes e
      ≡ (ltb e.region regions && set_ok e.set && leb bias e.set.lo && leb e.set.hi (bias + size_in sizes e.region))
  unfolding entry_ok
  ok_address k = rw k

  pub ok_start_or_null : e.kind ≡ 3 → entry_ok regions sizes e ≡ (ltb e.region regions && is_blank e.set)
  unfolding entry_ok
  ok_start_or_null k = rw k

  pub ok_other :
      (e.kind ≡ 1 → ⊥) → (e.kind ≡ 2 → ⊥) → (e.kind ≡ 3 → ⊥)
      → entry_ok regions sizes e ≡ ((is_unset e || is_return e || is_frame e) && eqb e.region 0 && is_blank e.set)
  unfolding entry_ok
  ok_other n1 n2 n3 = rw (ne_eqb _ _ n1, ne_eqb _ _ n2, ne_eqb _ _ n3)
