-- The search for the lowest place that has a flaw: how it goes on from a place, and that it finds none just where there is none.
use Rattle.std.specs.Prelude.{Option, Some, None, MatchOption, MatchBool, length}
use Prim.Native.Nat.{ℕ, ◌+◌, ◌≤◌, ◌<◌}
use mathlib.Core.Path.{◌≡◌, refl, sym, ap, ◌∙◌}
use mathlib.Core.Bool.{Bool, true, false, cond}
use native.Mathlib.Nat.{zero-add}
use native.Mathlib.Omega.{arith, by_contra}
use lib.Dec.{ltb}
use borrow.Author.Tests.{lt-ltb, le-ltb, ltb-false}
use Rattle.std.specs.List.{AllWithin, HoldsAt, range_with_len}
use Rattle.std.proofs.lemmas.List.FromFn.{length-range_with_len, get_or-range_with_len}
use Rattle.v8.specs.Search.{all, first}
use Rattle.v8.proofs.Search.{all_each, all_not, first_here, first_next, first_end, first_passes, first_least, first_is}
use Rattle.v8.proofs.Choice.{false_true}
use Rattle.rows.specs.Geometry.{places}
use Rattle.rows.specs.Flaw.{flaw_from, flawless}

-- what says that there is none
pub flawless_none : (f : Option ℕ) → flawless f ≡ true → f ≡ None
flawless_none None e = refl
flawless_none (Some place) e = false_true e

module _ (broken : ℕ → Bool) where
  -- the search ends at a place that has a flaw
  pub flaw_here : (place : ℕ) → place < places → broken place ≡ true → flaw_from broken place ≡ Some place
  unfolding flaw_from
  flaw_here place l e = rw (first_here broken place places l e, lt-ltb place places l)

  -- it goes on where there is none
  pub flaw_next : (place : ℕ) → place < places → broken place ≡ false → flaw_from broken place ≡ flaw_from broken (place + 1)
  unfolding flaw_from
  flaw_next place l e = rw (first_next broken place places l e)

  -- it finds none after the last place
  pub flaw_end : (place : ℕ) → places ≤ place → flaw_from broken place ≡ None
  unfolding flaw_from
  flaw_end place l = rw (first_end broken place places l, le-ltb place places l)

  -- where it finds none, no place has one
  pub none_broken : flaw_from broken 0 ≡ None → (place : ℕ) → place < places → broken place ≡ false
  unfolding flaw_from
  none_broken e place l = by (ltb lowest places) refl (ap flawless e)
    where
      lowest : ℕ
      lowest = first broken 0 places

      by : (t : Bool) → ltb lowest places ≡ t → flawless (cond t (Some lowest) None) ≡ true → broken place ≡ false
      by true t e = false_true e
      by false t e = first_least broken 0 places place (omega arith) (omega (arith, ltb-false lowest places t))

  -- where no place has one, it finds none
  pub no_flaw : ((place : ℕ) → place < places → broken place ≡ false) → flaw_from broken 0 ≡ None
  unfolding flaw_from
  no_flaw h = rw (le-ltb lowest places (by_contra places lowest (λ l. false_true (sym (h lowest l) ∙ first_passes broken 0 places l))))
    where
      lowest : ℕ
      lowest = first broken 0 places

  -- what a search through the places finds is the lowest place that has a flaw, or that there is none
  pub flaw_found :
      (found : Option ℕ)
      → MatchOption found ((k : ℕ) → 0 ≤ k → k < places → broken k ≡ false)
      (λ i. (0 ≤ i) × (i < places) × (broken i ≡ true) × ((k : ℕ) → 0 ≤ k → k < i → broken k ≡ false))
      → found ≡ flaw_from broken 0
  unfolding flaw_from
  flaw_found None h = sym (no_flaw (λ k l. h k (omega arith) l))
  flaw_found (Some i) h = rw (first_is broken 0 places i h.0 h.1 h.2 h.3, lt-ltb i places h.1)

-- what a pass over the numbers below n finds is whether every one passes the test
pub all_found :
    (f : ℕ → Bool) (n : ℕ) (found : Bool)
    → MatchBool found (AllWithin (λ k. f k ≡ true) (range_with_len 0 n) 0 (length (range_with_len 0 n)))
    ((k : ℕ) × (k < length (range_with_len 0 n)) × HoldsAt (λ k. f k ≡ false) (range_with_len 0 n) k)
    → found ≡ all f n
all_found f n true h =
    sym (all_each f n (λ i l. rw (get_or-range_with_len 0 n i 0 l, zero-add) at (h i 0 (omega arith) (rw (length-range_with_len 0 n) l))))
all_found f n false h =
    let l : h.0 < n = rw (length-range_with_len 0 n) at h.1 in
    sym (all_not f n h.0 l (rw (get_or-range_with_len 0 n h.0 0 l, zero-add) at (h.2 0)))
