-- The form of the join of two entries: the region that it names is one of theirs, and its set the join of theirs.
use Prim.Native.Nat.{ℕ, ◌+◌, ◌<◌}
use mathlib.Core.Path.{◌≡◌, refl, sym, ◌∙◌, subst}
use mathlib.Core.Bool.{true, false, ◌&&◌}
use mathlib.Core.List.{List}
use lib.Dec.{eqb}
use borrow.Author.Tests.{eqb-true, lt-ltb, le-leb}
use Rattle.v8.specs.Signed.{bias}
use Rattle.v8.proofs.Choice.{cond_both, and_went, false_true}
use Rattle.sets.specs.Sets.{set_ok}
use Rattle.sets.proofs.Formed.{passes}
use Rattle.rows.specs.declared.Entry.{Entry}
use Rattle.rows.specs.Entry.{size_in, start_or_null, fits, entry_ok}
use Rattle.rows.specs.Laws.{EntryRules}
use Rattle.rows.proofs.ByKind.{ruled_number, ruled_address, ruled_start, number_rules, address_rules, start_rules, unset_rules}
use Rattle.rows.proofs.Fitting.{FitsStart, same, null, begins, fits_as}
use Rattle.rows.proofs.FormKinds.{ok_number, ok_address, ok_start_or_null}
use Rattle.rows.proofs.Obeying.{entry_obeys}
use Rattle.joins.specs.Join.{of_one_sort, region_named, if_both_fit, start_or_unset}
use Rattle.joins.specs.Laws.{JoinObeys, JoinPasses}
use Rattle.joins.proofs.SetJoins.{joined_ends, sets_formed}
use Rattle.joins.proofs.Joining.{zero_parts, start_parts, by_sort, numbers_sort, join_each, joined}

module _ (regions : ℕ) (sizes : List ℕ) (a b : Entry) (wa : EntryRules regions sizes a) (wb : EntryRules regions sizes b) where
  -- the entry of their sets' join is well formed
  sorted_obeys : of_one_sort a b ≡ true → EntryRules regions sizes (joined a b)
  sorted_obeys e =
      by_sort a b e
      (λ p q. number_rules p (sets_formed a.set b.set (ruled_number p wa) (ruled_number q wb)))
      (λ p q r. let x = ruled_address p wa in
      let y = ruled_address q wb in
      let ends = joined_ends a.set b.set bias (bias + size_in sizes a.region) x.low y.low x.high (rw r y.high) in
      address_rules p
      (record { region = x.region; set = sets_formed a.set b.set x.set y.set; low = ends.0; high = ends.1 }))

  -- the region of a start or null that both fit is one that there is
  region_is : of_one_sort a b ≡ false → (s : Entry) → FitsStart a s → FitsStart b s → s.region < regions
  region_is m s (same k r) y = subst (λ (i : ℕ). i < regions) r (ruled_start k wa)
  region_is m s (begins z) y = let p = start_parts s.region a z in subst (λ (i : ℕ). i < regions) p.1 (ruled_address p.0 wa).region
  region_is m s (null z) (same k r) = subst (λ (i : ℕ). i < regions) r (ruled_start k wb)
  region_is m s (null z) (begins y) = let p = start_parts s.region b y in subst (λ (i : ℕ). i < regions) p.1 (ruled_address p.0 wb).region
  region_is m s (null z) (null y) = false_true (sym m ∙ numbers_sort a b (zero_parts a z).0 (zero_parts b y).0)

  started_obeys : of_one_sort a b ≡ false → EntryRules regions sizes (start_or_unset a b)
  unfolding if_both_fit
  started_obeys m =
      cond_both (EntryRules regions sizes) (fits a start && fits b start)
      (λ e. let p = and_went (fits a start) (fits b start) e in
      start_rules refl (region_is m start (fits_as a start p.0) (fits_as b start p.1)))
      (λ _. unset_rules refl)
    where
      start : Entry
      start = start_or_null (region_named a b)

  -- the join of entries that pass the test of form passes it
  module _ (oa : entry_ok regions sizes a ≡ true) where
    abbrev Passes : Entry → Type 0
    Passes j = entry_ok regions sizes j ≡ true

    sorted_passes : of_one_sort a b ≡ true → Passes (joined a b)
    sorted_passes e =
        by_sort a b e
        (λ p _. let k = eqb-true a.kind 1 p in
        let region = (and_went (eqb a.region 0) (set_ok a.set) (sym (ok_number regions sizes a k) ∙ oa)).0 in
        ok_number regions sizes (joined a b) k ∙ rw (region, passes (joined a b).set (ruled_number p (sorted_obeys e))))
        (λ p _ _. let x = ruled_address p (sorted_obeys e) in
        ok_address regions sizes (joined a b) (eqb-true a.kind 2 p)
        ∙ rw (lt-ltb _ _ x.region, passes (joined a b).set x.set, le-leb _ _ x.low, le-leb _ _ x.high))

    started_passes : of_one_sort a b ≡ false → Passes (start_or_unset a b)
    unfolding if_both_fit entry_ok
    started_passes m =
        cond_both Passes (fits a start && fits b start)
        (λ e. let p = and_went (fits a start) (fits b start) e in
        ok_start_or_null regions sizes start refl ∙ rw (lt-ltb _ _ (region_is m start (fits_as a start p.0) (fits_as b start p.1))))
        (λ _. refl)
      where
        start : Entry
        start = start_or_null (region_named a b)

pub join_obeys : JoinObeys
join_obeys regions sizes a b wa wb =
    join_each a b (EntryRules regions sizes) (λ _. wa) (λ _. wb) (sorted_obeys regions sizes a b wa wb) (λ _. started_obeys regions sizes a b wa wb)

pub join_passes : JoinPasses
join_passes regions sizes a b ta tb oa ob =
    let wa = entry_obeys regions sizes a ta oa in
    let wb = entry_obeys regions sizes b tb ob in
    join_each a b (λ (j : Entry). entry_ok regions sizes j ≡ true) (λ _. oa) (λ _. ob)
    (sorted_passes regions sizes a b wa wb oa) (λ _. started_passes regions sizes a b wa wb oa)
