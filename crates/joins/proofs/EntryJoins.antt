-- Both fit the join of two entries, and it is the least. Where neither fits the other, two numbers or two addresses of one region join by their
-- sets; of other sorts, both fit only the start of a region or null, and that region is the one named, or what is unset.
use Prim.Native.Nat.{ℕ}
use mathlib.Core.Path.{◌≡◌, refl, sym, ◌∙◌}
use mathlib.Core.Bool.{true, false}
use mathlib.Core.List.{List}
use native.Mathlib.Omega.{arith}
use lib.Dec.{eqb}
use borrow.Author.Tests.{eqb-true, eq-eqb}
use Rattle.v8.proofs.Choice.{false_true}
use Rattle.rows.specs.declared.Entry.{Entry}
use Rattle.rows.specs.Kind.{Kind}
use Rattle.rows.specs.Entry.{start_or_null, fits}
use Rattle.rows.specs.Laws.{RulesAs, EntryRules}
use Rattle.rows.proofs.Tests.{one_kind, other_kind}
use Rattle.rows.proofs.ByKind.{of_kind, each_kind, ruled_number, ruled_address}
use Rattle.rows.proofs.Fitting.{FitsStart, same, null, begins, FitsAs, fits_as, as_fits, start_address}
use Rattle.rows.proofs.Order.{fits_self}
use Rattle.joins.specs.Join.{of_one_sort, region_named, start_or_unset}
use Rattle.joins.specs.Laws.{BothFit, Least}
use Rattle.joins.proofs.SetJoins.{both_lie, least_set}
use Rattle.joins.proofs.Joining.{fits_unset, zero_joined, zero_parts, start_parts, fits_start, by_sort, numbers_sort, addresses_sort, sort_kind, join_each, Both, if-both-fit, both_fitted, joined}

module _ (regions : ℕ) (sizes : List ℕ) (a b : Entry) (wa : EntryRules regions sizes a) (wb : EntryRules regions sizes b) where
  -- both fit the entry of their sets' join
  sorted_fits : of_one_sort a b ≡ true → Both a b (joined a b)
  sorted_fits e =
      by_sort a b e
      (λ p q. let s = both_lie a.set b.set (ruled_number p wa) (ruled_number q wb) in
      (as_fits a (joined a b) (of_kind (FitsAs a (joined a b)) (joined a b) 1 p (p, s.0)), as_fits b (joined a b) (of_kind (FitsAs b (joined a b)) (joined a b) 1 p (q, s.1))))
      (λ p q r. let s = both_lie a.set b.set (ruled_address p wa).set (ruled_address q wb).set in (
        as_fits a (joined a b) (of_kind (FitsAs a (joined a b)) (joined a b) 2 p (p, refl, s.0)),
        as_fits b (joined a b) (of_kind (FitsAs b (joined a b)) (joined a b) 2 p (q, sym r, s.1)),
      ))

  module _ (c : Entry) (wc : EntryRules regions sizes c) (fa : fits a c ≡ true) (fb : fits b c ≡ true) where
    -- it fits what both fit
    sorted_least : of_one_sort a b ≡ true → fits (joined a b) c ≡ true
    sorted_least e =
        as_fits (joined a b) c (each_kind (λ (k : Kind). FitsAs a c k → FitsAs b c k → RulesAs regions sizes c k → FitsAs (joined a b) c k) c.kind
        (record {
          if_unset = λ _ _ _ _. tt;
          if_number = λ _ x y w. (x.0, least_set a.set b.set c.set (ruled_number x.0 wa) (ruled_number y.0 wb) w x.1 y.1);
          if_address = λ _ x y w. (
            x.0,
            x.1,
            least_set a.set b.set c.set (ruled_address x.0 wa).set (ruled_address y.0 wb).set w.set x.2 y.2,
          );
          if_start = λ _ x y _. starts x y;
          if_return = λ _ x _ _. x;
          if_frame = λ _ x _ _. x;
          if_none = λ x. absurd x;
        })
        (fits_as a c fa) (fits_as b c fb) wc.by_kind)
      where
        as_a : (i : ℕ) → eqb b.kind i ≡ true → eqb a.kind i ≡ true
        as_a i t = eq-eqb a.kind i (sort_kind a b e ∙ eqb-true b.kind i t)

        starts : FitsStart a c → FitsStart b c → FitsStart (joined a b) c
        starts (same k r) y = same k r
        starts (null z) (same k r) = one_kind a.kind 1 3 (zero_parts a z).0 (as_a 3 k) (λ x. omega arith)
        starts (null z) (null y) =
            let p = zero_parts a z in
            let q = zero_parts b y in
            null (rw (p.0, zero_joined a.set b.set p.1 q.1))
        starts (null z) (begins y) = one_kind a.kind 1 2 (zero_parts a z).0 (as_a 2 (start_address c.region b y)) (λ x. omega arith)
        starts (begins z) (same k r) = one_kind a.kind 2 3 (start_address c.region a z) (as_a 3 k) (λ x. omega arith)
        starts (begins z) (null y) = one_kind a.kind 2 1 (start_address c.region a z) (as_a 1 (zero_parts b y).0) (λ x. omega arith)
        starts (begins z) (begins y) =
            let p = start_parts c.region a z in
            let q = start_parts c.region b y in
            begins (rw (p.0, eq-eqb a.region c.region p.1, zero_joined a.set b.set p.2 q.2))

    -- where neither fits the other and they are of two sorts, the region whose start or null both fit is the one that is named
    named : fits b a ≡ false → of_one_sort a b ≡ false → FitsStart a c → FitsStart b c → region_named a b ≡ c.region
    named n m (begins z) y = let p = start_parts c.region a z in rw p.0 p.1
    named n m (same k r) (same l s) = rw (other_kind a.kind 3 2 k (λ x. omega arith)) s
    named n m (same k r) (null y) = false_true (sym n ∙ as_fits b a (of_kind (FitsAs b a) a 3 k (null y)))
    named n m (same k r) (begins y) = rw (other_kind a.kind 3 2 k (λ x. omega arith)) (start_parts c.region b y).1
    named n m (null z) (same l s) = rw (other_kind a.kind 1 2 (zero_parts a z).0 (λ x. omega arith)) s
    named n m (null z) (null y) = false_true (sym m ∙ numbers_sort a b (zero_parts a z).0 (zero_parts b y).0)
    named n m (null z) (begins y) = rw (other_kind a.kind 1 2 (zero_parts a z).0 (λ x. omega arith)) (start_parts c.region b y).1

    -- it fits what both fit
    started_least : fits b a ≡ false → of_one_sort a b ≡ false → fits (start_or_unset a b) c ≡ true
    started_least n m =
        each_kind (λ (k : Kind). FitsAs a c k → FitsAs b c k → fits (start_or_unset a b) c ≡ true) c.kind
        (record {
          if_unset = λ u _ _. fits_unset (start_or_unset a b) c u;
          if_number = λ _ x y. false_true (sym m ∙ numbers_sort a b x.0 y.0);
          if_address = λ _ x y. false_true (sym m ∙ addresses_sort a b x.0 y.0 (x.1 ∙ sym y.1));
          if_start = λ k x y. rw (named n m x y, both_fitted a b start (fits_start a c x) (fits_start b c y))
              (as_fits start c (of_kind (FitsAs start c) c 3 k (same refl refl)));
          if_return = λ _ x y. false_true (sym n ∙ as_fits b a (of_kind (FitsAs b a) a 4 x y));
          if_frame = λ _ x y. false_true (sym n ∙ as_fits b a (of_kind (FitsAs b a) a 5 x y));
          if_none = λ x. absurd x;
        })
        (fits_as a c fa) (fits_as b c fb)
      where
        start : Entry
        start = start_or_null c.region

pub both_fit : BothFit
both_fit regions sizes a b wa wb =
    join_each a b (Both a b)
    (λ e. (fits_self regions sizes a wa, e))
    (λ e. (e, fits_self regions sizes b wb))
    (sorted_fits regions sizes a b wa wb)
    (λ _ _. if-both-fit a b (start_or_null (region_named a b)))

pub least : Least
least regions sizes a b c wa wb wc fa fb =
    join_each a b (λ (j : Entry). fits j c ≡ true)
    (λ _. fa)
    (λ _. fb)
    (sorted_least regions sizes a b wa wb c wc fa fb)
    (started_least regions sizes a b wa wb c wc fa fb)
