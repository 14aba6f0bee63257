-- The tests pass the policies that obey the rules, and only those: each test of a chain is turned into the fact that it tests, and back.
use Prim.Native.Nat.{ℕ, zero, suc, ◌+◌, ◌-◌, ◌%◌, ◌≤◌, ◌<◌, zero-le}
use mathlib.Core.Path.{◌≡◌, refl}
use mathlib.Core.Bool.{Bool, true, and-false}
use native.Mathlib.Numerals.{add-one}
use native.Mathlib.Omega.{arith}
use borrow.Author.Tests.{ltb-true, ltb-false, lt-ltb, le-ltb, le-leb, eq-eqb, ne_eqb}
use lib.Dec.{ltb}
use Rattle.v8.specs.Signed.{bias}
use Rattle.v8.proofs.Choice.{cond_both}
use Rattle.v8.specs.Search.{all}
use Rattle.v8.proofs.Search.{all_at, all_each, needed, needed_le, needed_lt, needed_eq, and_both}
use Rattle.policy.specs.Element.{width_of, least_of, most_of}
use Rattle.policy.specs.Policy.{size_of, count_of, place_of, field_at, field_end, size_ok, values_ok, field_ok, end_before, field_fits, field_at_ok, region_ok, policy_ok}
use Rattle.policy.specs.Laws.{SizeRules, NumberRules, AddressRules, FieldRules, WellFormed, Obeys, Passes}
use Rattle.policy.specs.declared.Field.{Field}
use Rattle.policy.specs.declared.Policy.{Policy}

pub size_rules : (size : ℕ) → size_ok size ≡ true → SizeRules size
size_rules size h =
    record {
      least = needed_le _ 8 size h (λ e. simp e);
      most = needed_le _ size 4096 h (λ e. simp (e, and-false));
      step = needed_eq _ (size % 8) 0 h (λ e. simp (e, and-false));
    }

pub size-passes : (size : ℕ) → SizeRules size → size_ok size ≡ true
size-passes size s = rw (le-leb _ _ s.least, le-leb _ _ s.most, eq-eqb _ _ s.step)

number_rules : (regions : ℕ) (f : Field) → values_ok regions f ≡ true → f.element ≤ 5 → NumberRules f
unfolding values_ok
number_rules regions f h l =
    let t = lt-ltb f.element 6 (omega arith) in
    record {
      least = needed_le _ (least_of f.element) f.lo h (λ e. simp (t, e));
      order = needed_le _ f.lo f.hi h (λ e. simp (t, e, and-false));
      most = needed_le _ f.hi (most_of f.element) h (λ e. simp (t, e, and-false));
      target = needed_eq _ f.target 0 h (λ e. simp (t, e, and-false));
    }

address_rules : (regions : ℕ) (f : Field) → values_ok regions f ≡ true → 6 ≤ f.element → AddressRules regions f
unfolding values_ok
address_rules regions f h l =
    let t = le-ltb f.element 6 l in
    record {
      target = needed_lt _ f.target regions h (λ e. simp (t, e));
      lo = needed_eq _ f.lo bias h (λ e. simp (t, e, and-false));
      hi = needed_eq _ f.hi bias h (λ e. simp (t, e, and-false));
    }

pub field_rules : (regions size : ℕ) (f : Field) → field_ok regions size f ≡ true → FieldRules regions size f
unfolding field_ok
field_rules regions size f h =
    let values = needed _ (values_ok regions f) h (λ e. simp (e, and-false)) in
    record {
      element_least = needed_le _ 1 f.element h (λ e. simp e);
      element_most = needed_le _ f.element 7 h (λ e. simp (e, and-false));
      permission_least = needed_le _ 1 f.permission h (λ e. simp (e, and-false));
      permission_most = needed_le _ f.permission 3 h (λ e. simp (e, and-false));
      count_least = needed_le _ 1 f.count h (λ e. simp (e, and-false));
      aligned = needed_eq _ (f.offset.0 % width_of f.element) 0 h (λ e. simp (e, and-false));
      inside = needed_le _ (field_end f) size h (λ e. simp (e, and-false));
      numbers = number_rules regions f values;
      address = address_rules regions f values;
    }

values_pass : (regions : ℕ) (f : Field) → (f.element ≤ 5 → NumberRules f) → (6 ≤ f.element → AddressRules regions f) → values_ok regions f ≡ true
unfolding values_ok
values_pass regions f n a =
    cond_both (λ (b : Bool). b ≡ true) (ltb f.element 6)
    (λ t. let r = n (omega (arith, ltb-true f.element 6 t)) in rw (le-leb _ _ r.least, le-leb _ _ r.order, le-leb _ _ r.most, eq-eqb _ _ r.target))
    (λ t. let r = a (ltb-false f.element 6 t) in rw (lt-ltb _ _ r.target, eq-eqb _ _ r.lo, eq-eqb _ _ r.hi))

pub field_passes : (regions size : ℕ) (f : Field) → FieldRules regions size f → field_ok regions size f ≡ true
unfolding field_ok
field_passes regions size f s =
    rw (
      le-leb _ _ s.element_least,
      le-leb _ _ s.element_most,
      le-leb _ _ s.permission_least,
      le-leb _ _ s.permission_most,
      le-leb _ _ s.count_least,
      eq-eqb _ _ s.aligned,
      le-leb _ _ s.inside,
      values_pass regions f s.numbers s.address,
    )

module _ (p : Policy) (r k : ℕ) (f : Field) (h : field_fits p r k f ≡ true) where
  pub fits_rules : FieldRules p.regions.count (size_of p r) f
  unfolding field_fits
  fits_rules = field_rules _ _ f (needed _ (field_ok p.regions.count (size_of p r) f) h (λ e. simp e))

  pub fits_follows : end_before p r k ≤ f.offset.0
  unfolding field_fits
  fits_follows = needed_le _ (end_before p r k) f.offset.0 h (λ e. simp (e, and-false))

module _ (p : Policy) (r : ℕ) where
  pub later : (k : ℕ) → end_before p r (k + 1) ≡ field_end (field_at p (place_of r k))
  unfolding end_before field_at
  later k = let e : k + 1 - 1 ≡ k = omega arith in simp (ne_eqb (k + 1) 0 (λ z. omega arith), e)

  pub none_before : end_before p r 0 ≡ 0
  unfolding end_before
  none_before = refl

  module _ (ok : region_ok p r ≡ true) where
    region-size : SizeRules (size_of p r)
    unfolding region_ok
    region-size = size_rules (size_of p r) (needed _ (size_ok (size_of p r)) ok (λ e. simp e))

    region-count : count_of p r ≤ 16
    unfolding region_ok
    region-count = needed_le _ (count_of p r) 16 ok (λ e. simp (e, and-false))

    fits-at : (k : ℕ) → k < count_of p r → field_fits p r k (field_at p (place_of r k)) ≡ true
    unfolding region_ok field_at_ok
    fits-at k l = all_at (field_at_ok p r) (count_of p r) k (needed _ (all (field_at_ok p r) (count_of p r)) ok (λ e. simp (e, and-false))) l

    rules_at : (k : ℕ) → k < count_of p r → FieldRules p.regions.count (size_of p r) (field_at p (place_of r k))
    rules_at k l = fits_rules p r k (field_at p (place_of r k)) (fits-at k l)

    ascends_at : (k : ℕ) → k + 1 < count_of p r → field_end (field_at p (place_of r k)) ≤ (field_at p (place_of r (k + 1))).offset.0
    ascends_at k l = rw (← later k) (fits_follows p r (k + 1) (field_at p (place_of r (k + 1))) (fits-at (k + 1) l))

region-at : (p : Policy) → policy_ok p ≡ true → (r : ℕ) → r < p.regions.count → region_ok p r ≡ true
unfolding policy_ok
region-at p ok r l = all_at (region_ok p) p.regions.count r (needed _ (all (region_ok p) p.regions.count) ok (λ e. simp (e, and-false))) l

pub regions_at_most : (p : Policy) → policy_ok p ≡ true → p.regions.count ≤ 8
unfolding policy_ok
regions_at_most p ok = needed_le _ p.regions.count 8 ok (λ e. simp e)

pub obeys : Obeys
obeys p ok =
    record {
      regions_most = regions_at_most p ok;
      size = λ r l. region-size p r (region-at p ok r l);
      count_most = λ r l. region-count p r (region-at p ok r l);
      field = λ r k l. rules_at p r (region-at p ok r l) k;
      ascending = λ r k l. ascends_at p r (region-at p ok r l) k;
    }

module _ (p : Policy) (w : WellFormed p) where
  follows : (r k : ℕ) → r < p.regions.count → k < count_of p r → end_before p r k ≤ (field_at p (place_of r k)).offset.0
  follows r zero l m = rw (none_before p r) zero-le
  follows r (suc k) l m = rw (← add-one k) (rw (later p r k) (w.ascending r k l (rw add-one m)))

  pub passes_at : (r k : ℕ) → r < p.regions.count → k < count_of p r → field_at_ok p r k ≡ true
  unfolding field_at_ok field_fits
  passes_at r k l m = and_both _ _ (field_passes _ _ _ (w.field r k l m)) (le-leb _ _ (follows r k l m))

  pub passes_region : (r : ℕ) → r < p.regions.count → region_ok p r ≡ true
  unfolding region_ok
  passes_region r l =
      and_both _ _ (and_both _ _ (size-passes _ (w.size r l)) (le-leb _ _ (w.count_most r l)))
      (all_each (field_at_ok p r) (count_of p r) (λ k m. passes_at r k l m))

pub passes : Passes
unfolding policy_ok
passes p w = and_both _ _ (le-leb _ _ w.regions_most) (all_each (region_ok p) p.regions.count (λ r l. passes_region p w r l))
