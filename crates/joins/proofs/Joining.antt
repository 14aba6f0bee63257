-- Two entries that are joined: of what sort they are, the ways to join them, and what it is to fit an entry that has no set.
use Prim.Native.Nat.{ℕ}
use mathlib.Core.Path.{◌≡◌, refl, sym, ◌∙◌}
use mathlib.Core.Bool.{Bool, true, false, ◌&&◌}
use lib.Dec.{eqb}
use borrow.Author.Tests.{eqb-true, eq-eqb}
use Rattle.v8.specs.Signed.{bias}
use Rattle.v8.proofs.Choice.{cond_both, or_went, and_went}
use Rattle.sets.specs.declared.NumberSet.{NumberSet}
use Rattle.sets.specs.Sets.{ended}
use Rattle.rows.specs.declared.Entry.{Entry}
use Rattle.rows.specs.Entry.{is_unset, is_number, is_address, is_zero, is_region_start, only_zero, start_or_null, fits}
use Rattle.rows.proofs.Tests.{true_or, or-true}
use Rattle.rows.proofs.ByKind.{of_kind}
use Rattle.rows.proofs.Fitting.{FitsStart, same, null, begins, FitsAs, as_fits}
use Rattle.joins.specs.Join.{unset, join_sets, of_one_sort, with_set, if_both_fit, start_or_unset, join_of}

-- every entry fits one that is unset
pub fits_unset : (a c : Entry) → is_unset c ≡ true → fits a c ≡ true
fits_unset a c u = as_fits a c (of_kind (FitsAs a c) c 0 u tt)

-- the numbers 0 alone join to 0 alone
pub zero_joined : (s t : NumberSet) → only_zero s ≡ true → only_zero t ≡ true → only_zero (join_sets s t) ≡ true
unfolding join_sets ended
zero_joined s t p q =
    let x = and_went (eqb s.lo bias) (eqb s.hi bias) p in
    let y = and_went (eqb t.lo bias) (eqb t.hi bias) q in
    rw (eqb-true s.lo bias x.0, eqb-true s.hi bias x.1, eqb-true t.lo bias y.0, eqb-true t.hi bias y.1)

-- what the single number 0 and the start of a region are
pub zero_parts : (e : Entry) → is_zero e ≡ true → (is_number e ≡ true) × (only_zero e.set ≡ true)
zero_parts e z = and_went (is_number e) (only_zero e.set) z

pub start_parts : (r : ℕ) (e : Entry) → is_region_start r e ≡ true → (is_address e ≡ true) × (e.region ≡ r) × (only_zero e.set ≡ true)
start_parts r e z =
    let p = and_went (is_address e && eqb e.region r) (only_zero e.set) z in
    let q = and_went (is_address e) (eqb e.region r) p.0 in
    (q.0, eqb-true e.region r q.1, p.1)

-- what fits an entry as the start of its region or null fits that
pub fits_start : (a c : Entry) → FitsStart a c → fits a (start_or_null c.region) ≡ true
fits_start a c x = as_fits a (start_or_null c.region) (on x)
  where
    on : FitsStart a c → FitsStart a (start_or_null c.region)
    on (same k r) = same k r
    on (null z) = null z
    on (begins z) = begins z

module _ (a b : Entry) where
  abbrev are_numbers : Bool
  are_numbers = is_number a && is_number b

  abbrev are_addresses : Bool
  are_addresses = is_address a && is_address b && eqb a.region b.region

  -- of what sort two entries of one sort are
  pub by_sort : {C : Type 0} → of_one_sort a b ≡ true → (is_number a ≡ true → is_number b ≡ true → C)
      → (is_address a ≡ true → is_address b ≡ true → a.region ≡ b.region → C) → C
  by_sort e f g =
      or_went are_numbers are_addresses e
      (λ t. let p = and_went (is_number a) (is_number b) t in f p.0 p.1)
      (λ t. let p = and_went (is_address a && is_address b) (eqb a.region b.region) t in
      let q = and_went (is_address a) (is_address b) p.0 in
      g q.0 q.1 (eqb-true a.region b.region p.1))

  pub numbers_sort : is_number a ≡ true → is_number b ≡ true → of_one_sort a b ≡ true
  numbers_sort p q = true_or are_numbers are_addresses (rw (p, q))

  pub addresses_sort : is_address a ≡ true → is_address b ≡ true → a.region ≡ b.region → of_one_sort a b ≡ true
  addresses_sort p q r = or-true are_numbers are_addresses (rw (p, q, eq-eqb a.region b.region r))

  -- entries of one sort have one kind
  pub sort_kind : of_one_sort a b ≡ true → a.kind ≡ b.kind
  sort_kind e =
      by_sort e
      (λ p q. eqb-true a.kind 1 p ∙ sym (eqb-true b.kind 1 q))
      (λ p q _. eqb-true a.kind 2 p ∙ sym (eqb-true b.kind 2 q))

  -- the entry of their sets' join
  abbrev pub joined : Entry
  joined = with_set a (join_sets a.set b.set)

  -- what holds of each way to join holds of the join
  pub join_each : (P : Entry → Type 0) → (fits b a ≡ true → P a) → (fits a b ≡ true → P b)
      → (of_one_sort a b ≡ true → P joined)
      → (fits b a ≡ false → of_one_sort a b ≡ false → P (start_or_unset a b)) → P (join_of a b)
  unfolding join_of
  join_each P f g h k =
      cond_both P (fits b a) f (λ n. cond_both P (fits a b) g (λ _. cond_both P (of_one_sort a b) h (k n)))

  -- both fit an entry
  abbrev pub Both : Entry → Type 0
  Both j = (fits a j ≡ true) × (fits b j ≡ true)

  pub if-both-fit : (e : Entry) → Both (if_both_fit a b e)
  unfolding if_both_fit
  if-both-fit e =
      cond_both Both (fits a e && fits b e) (and_went (fits a e) (fits b e))
      (λ _. (fits_unset a unset refl, fits_unset b unset refl))

  pub both_fitted : (e : Entry) → fits a e ≡ true → fits b e ≡ true → if_both_fit a b e ≡ e
  unfolding if_both_fit
  both_fitted e p q = rw (p, q)
