-- Fits is reflexive and transitive, by the kind of the last entry: what fits it has the kinds that the test leaves, and sets that lie in each
-- other pass that on.
use Prim.Native.Nat.{ℕ, ◌-◌, ◌%◌}
use mathlib.Core.Path.{◌≡◌, refl, ◌∙◌, subst}
use mathlib.Core.Bool.{true, ◌&&◌}
use native.Mathlib.Omega.{arith}
use lib.Dec.{eqb}
use borrow.Author.Tests.{eqb-true, eq-eqb}
use Rattle.v8.proofs.Choice.{and_went}
use Rattle.sets.specs.declared.NumberSet.{NumberSet}
use Rattle.sets.specs.Sets.{fits_set, Step, SetRules}
use Rattle.sets.proofs.Steps.{by_step}
use Rattle.sets.proofs.Fits.{fits_holds, holds_fits}
use Rattle.rows.specs.Kind.{Kind, kind_of}
use Rattle.rows.specs.Entry.{is_number, is_address, is_region_start, only_zero}
use Rattle.rows.specs.Laws.{RulesAs, FitsSelf, FitsOn}
use Rattle.rows.proofs.ByKind.{as_kind, each_kind, ruled_number, ruled_address}
use Rattle.rows.proofs.Fitting.{FitsStart, same, null, begins, FitsAs, fits_as, as_fits, start_address, only_zero_lem}

pub fits_self : FitsSelf
fits_self regions sizes e w =
    as_fits e e (each_kind (λ (k : Kind). RulesAs regions sizes e k → FitsAs e e k) e.kind
    (record {
      if_unset = λ _ _. tt;
      if_number = λ k r. (k, same_set r);
      if_address = λ k r. (k, refl, same_set r.set);
      if_start = λ k _. same k refl;
      if_return = λ k _. k;
      if_frame = λ k _. k;
      if_none = λ x. absurd x;
    })
    w.by_kind)
  where
    same_set : SetRules e.set → fits_set e.set e.set ≡ true
    same_set r = holds_fits e.set e.set r r (λ n m. m)

-- a set that lies in {0} is {0}
zero_in : (s t : NumberSet) → SetRules s → SetRules t → fits_set s t ≡ true → only_zero t ≡ true → only_zero s ≡ true
zero_in s t ws wt f z =
    let low = only_zero_lem t s.lo z (fits_holds s t ws wt f s.lo (record { low = omega arith; high = ws.order; grid = none ws.steps s.lo })) in
    let high = only_zero_lem t s.hi z (fits_holds s t ws wt f s.hi (record { low = ws.order; high = omega arith; grid = ws.even })) in
    rw (low, high)
  where
    none : {n : ℕ} → Step n → (l : ℕ) → (l - l) % n ≡ 0
    none = by_step (λ (n : ℕ). (l : ℕ) → (l - l) % n ≡ 0) (omega arith) (omega arith) (omega arith) (omega arith)

pub fits_on : FitsOn
fits_on regions sizes a b c wa wb wc e f =
    as_fits a c (each_kind (λ (k : Kind). FitsAs b c k → RulesAs regions sizes c k → FitsAs a c k) c.kind
    (record {
      if_unset = λ _ _ _. tt;
      if_number = λ _ g w. let x = from 1 g.0 in (x.0, through (ruled_number x.0 wa) (ruled_number g.0 wb) w x.1 g.1);
      if_address = λ _ g w. let x = from 2 g.0 in
          (x.0, x.1 ∙ g.1, through (ruled_address x.0 wa).set (ruled_address g.0 wb).set w.set x.2 g.2);
      if_start = λ _ g _. starts g;
      if_return = λ _ g _. from 4 g;
      if_frame = λ _ g _. from 5 g;
      if_none = λ g. absurd g;
    })
    (fits_as b c f) wc.by_kind)
  where
    from : (i : ℕ) → eqb b.kind i ≡ true → FitsAs a b (kind_of i)
    from i k = as_kind (FitsAs a b) b i k (fits_as a b e)

    through : {s t u : NumberSet} → SetRules s → SetRules t → SetRules u → fits_set s t ≡ true → fits_set t u ≡ true → fits_set s u ≡ true
    through {s} {t} {u} ws wt wu p q = holds_fits s u ws wu (λ n m. fits_holds t u wt wu q n (fits_holds s t ws wt p n m))

    moved : b.region ≡ c.region → FitsStart a b → FitsStart a c
    moved r (same k s) = same k (s ∙ r)
    moved r (null z) = null z
    moved r (begins z) = begins (subst (λ (k : ℕ). is_region_start k a ≡ true) r z)

    starts : FitsStart b c → FitsStart a c
    starts (same p r) = moved r (from 3 p)
    starts (null z) =
        let y = and_went (is_number b) (only_zero b.set) z in
        let x = from 1 y.0 in
        null (rw (x.0, zero_in a.set b.set (ruled_number x.0 wa) (ruled_number y.0 wb) x.1 y.1))
    starts (begins z) =
        let d = start_address c.region b z in
        let y = and_went (is_address b && eqb b.region c.region) (only_zero b.set) z in
        let r = and_went (is_address b) (eqb b.region c.region) y.0 in
        let x = from 2 d in
        begins (rw (
          x.0,
          eq-eqb a.region c.region (x.1 ∙ eqb-true b.region c.region r.1),
          zero_in a.set b.set (ruled_address x.0 wa).set (ruled_address d wb).set x.2 y.1,
        ))
