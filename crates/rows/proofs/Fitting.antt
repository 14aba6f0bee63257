-- What fits matches. The test of `fits` says, by the kind of the second entry, how the first fits it; where the sets are compared, every member
-- of the one is a member of the other.
use Prim.Native.Nat.{ℕ, ◌+◌, ◌-◌, ◌≤◌, ◌<◌}
use mathlib.Core.Path.{◌≡◌, sym, ap, ◌∙◌, subst}
use mathlib.Core.Logic.{◌⊎◌, inl, inr}
use mathlib.Core.Bool.{Bool, true, ◌&&◌, ◌||◌}
use native.Mathlib.Omega.{arith}
use lib.Dec.{eqb}
use borrow.Author.Tests.{eqb-true, eq-eqb}
use Rattle.v8.proofs.Choice.{or_went, and_went, false_true}
use Rattle.v8.specs.Signed.{excess, bias}
use Rattle.sets.specs.declared.NumberSet.{NumberSet}
use Rattle.sets.specs.Sets.{fits_set, Member}
use Rattle.sets_rules.specs.Laws.{Offset}
use Rattle.sets.proofs.Fits.{fits_holds}
use Rattle.rows.specs.declared.Entry.{Entry}
use Rattle.rows.specs.Kind.{Kind, unset, number, address, start, return_address, frame_address, none, kind_of}
use Rattle.rows.specs.Entry.{is_unset, is_number, is_address, is_start_or_null, is_return, is_frame, is_zero, is_region_start, only_zero, fits}
use Rattle.rows.specs.Matches.{Host, base_of, HoldsAs, Holds}
use Rattle.rows.specs.Laws.{RulesAs, FitsMatches}
use Rattle.rows.proofs.Tests.{true_or, or-true, other_kind}
use Rattle.rows.proofs.ByKind.{of_kind, each_kind, held_number, held_address, held_start, held_return, held_frame, ruled_number, ruled_address}

-- the ways in which an entry fits the start of a region or null
pub data FitsStart (a b : Entry) : Type 0 where
  same : is_start_or_null a ≡ true → a.region ≡ b.region → FitsStart a b
  null : is_zero a ≡ true → FitsStart a b
  begins : is_region_start b.region a ≡ true → FitsStart a b

-- how an entry fits one of a kind
module _ (a b : Entry) where
  abbrev pub FitsAs : Kind → Type 0
  FitsAs unset = Unit {0}
  FitsAs number = (is_number a ≡ true) × (fits_set a.set b.set ≡ true)
  FitsAs address = (is_address a ≡ true) × (a.region ≡ b.region) × (fits_set a.set b.set ≡ true)
  FitsAs start = FitsStart a b
  FitsAs return_address = is_return a ≡ true
  FitsAs frame_address = is_frame a ≡ true
  FitsAs none = ⊥

  -- the seven cases of the test
  abbrev numbers_fit : Bool
  numbers_fit = is_number a && is_number b && fits_set a.set b.set

  abbrev addresses_fit : Bool
  addresses_fit = is_address a && is_address b && eqb a.region b.region && fits_set a.set b.set

  abbrev starts_fit : Bool
  starts_fit = is_start_or_null a && is_start_or_null b && eqb a.region b.region

  abbrev returns_fit : Bool
  returns_fit = is_return a && is_return b

  abbrev frames_fit : Bool
  frames_fit = is_frame a && is_frame b

  abbrev null_fits : Bool
  null_fits = is_start_or_null b && (is_zero a || is_region_start b.region a)

  -- the test passes only so
  pub fits_as : fits a b ≡ true → FitsAs (kind_of b.kind)
  unfolding fits
  fits_as e =
      or_went (is_unset b || numbers_fit || addresses_fit || starts_fit || returns_fit || frames_fit) null_fits e
      (λ e₀. or_went (is_unset b || numbers_fit || addresses_fit || starts_fit || returns_fit) frames_fit e₀
      (λ e₁. or_went (is_unset b || numbers_fit || addresses_fit || starts_fit) returns_fit e₁
      (λ e₂. or_went (is_unset b || numbers_fit || addresses_fit) starts_fit e₂
      (λ e₃. or_went (is_unset b || numbers_fit) addresses_fit e₃
      (λ e₄. or_went (is_unset b) numbers_fit e₄ (λ u. of_kind FitsAs b 0 u tt)
      (λ t. let p = and_went (is_number a && is_number b) (fits_set a.set b.set) t in
      let q = and_went (is_number a) (is_number b) p.0 in of_kind FitsAs b 1 q.1 (q.0, p.1)))
      (λ t. let p = and_went (is_address a && is_address b && eqb a.region b.region) (fits_set a.set b.set) t in
      let q = and_went (is_address a && is_address b) (eqb a.region b.region) p.0 in
      let r = and_went (is_address a) (is_address b) q.0 in
      of_kind FitsAs b 2 r.1 (r.0, eqb-true a.region b.region q.1, p.1)))
      (λ t. let p = and_went (is_start_or_null a && is_start_or_null b) (eqb a.region b.region) t in
      let q = and_went (is_start_or_null a) (is_start_or_null b) p.0 in
      of_kind FitsAs b 3 q.1 (same q.0 (eqb-true a.region b.region p.1))))
      (λ t. let p = and_went (is_return a) (is_return b) t in of_kind FitsAs b 4 p.1 p.0))
      (λ t. let p = and_went (is_frame a) (is_frame b) t in of_kind FitsAs b 5 p.1 p.0))
      (λ t. let p = and_went (is_start_or_null b) (is_zero a || is_region_start b.region a) t in
      of_kind FitsAs b 3 p.0 (or_went (is_zero a) (is_region_start b.region a) p.1 null begins))

  -- and where it is so, it passes
  pub as_fits : FitsAs (kind_of b.kind) → fits a b ≡ true
  unfolding fits
  as_fits =
      each_kind (λ (k : Kind). FitsAs k → fits a b ≡ true) b.kind
      (record {
        if_unset = λ u _. rw u;
        if_number = λ q p.
            true_or (is_unset b || numbers_fit || addresses_fit || starts_fit || returns_fit || frames_fit) null_fits
            (true_or (is_unset b || numbers_fit || addresses_fit || starts_fit || returns_fit) frames_fit
            (true_or (is_unset b || numbers_fit || addresses_fit || starts_fit) returns_fit
            (true_or (is_unset b || numbers_fit || addresses_fit) starts_fit
            (true_or (is_unset b || numbers_fit) addresses_fit (or-true (is_unset b) numbers_fit (rw (p.0, q, p.1)))))));
        if_address = λ q p.
            true_or (is_unset b || numbers_fit || addresses_fit || starts_fit || returns_fit || frames_fit) null_fits
            (true_or (is_unset b || numbers_fit || addresses_fit || starts_fit || returns_fit) frames_fit
            (true_or (is_unset b || numbers_fit || addresses_fit || starts_fit) returns_fit
            (true_or (is_unset b || numbers_fit || addresses_fit) starts_fit
            (or-true (is_unset b || numbers_fit) addresses_fit (rw (p.0, q, eq-eqb a.region b.region p.1, p.2))))));
        if_start = λ q p. start_fits q p;
        if_return = λ q p.
            true_or (is_unset b || numbers_fit || addresses_fit || starts_fit || returns_fit || frames_fit) null_fits
            (true_or (is_unset b || numbers_fit || addresses_fit || starts_fit || returns_fit) frames_fit
            (or-true (is_unset b || numbers_fit || addresses_fit || starts_fit) returns_fit (rw (p, q))));
        if_frame = λ q p.
            true_or (is_unset b || numbers_fit || addresses_fit || starts_fit || returns_fit || frames_fit) null_fits (or-true (is_unset b || numbers_fit || addresses_fit || starts_fit || returns_fit) frames_fit (rw (p, q)));
        if_none = λ p. absurd p;
      })
    where
      by_null : is_start_or_null b ≡ true → is_zero a || is_region_start b.region a ≡ true
          → is_unset b || numbers_fit || addresses_fit || starts_fit || returns_fit || frames_fit || null_fits ≡ true
      by_null q z = or-true (is_unset b || numbers_fit || addresses_fit || starts_fit || returns_fit || frames_fit) null_fits (rw (q, z))

      start_fits : is_start_or_null b ≡ true → FitsStart a b → is_unset b || numbers_fit || addresses_fit || starts_fit || returns_fit || frames_fit || null_fits ≡ true
      start_fits q (same p r) =
          true_or (is_unset b || numbers_fit || addresses_fit || starts_fit || returns_fit || frames_fit) null_fits
          (true_or (is_unset b || numbers_fit || addresses_fit || starts_fit || returns_fit) frames_fit
          (true_or (is_unset b || numbers_fit || addresses_fit || starts_fit) returns_fit
          (or-true (is_unset b || numbers_fit || addresses_fit) starts_fit (rw (p, q, eq-eqb a.region b.region r)))))
      start_fits q (null z) = by_null q (true_or (is_zero a) (is_region_start b.region a) z)
      start_fits q (begins z) = by_null q (or-true (is_zero a) (is_region_start b.region a) z)

-- the one member of {0}
pub only_zero_lem : (s : NumberSet) (n : ℕ) → only_zero s ≡ true → Member s n → n ≡ bias
only_zero_lem s n e m =
    let p = and_went (eqb s.lo bias) (eqb s.hi bias) e in
    omega (arith, eqb-true s.lo bias p.0, eqb-true s.hi bias p.1, m.low, m.high)

-- the single number 0 holds 0 alone, and the start of a region its base alone
pub zero_holds : (h : Host) (e : Entry) (v : ℕ) → v < 4294967296 → is_zero e ≡ true → Holds h e v → v ≡ 0
zero_holds h e v l z m =
    let p = and_went (is_number e) (only_zero e.set) z in
    let q = only_zero_lem e.set (excess v) p.1 (held_number p.0 m) in
    omega (arith, q)

pub start_address : (r : ℕ) (e : Entry) → is_region_start r e ≡ true → is_address e ≡ true
start_address r e z = (and_went (is_address e) (eqb e.region r) (and_went (is_address e && eqb e.region r) (only_zero e.set) z).0).0

pub start_holds : (h : Host) (r : ℕ) (e : Entry) (v : ℕ) → is_region_start r e ≡ true → Holds h e v → v ≡ base_of h r
start_holds h r e v z m =
    let p = and_went (is_address e && eqb e.region r) (only_zero e.set) z in
    let q = and_went (is_address e) (eqb e.region r) p.0 in
    let o = held_address q.0 m in
    let n = only_zero_lem e.set (v - base_of h e.region + bias) p.1 o.member in
    at (base_of h e.region) o.above n ∙ ap (base_of h) (eqb-true e.region r q.1)
  where
    at : (base : ℕ) → base ≤ v → v - base + bias ≡ bias → v ≡ base
    at base a b = omega arith

pub fits_matches : FitsMatches
fits_matches h regions sizes a b mark v small wa wb e m u =
    let x = each_kind (λ (k : Kind). FitsAs a b k → RulesAs regions sizes b k → (mark ≡ true) × HoldsAs h b v k) b.kind
    (record {
      if_unset = λ q _ _. false_true (sym u ∙ q);
      if_number = λ q f w. given 1 f.0 (λ x. omega arith)
          (λ g. fits_holds a.set b.set (ruled_number f.0 wa) w f.1 (excess v) (held_number f.0 g));
      if_address = λ q f w. given 2 f.0 (λ x. omega arith)
          (λ g. let o = held_address f.0 g in
          moved a.region b.region f.1 o.above
          (fits_holds a.set b.set (ruled_address f.0 wa).set w.set f.2 (v - base_of h a.region + bias) o.member));
      if_start = λ q f w. starts f;
      if_return = λ q f w. given 4 f (λ x. omega arith) (λ g. held_return f g);
      if_frame = λ q f w. given 5 f (λ x. omega arith) (λ g. held_frame f g);
      if_none = λ f. absurd f;
    })
    (fits_as a b e) wb.by_kind
    in (x.0, record { by_kind = x.1 })
  where
    given : {C : Type 0} (i : ℕ) → eqb a.kind i ≡ true → (i ≡ 0 → ⊥) → (Holds h a v → C) → (mark ≡ true) × C
    given i t n f = let x = m (other_kind a.kind i 0 t n) in (x.0, f x.1)

    moved : (r s : ℕ) → r ≡ s → base_of h r ≤ v → Member b.set (v - base_of h r + bias) → Offset (base_of h s) b.set v
    moved r s e l n = subst (λ (k : ℕ). Offset (base_of h k) b.set v) e (record { above = l; member = n })

    starts : FitsStart a b → (mark ≡ true) × ((v ≡ 0) ⊎ (v ≡ base_of h b.region))
    starts (same p r) = given 3 p (λ x. omega arith) (λ g. subst (λ (k : ℕ). (v ≡ 0) ⊎ (v ≡ base_of h k)) r (held_start p g))
    starts (null z) = given 1 (and_went (is_number a) (only_zero a.set) z).0 (λ x. omega arith) (λ g. inl (zero_holds h a v small z g))
    starts (begins z) = given 2 (start_address b.region a z) (λ x. omega arith) (λ g. inr (start_holds h b.region a v z g))
