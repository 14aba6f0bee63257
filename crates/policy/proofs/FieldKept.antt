-- Adding a field keeps the rules: the field added, which passed the tests, is the last of its region, and stands at a place of its own.
-- So every field of the next policy is the one added, or one that was there and reads as before.
use Prim.Native.Nat.{ℕ, ◌+◌, ◌*◌, ◌≤◌, ◌<◌}
use mathlib.Core.Path.{◌≡◌, refl}
use mathlib.Core.Bool.{Bool, true, false}
use native.Mathlib.Omega.{arith}
use borrow.Author.Tests.{eqb-true, eqb-false}
use lib.Dec.{eqb}
use lib.ListN.{length-set}
use lib.Seq.{get_or-set_same, get_or-set_other}
use Rattle.v8.proofs.Choice.{cond_both}
use Rattle.policy.specs.Policy.{size_of, count_of, place_of, no_field, field_at, field_end}
use Rattle.v8.specs.Numbers.{acceptance}
use Rattle.policy.specs.Build.{with_field, field_number, built}
use Rattle.policy.specs.Laws.{FieldRules, WellFormed, FieldAccepted, Sized, Sound, FieldSound}
use Rattle.policy.specs.declared.Field.{Field}
use Rattle.policy.specs.declared.Policy.{Policy}
use Rattle.policy.specs.declared.Built.{Built}
use Rattle.policy.proofs.WellFormed.{obeys, passes, fits_rules, fits_follows, later}
use Rattle.policy.proofs.Accepted.{accepts_field}
use Rattle.policy.proofs.RegionKept.{last_or_before}

-- two numbers are equal or not
equal_or_not : {C : Type 0} (q r : ℕ) → (q ≡ r → C) → ((q ≡ r → ⊥) → C) → C
equal_or_not {C} q r f g = decide (eqb q r) refl
  where
    decide : (t : Bool) → eqb q r ≡ t → C
    decide true e = f (eqb-true q r e)
    decide false e = g (eqb-false q r e)

-- two fields of 16 a region stand at one place only if they are one field
apart : (q r k n : ℕ) → (q ≡ r → ⊥) → k < 16 → n < 16 → 16 * q + k ≡ 16 * r + n → ⊥
apart q r k n d a b e = omega arith

module _ (p : Policy) (r : ℕ) (f : Field) (s : Sized p) (a : FieldAccepted p r f) where
  abbrev grown : Policy
  grown = with_field p r f

  abbrev count : ℕ
  count = count_of p r

  abbrev place : ℕ
  place = place_of r count

  given : WellFormed p
  given = obeys p a.ok

  place_in : place < 128
  place_in = omega (arith, given.regions_most, a.region, a.room)

  count_here : count_of grown r ≡ count + 1
  count_here = get_or-set_same p.regions.fields r (count + 1) 0 (omega (arith, s.fields, given.regions_most, a.region))

  count_other : (q : ℕ) → (q ≡ r → ⊥) → count_of grown q ≡ count_of p q
  count_other q d = get_or-set_other p.regions.fields r q (count + 1) 0 d

  field_here : field_at grown place ≡ f
  unfolding field_at
  field_here = get_or-set_same p.fields place f no_field (omega (arith, s.places, place_in))

  field_other : (i : ℕ) → (i ≡ place → ⊥) → field_at grown i ≡ field_at p i
  unfolding field_at
  field_other i d = get_or-set_other p.fields place i f no_field d

  -- the fields of the policy given stand at other places
  elsewhere : (q k : ℕ) → q < p.regions.count → k < count_of p q → place_of q k ≡ place → ⊥
  elsewhere q k l m =
      equal_or_not q r
      (λ e z. let b = rw e at m in omega (arith, rw e at z))
      (λ d. apart q r k count d (omega (arith, given.count_most q l)) a.room)

  field_old : (q k : ℕ) → q < p.regions.count → k < count_of p q → field_at grown (place_of q k) ≡ field_at p (place_of q k)
  field_old q k l m = field_other (place_of q k) (elsewhere q k l m)

  -- a field of the next policy is the one added, or was there
  new_or_old : {C : Type 0} (q k : ℕ) → k < count_of grown q → (q ≡ r → k ≡ count → C) → (k < count_of p q → C) → C
  new_or_old q k b new was =
      equal_or_not q r
      (λ e. last_or_before k count (rw count_here at (rw e at b)) (λ m. new e m) (λ m. was (rw e m)))
      (λ d. was (rw (count_other q d) at b))

  counts_next : (q : ℕ) → q < p.regions.count → count_of grown q ≤ 16
  counts_next q l =
      equal_or_not q r
      (λ e. rw (e, count_here) (omega (arith, a.room)))
      (λ d. rw (count_other q d) (given.count_most q l))

  rules_next : (q k : ℕ) → q < p.regions.count → k < count_of grown q → FieldRules p.regions.count (size_of p q) (field_at grown (place_of q k))
  rules_next q k l b =
      new_or_old q k b
      (λ e m. rw (e, m, field_here) (fits_rules p r count f a.fits))
      (λ m. rw (field_old q k l m) (given.field q k l m))

  -- the field added begins where or after the one before it ends
  added_follows : (k : ℕ) → k + 1 ≡ count → field_end (field_at grown (place_of r k)) ≤ f.offset.0
  added_follows k e =
      rw (field_old r k a.region (omega arith))
      (rw (← later p r k, e) (fits_follows p r count f a.fits))

  ascending_grown : (q k : ℕ) → q < p.regions.count → k + 1 < count_of grown q → field_end (field_at grown (place_of q k)) ≤ (field_at grown (place_of q (k + 1))).offset.0
  ascending_grown q k l b =
      new_or_old q (k + 1) b
      (λ e m. rw (e, m, field_here) (added_follows k m))
      (λ m. rw (field_old q (k + 1) l m, field_old q k l (omega arith)) (given.ascending q k l m))

  field_next_sound : Sound grown
  field_next_sound =
      record {
        sized =
            record {
              sizes = s.sizes;
              fields = simp length-set s.fields;
              places = simp length-set s.places;
            };
        ok =
            passes grown
            (record {
              regions_most = given.regions_most;
              size = given.size;
              count_most = counts_next;
              field = rules_next;
              ascending = ascending_grown;
            });
      }

pub field_sound : FieldSound
unfolding built
field_sound p r f s =
    cond_both (λ (b : Built). Sound b.policy) (eqb (field_number p r f) acceptance)
    (λ t. field_next_sound p r f s.sized (accepts_field p r f (eqb-true _ _ t)))
    (λ t. s)
