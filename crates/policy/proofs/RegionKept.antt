-- The empty policy obeys the rules, and adding a region keeps them: the region added has a size that passed its test and no fields, and
-- the others read as before, with one target more.
use Prim.Native.Nat.{ℕ, ◌+◌, ◌≤◌, ◌<◌}
use mathlib.Core.Path.{◌≡◌, refl}
use mathlib.Core.Logic.{⊎_elim}
use native.Mathlib.Nat.{eq-or-lt_of_le}
use native.Mathlib.Omega.{arith}
use borrow.Author.Tests.{eqb-true}
use lib.Dec.{eqb}
use lib.ListN.{length-set}
use lib.Seq.{get_or-set_same, get_or-set_other}
use Rattle.v8.proofs.Choice.{cond_both}
use Rattle.v8.specs.Search.{all}
use Rattle.policy.specs.Policy.{size_of, count_of, place_of, field_at, field_end, policy_ok}
use Rattle.v8.specs.Numbers.{acceptance}
use Rattle.policy.specs.Build.{with_region, region_number, built}
use Rattle.policy.specs.Laws.{SizeRules, FieldRules, WellFormed, RegionAccepted, Sized, Sound, EmptySound, RegionSound}
use Rattle.policy.specs.declared.Field.{Field}
use Rattle.policy.specs.declared.Policy.{Policy}
use Rattle.policy.specs.declared.Built.{Built}
use Rattle.policy.proofs.WellFormed.{obeys, passes, size_rules}
use Rattle.policy.proofs.Accepted.{accepts_region}

pub empty_sound : EmptySound
unfolding policy_ok all
empty_sound =
    record {
      sized =
          record {
            sizes = refl;
            fields = refl;
            places = refl;
          };
      ok = refl;
    }

-- a region more is a target more
more_regions : (n size : ℕ) (f : Field) → FieldRules n size f → FieldRules (n + 1) size f
more_regions n size f w =
    record {
      element_least = w.element_least;
      element_most = w.element_most;
      permission_least = w.permission_least;
      permission_most = w.permission_most;
      count_least = w.count_least;
      aligned = w.aligned;
      inside = w.inside;
      numbers = w.numbers;
      address = λ l. let a = w.address l in record { target = omega (arith, a.target); lo = a.lo; hi = a.hi };
    }

-- the last of n + 1 numbers, or one of the n before it
pub last_or_before : {C : Type 0} (r n : ℕ) → r < n + 1 → (r ≡ n → C) → (r < n → C) → C
last_or_before r n l f g = ⊎_elim f g (eq-or-lt_of_le (below r n l))
  where
    below : (r n : ℕ) → r < n + 1 → r ≤ n
    below r n l = omega arith

module _ (p : Policy) (size : ℕ) (s : Sized p) (a : RegionAccepted p size) where
  abbrev next : Policy
  next = with_region p size

  old : WellFormed p
  old = obeys p a.ok

  last_size : size_of next p.regions.count ≡ size
  last_size = get_or-set_same p.regions.sizes p.regions.count size 0 (omega (arith, s.sizes, a.room))

  last_count : count_of next p.regions.count ≡ 0
  last_count = get_or-set_same p.regions.fields p.regions.count 0 0 (omega (arith, s.fields, a.room))

  module _ (r : ℕ) (l : r < p.regions.count) where
    size_before : size_of next r ≡ size_of p r
    size_before = get_or-set_other p.regions.sizes p.regions.count r size 0 (λ e. omega arith)

    count_before : count_of next r ≡ count_of p r
    count_before = get_or-set_other p.regions.fields p.regions.count r 0 0 (λ e. omega arith)

  same_field : (i : ℕ) → field_at next i ≡ field_at p i
  unfolding field_at
  same_field i = refl

  size_next : (r : ℕ) → r < p.regions.count + 1 → SizeRules (size_of next r)
  size_next r l =
      last_or_before r p.regions.count l
      (λ e. rw (e, last_size) (size_rules size a.size_passes))
      (λ m. rw (size_before r m) (old.size r m))

  count_next : (r : ℕ) → r < p.regions.count + 1 → count_of next r ≤ 16
  count_next r l =
      last_or_before r p.regions.count l
      (λ e. rw (e, last_count) (omega arith))
      (λ m. rw (count_before r m) (old.count_most r m))

  field_next : (r k : ℕ) → r < p.regions.count + 1 → k < count_of next r → FieldRules (p.regions.count + 1) (size_of next r) (field_at next (place_of r k))
  field_next r k l b =
      last_or_before r p.regions.count l
      (λ e. absurd (omega (arith, rw e at b, last_count)))
      (λ m. rw (size_before r m, same_field) (more_regions _ _ _ (old.field r k m (rw (count_before r m) at b))))

  ascending_next : (r k : ℕ) → r < p.regions.count + 1 → k + 1 < count_of next r → field_end (field_at next (place_of r k)) ≤ (field_at next (place_of r (k + 1))).offset.0
  ascending_next r k l b =
      last_or_before r p.regions.count l
      (λ e. absurd (omega (arith, rw e at b, last_count)))
      (λ m. simp same_field (old.ascending r k m (rw (count_before r m) at b)))

  region_next : Sound next
  region_next =
      record {
        sized =
            record {
              sizes = simp length-set s.sizes;
              fields = simp length-set s.fields;
              places = s.places;
            };
        ok =
            passes next
            (record {
              regions_most = omega (arith, a.room);
              size = size_next;
              count_most = count_next;
              field = field_next;
              ascending = ascending_next;
            });
      }

pub region_sound : RegionSound
unfolding built
region_sound p size s =
    cond_both (λ (b : Built). Sound b.policy) (eqb (region_number p size) acceptance)
    (λ t. region_next p size s.sized (accepts_region p size (eqb-true _ _ t)))
    (λ t. s)
