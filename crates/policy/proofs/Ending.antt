-- Where the fields before a field end, one field after the other.
use Prim.Native.Nat.{ℕ, ◌+◌, ◌-◌}
use mathlib.Core.Path.{◌≡◌, refl, sym, ap, ◌∙◌}
use native.Mathlib.Omega.{arith}
use borrow.Author.Tests.{ne_eqb}
use Rattle.policy.specs.Policy.{size_of, place_of, field_at, field_end, end_before, field_follows, field_fits, field_at_ok}
use Rattle.policy.specs.declared.Field.{Field}
use Rattle.policy.specs.declared.Policy.{Policy}

-- before the first there is none
pub end_first : (p : Policy) (r : ℕ) → 0 ≡ end_before p r 0
unfolding end_before field_at
end_first p r = refl

-- before the next, the last one's end
pub end_next : (p : Policy) (r k e : ℕ) (f : Field) → f ≡ field_at p (place_of r k) → e ≡ field_end f → e ≡ end_before p r (k + 1)
unfolding end_before field_at
end_next p r k e f g q = q ∙ ap field_end g ∙ sym (rw (ne_eqb (k + 1) 0 (more k), back k))
  where
    more : (k : ℕ) → k + 1 ≡ 0 → ⊥
    more k e = omega arith

    back : (k : ℕ) → k + 1 - 1 ≡ k
    back k = omega arith

-- the test of a field after those before it is the test of the field in its region
pub follows_is : (p : Policy) (r k end : ℕ) (f : Field) → f ≡ field_at p (place_of r k) → end ≡ end_before p r k
    → field_follows p.regions.count (size_of p r) end f ≡ field_at_ok p r k
unfolding field_at_ok field_fits
follows_is p r k end f e q = rw (e, q)
