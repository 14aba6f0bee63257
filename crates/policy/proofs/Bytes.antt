-- A byte lies in at most one field of a region. A field that stands before another ends before it begins: by induction on the later
-- one's place, since each field ends where or before the next one begins, and none ends before it begins.
use Prim.Native.Nat.{ℕ, zero, suc, ◌+◌, ◌*◌, ◌≤◌, ◌<◌}
use mathlib.Core.Path.{◌≡◌}
use mathlib.Core.Logic.{⊎_elim}
use native.Mathlib.Nat.{not-suc-le-zero, eq-or-lt_of_le, le_of_suc-le-suc}
use native.Mathlib.Numerals.{add-one}
use native.Mathlib.Omega.{arith}
use Rattle.v8.proofs.Search.{neither_less}
use Rattle.policy.specs.Element.{width_of}
use Rattle.policy.specs.Policy.{count_of, place_of, field_at, field_end}
use Rattle.policy.specs.Laws.{WellFormed, InRegion, InOneField, HeldByOne}
use Rattle.policy.specs.declared.Policy.{Policy}

-- no field ends before it begins
pub begins : (offset width count : ℕ) → offset ≤ offset + width * count
begins offset width count = omega arith

module _ (p : Policy) (w : WellFormed p) (r : ℕ) (l : r < p.regions.count) where
  pub before : (k j : ℕ) → k < j → j < count_of p r → field_end (field_at p (place_of r k)) ≤ (field_at p (place_of r j)).offset.0
  before k zero a b = absurd (not-suc-le-zero a)
  before k (suc i) a b =
      let next = w.ascending r i l (rw add-one b) in
      rw (← add-one i)
      (⊎_elim
      (λ (e : k ≡ i). rw e next)
      (λ (q : k < i).
      let f = field_at p (place_of r i) in
      omega (arith, before k i q (omega arith), begins f.offset.0 (width_of f.element) f.count))
      (eq-or-lt_of_le (le_of_suc-le-suc a)))

pub in-region : InRegion
in-region p w r k b l m i = omega (arith, (w.field r k l m).inside)

pub in_one_field : InOneField
in_one_field p w r k j b l m n x y =
    neither_less k j (λ a. omega (arith, before p w r l k j a n)) (λ a. omega (arith, before p w r l j k a m))

pub held_by_one : HeldByOne
held_by_one p w r k j low end l m n a x y = in_one_field p w r k j low l m n (x.0, omega arith) (y.0, omega arith)
