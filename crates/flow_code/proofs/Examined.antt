-- The words are marked in two rounds. In the first, by the word before it, whether a word is outside slots: after i of them the array tells it at
-- every index below i. In the second each word marks the one that its taken edge lands on: after i of them the array has, at every word, whether it
-- is outside slots or one of those i lands on it; after all, whether it is examined.
use Prim.Native.Nat.{ℕ, ◌+◌, ◌-◌, ◌<◌, ◌≤◌}
use mathlib.Core.Path.{◌≡◌, refl, sym, ap, ◌∙◌}
use mathlib.Core.Bool.{Bool, true, false, not, ◌||◌, or-true, or-false}
use mathlib.Core.List.{List, ◌∷◌}
use native.Mathlib.Omega.{arith}
use lib.Dec.{eqb}
use lib.ListN.{length, get_or, set}
use lib.Seq.{get_or-set_same, get_or-set_other}
use borrow.Author.Tests.{eqb-true, eqb-false, ne_eqb}
use Rattle.v8.specs.Search.{any}
use Rattle.v8.specs.declared.Reading.{Reading}
use Rattle.v8.proofs.Search.{any_none, any_more, any_at}
use Rattle.flow_code.specs.Readings.{reading_at, transfers, lands_on, is_slot, is_target, examined}
use Rattle.flow_code.specs.Lent.{Outside, Examines, Adds}

module _ (readings : List Reading) where
  -- a word that is no slot is examined
  pub free_examined : (w : ℕ) → is_slot readings w ≡ false → examined readings w ≡ true
  free_examined w e = rw e

  -- so is one that a taken edge lands on
  targeted : (v w : ℕ) → v < length readings → lands_on v (reading_at readings v) w ≡ true → is_target readings w ≡ true
  unfolding is_target
  targeted v w l e = any_at (λ u. lands_on u (reading_at readings u) w) (length readings) v l e

  pub target_examined : (v w : ℕ) → v < length readings → lands_on v (reading_at readings v) w ≡ true → examined readings w ≡ true
  target_examined v w l e = rw (targeted v w l e, or-true)

  -- word 0 is no slot
  pub first_free : is_slot readings 0 ≡ false
  unfolding is_slot
  first_free = refl

  pub first_examined : examined readings 0 ≡ true
  first_examined = free_examined 0 first_free

  -- a word follows a transfer exactly if it is a slot
  pub slot_next : (w : ℕ) → is_slot readings (w + 1) ≡ transfers (reading_at readings w)
  unfolding is_slot
  slot_next w = rw (ne_eqb (w + 1) 0 (more w), back w)
    where
      more : (w : ℕ) → w + 1 ≡ 0 → ⊥
      more w e = omega arith

      back : (w : ℕ) → w + 1 - 1 ≡ w
      back w = omega arith

-- the first i words are marked
abbrev pub Marked : List Reading → List Bool → ℕ → Type 0
Marked readings marks i = (w : ℕ) → w < i → get_or marks w false ≡ not (is_slot readings w)

pub first_marked : (readings : List Reading) (marks : List Bool) → Marked readings (true ∷ marks) 1
unfolding is_slot
first_marked readings marks w l = rw (none w l)
  where
    none : (w : ℕ) → w < 1 → w ≡ 0
    none w l = omega arith

pub one_marked : (readings : List Reading) (marks : List Bool) (i : ℕ) (t : Bool) → Marked readings marks i → i < length marks → 1 ≤ i
    → t ≡ transfers (reading_at readings (i - 1)) → Marked readings (set marks i (not t)) (i + 1)
one_marked readings marks i t f h l e w b = here (eqb w i) refl
  where
    on : (i : ℕ) → 1 ≤ i → i ≡ i - 1 + 1
    on i l = omega arith

    slot : is_slot readings i ≡ t
    slot = ap (is_slot readings) (on i l) ∙ slot_next readings (i - 1) ∙ sym e

    here : (u : Bool) → eqb w i ≡ u → get_or (set marks i (not t)) w false ≡ not (is_slot readings w)
    here true q = rw (eqb-true w i q, slot) (get_or-set_same marks i (not t) false h)
    here false q = get_or-set_other marks i w (not t) false (eqb-false w i q) ∙ f w (omega (arith, eqb-false w i q))

-- one number more passes, or something else does
more : (free : Bool) (f : ℕ → Bool) (i : ℕ) → (free || any f i) || f i ≡ free || any f (i + 1)
more true f i = refl
more false f i = sym (any_more f i)

module _ (readings : List Reading) where
  -- which words land on word w
  abbrev lands : ℕ → ℕ → Bool
  lands w v = lands_on v (reading_at readings v) w

  -- the taken edges of the first i words are marked
  abbrev pub Targeted : List Bool → ℕ → Type 0
  Targeted marks i = (w : ℕ) → w < length readings → get_or marks w false ≡ not (is_slot readings w) || any (lands w) i

  pub none_targeted : (marks : List Bool) → Outside marks readings → Targeted marks 0
  none_targeted marks o w l = rw (any_none (lands w), or-false) (o w l)

  pub one_targeted : (marks after : List Bool) (i : ℕ) (x : Reading) → Targeted marks i → length readings ≤ length marks → x ≡ reading_at readings i
      → Adds marks after (lands_on i x) → Targeted after (i + 1)
  one_targeted marks after i x t long e a w l =
      a.each w (omega (arith, l, long))
      ∙ ap (λ (b : Bool). b || lands_on i x w) (t w l)
      ∙ ap (λ (y : Reading). (free || any (lands w) i) || lands_on i y w) e
      ∙ more free (lands w) i
    where
      free : Bool
      free = not (is_slot readings w)

  pub all_targeted : (marks : List Bool) (i : ℕ) → Targeted marks i → i ≡ length readings → Examines marks readings
  unfolding is_target
  all_targeted marks i t e w l = t w l ∙ rw e
