-- What tests that passed say: one of two is enough; and an entry has one kind.
use Prim.Native.Nat.{ℕ}
use mathlib.Core.Path.{◌≡◌, refl, sym, ◌∙◌}
use mathlib.Core.Bool.{Bool, true, false, ◌||◌}
use lib.Dec.{eqb}
use borrow.Author.Tests.{eqb-true, ne_eqb}

pub true_or : (a b : Bool) → a ≡ true → a || b ≡ true
true_or a b e = rw e

pub or-true : (a b : Bool) → b ≡ true → a || b ≡ true
or-true true b e = refl
or-true false b e = e

-- one number is not two
pub one_kind : {C : Type 0} (k a b : ℕ) → eqb k a ≡ true → eqb k b ≡ true → (a ≡ b → ⊥) → C
one_kind k a b p q ne = absurd (ne (sym (eqb-true k a p) ∙ eqb-true k b q))

pub other_kind : (k a b : ℕ) → eqb k a ≡ true → (a ≡ b → ⊥) → eqb k b ≡ false
other_kind k a b p ne = ne_eqb k b (λ q. ne (sym (eqb-true k a p) ∙ q))
