-- Marks that hold of a register. A mark that is raised says less; number, address and unset say nothing of the value, and they are all that is
-- made of marks, but for copies.
use Prim.Native.Nat.{ℕ}
use mathlib.Core.Path.{◌≡◌, refl, sym, subst}
use mathlib.Core.Bool.{Bool, true, ◌||◌}
use mathlib.Core.List.{List}
use native.Mathlib.Omega.{arith}
use Rattle.v8.proofs.Choice.{cond_both}
use Rattle.v8.specs.declared.LoadOp.{LoadOp}
use Rattle.v8.specs.declared.LoadOp.TheVariants.{Ld, Ldub, Lduh, Ldsb, Ldsh}
use Rattle.rows.specs.Matches.{Host}
use Rattle.marks.specs.Marks.{not_reached, number, address, address_or_null, return_address, unset, AtMost}
use Rattle.marks.specs.Effect.{both, of_numbers, sum_mark, difference_mark, load_mark}
use Rattle.marks.proofs.Order.{at_most_ways}
use Rattle.meanings.specs.Meaning.{MarkHolds}

module _ (h : Host) (entry : List ℕ) where
  -- a mark that says nothing of the value
  value_free : (k : ℕ) (s : Bool) (v : ℕ) → (k ≡ not_reached → ⊥) → (k ≡ address_or_null → ⊥) → (k ≡ return_address → ⊥)
      → ((k ≡ unset → ⊥) → s ≡ true) → MarkHolds h entry k s v
  value_free k s v none start back known = record { reached = none; known = known; start = λ e. absurd (start e); returns = λ e. absurd (back e) }

  pub unset_holds : (s : Bool) (v : ℕ) → MarkHolds h entry unset s v
  unset_holds s v = value_free unset s v (λ e. omega (arith, e)) (λ e. omega (arith, e)) (λ e. omega (arith, e)) (λ n. absurd (n refl))

  pub number_holds : (v : ℕ) → MarkHolds h entry number true v
  number_holds v = value_free number true v (λ e. omega (arith, e)) (λ e. omega (arith, e)) (λ e. omega (arith, e)) (λ n. refl)

  address_holds : (v : ℕ) → MarkHolds h entry address true v
  address_holds v = value_free address true v (λ e. omega (arith, e)) (λ e. omega (arith, e)) (λ e. omega (arith, e)) (λ n. refl)

  -- a mark that is raised
  pub raised_holds : (a b : ℕ) (s : Bool) (v : ℕ) → AtMost a b → MarkHolds h entry a s v → MarkHolds h entry b s v
  raised_holds a b s v p m =
      at_most_ways a b p
      (λ e. absurd (m.reached e))
      (λ e. subst (λ (k : ℕ). MarkHolds h entry k s v) e m)
      (λ e. subst (λ (k : ℕ). MarkHolds h entry k s v) (sym e) (unset_holds s v))

  -- what is made of two marks, and what is loaded
  pub numbers_hold : (a b v : ℕ) → MarkHolds h entry (of_numbers a b) true v
  unfolding of_numbers
  numbers_hold a b v = cond_both (λ (k : ℕ). MarkHolds h entry k true v) (both a b number number) (λ _. number_holds v) (λ _. unset_holds true v)

  pub sum_holds : (a b v : ℕ) → MarkHolds h entry (sum_mark a b) true v
  unfolding sum_mark
  sum_holds a b v =
      cond_both (λ (k : ℕ). MarkHolds h entry k true v) (both a b address number || both a b number address) (λ _. address_holds v) (λ _. numbers_hold a b v)

  pub difference_holds : (a b v : ℕ) → MarkHolds h entry (difference_mark a b) true v
  unfolding difference_mark
  difference_holds a b v = cond_both (λ (k : ℕ). MarkHolds h entry k true v) (both a b address number) (λ _. address_holds v) (λ _. numbers_hold a b v)

  pub load_holds : (op : LoadOp) (v : ℕ) → MarkHolds h entry (load_mark op) true v
  load_holds Ld v = unset_holds true v
  load_holds Ldub v = number_holds v
  load_holds Lduh v = number_holds v
  load_holds Ldsb v = number_holds v
  load_holds Ldsh v = number_holds v
