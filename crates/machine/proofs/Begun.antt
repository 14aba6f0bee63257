-- What a run that is not refused has passed, and what a refused run is.
use Prim.Native.Nat.{ℕ, zero, suc, ◌≤◌}
use mathlib.Core.Path.{◌≡◌, refl}
use mathlib.Core.Bool.{true}
use mathlib.Core.List.{List}
use native.Mathlib.Omega.{arith}
use lib.Dec.{ltb}
use lib.ListN.{length}
use borrow.Author.Tests.{ltb-false}
use Rattle.v8.proofs.Choice.{cond_went}
use Rattle.v8.specs.Numbers.{most_words}
use Rattle.policy.specs.declared.Policy.{Policy}
use Rattle.policy.specs.Policy.{policy_ok}
use Rattle.step.specs.declared.Registers.{Registers}
use Rattle.step.specs.Registers.{unset_scratch}
use Rattle.machine_place.specs.Placement.{placed_in}
use Rattle.machine_steps.specs.Steps.{Run}
use Rattle.machine.specs.Run.{refusal_of, refused, run_if}

-- what a run that is not refused has passed
pub record Begun (p : Policy) (words bases : List ℕ) (returns frame : ℕ) (memory : List ℕ) : Type 0 where
  pub ok : policy_ok p ≡ true
  pub some : 1 ≤ length words
  pub most : length words ≤ most_words
  pub placed : placed_in p.regions.count p.regions.sizes bases returns frame memory ≡ true

never : {A : Type 0} {n : ℕ} → suc n ≡ 0 → A
never e = absurd (omega arith)

pub begun : (p : Policy) (words bases : List ℕ) (returns frame : ℕ) (memory : List ℕ) → refusal_of p words bases returns frame memory ≡ 0 → Begun p words bases returns frame memory
unfolding refusal_of
begun p words bases returns frame memory e =
    cond_went (policy_ok p) _ _ _ e
    (λ ok q.
    cond_went (ltb (length words) 1) _ _ _ q (λ t q. never q)
    (λ some q.
    cond_went (ltb most_words (length words)) _ _ _ q (λ t q. never q)
    (λ most q.
    cond_went (placed_in p.regions.count p.regions.sizes bases returns frame memory) _ _ _ q
    (λ placed q. record { ok = ok; some = ltb-false _ _ some; most = ltb-false _ _ most; placed = placed })
    (λ t q. never q))))
    (λ t q. never q)

pub refused_run : (n : ℕ) (run : Run) (g : Registers) (memory : List ℕ) → (n ≡ 0 → ⊥) → run_if n run g memory ≡ refused n (unset_scratch g) memory
refused_run zero run g memory h = absurd (h refl)
refused_run (suc n) run g memory h = refl
