-- The laws of the run. Each goes by induction on the allowance and by what one step gives.
use Prim.Native.Nat.{ℕ, zero, suc, ◌+◌}
use mathlib.Core.Path.{◌≡◌, refl, sym, ap, ◌∙◌, subst}
use native.Mathlib.Nat.{zero-add, suc-add}
use native.Mathlib.Omega.{arith}
use lib.ListN.{length}
use Rattle.machine_steps.specs.declared.End.{End}
use Rattle.machine_steps.specs.declared.End.TheVariants.{Returned, Spent, Fault, Refused}
use Rattle.step.specs.Setting.{Setting}
use Rattle.step.specs.Step.{State, Step, stopped, next, returned, step_of}
use Rattle.machine_steps.specs.Steps.{after_step, traced_step, walked_step, run_from, trace_from, walk_from, go_on}
use Rattle.machine_steps.specs.Laws.{RunsNothing, RunsOneMore, CountsTrace, SpendsExactly, RunsOn}

pub runs_nothing : RunsNothing
unfolding run_from
runs_nothing s k st = refl

pub runs_one_more : RunsOneMore
unfolding run_from
runs_one_more s n k st = refl

-- one step more is counted before or after
sum : (k n : ℕ) → k + 1 + n ≡ k + suc n
sum k n = omega arith

module _ (s : Setting) where
  counted : (n k : ℕ) (st : State) (x : Step) → ((t : State) → (run_from s n (k + 1) t).outcome.steps ≡ k + 1 + length (trace_from s n t))
      → (after_step k st (run_from s n (k + 1)) x).outcome.steps ≡ k + length (traced_step st (trace_from s n) x)
  counted n k st (stopped f) h = omega arith
  counted n k st (next t) h = h t ∙ sum k (length (trace_from s n t))
  counted n k st (returned c) h = refl

  count : (n k : ℕ) (st : State) → (run_from s n k st).outcome.steps ≡ k + length (trace_from s n st)
  unfolding run_from trace_from
  count zero k st = omega arith
  count (suc n) k st = counted n k st (step_of s st) (count n (k + 1))

pub counts_trace : CountsTrace
counts_trace s n k st = count s n k st

-- neither a fault nor a return is spent
abbrev IsSpent : End → Type 0
IsSpent Returned = ⊥
IsSpent Spent = Unit {0}
IsSpent (Fault f) = ⊥
IsSpent (Refused f) = ⊥

module _ (s : Setting) where
  spent_after : (n k : ℕ) (st : State) (x : Step) → ((t : State) → (run_from s n (k + 1) t).outcome.end ≡ Spent → (run_from s n (k + 1) t).outcome.steps ≡ k + 1 + n)
      → (after_step k st (run_from s n (k + 1)) x).outcome.end ≡ Spent → (after_step k st (run_from s n (k + 1)) x).outcome.steps ≡ k + suc n
  spent_after n k st (stopped f) h e = absurd (subst IsSpent (sym e) tt)
  spent_after n k st (next t) h e = h t e ∙ sum k n
  spent_after n k st (returned c) h e = absurd (subst IsSpent (sym e) tt)

  spent : (n k : ℕ) (st : State) → (run_from s n k st).outcome.end ≡ Spent → (run_from s n k st).outcome.steps ≡ k + n
  unfolding run_from
  spent zero k st e = omega arith
  spent (suc n) k st e = spent_after n k st (step_of s st) (spent n (k + 1)) e

pub spends_exactly : SpendsExactly
spends_exactly s n k st e = spent s n k st e

module _ (s : Setting) (m : ℕ) where
  walked : (n k : ℕ) (st : State) (x : Step) → ((t : State) → run_from s (n + m) (k + 1) t ≡ go_on s m (walk_from s n (k + 1) t))
      → after_step k st (run_from s (n + m) (k + 1)) x ≡ go_on s m (walked_step k st (walk_from s n (k + 1)) x)
  walked n k st (stopped f) h = refl
  walked n k st (next t) h = h t
  walked n k st (returned c) h = refl

  walk : (n k : ℕ) (st : State) → run_from s (n + m) k st ≡ go_on s m (walk_from s n k st)
  unfolding run_from walk_from
  walk zero k st = ap (λ (j : ℕ). run_from s j k st) (zero-add m)
  walk (suc n) k st = ap (λ (j : ℕ). run_from s j k st) (suc-add n m) ∙ walked n k st (step_of s st) (walk n (k + 1))

pub runs_on : RunsOn
runs_on s n m k st = walk s m n k st
