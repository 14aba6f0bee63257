-- A run of words that write no register of the caller leaves these as they are: each step changes no register but the one that its word writes.
-- It goes by the words alone, and holds at a fault too.
use Prim.Native.Nat.{ℕ, zero, suc, ◌+◌}
use mathlib.Core.Path.{◌≡◌, refl, sym, ap, ◌∙◌}
use mathlib.Core.Bool.{true, false}
use mathlib.Core.List.{List, [], ◌∷◌}
use Rattle.v8.proofs.Choice.{false_true}
use Rattle.flow_code.specs.Readings.{reading_at}
use Rattle.flow_writes.specs.Written.{written_by, is_callers}
use Rattle.step.specs.declared.Registers.{Registers}
use Rattle.step.specs.Setting.{Setting}
use Rattle.step.specs.Step.{State, Step, stopped, next, returned, step_of}
use Rattle.step.specs.Laws.{Leaves}
use Rattle.step.proofs.NoOther.{writes_no_other}
use Rattle.machine_steps.specs.Steps.{Run, after_step, traced_step, run_from, trace_from}
use Rattle.guarantee.specs.Guarantee.{Each, CallersUnchanged}

unchanged_self : (g : Registers) → CallersUnchanged g g
unchanged_self g r c = (refl, refl)

unchanged_on : (a b c : Registers) → CallersUnchanged a b → CallersUnchanged b c → CallersUnchanged a c
unchanged_on a b c p q r k = ((q r k).0 ∙ (p r k).0, (q r k).1 ∙ (p r k).1)

-- what holds of what a step leaves, and of each state
leaves_on : (P Q : Registers → Type 0) → ((g : Registers) → P g → Q g) → (x : Step) → Leaves P x → Leaves Q x
leaves_on P Q f (stopped n) p = tt
leaves_on P Q f (next st) p = f st.core.registers p
leaves_on P Q f (returned c) p = f c.registers p

each_on : (P Q : State → Type 0) → ((st : State) → P st → Q st) → (trace : List State) → Each P trace → Each Q trace
each_on P Q f [] p = tt
each_on P Q f (st ∷ rest) p = (f st p.0, each_on P Q f rest p.1)

module _ (s : Setting) (away : (w : ℕ) → is_callers (written_by (reading_at s.readings w)) ≡ false) where
  step_leaves : (st : State) → Leaves (CallersUnchanged st.core.registers) (step_of s st)
  step_leaves st =
      leaves_on _ (CallersUnchanged st.core.registers) (λ g p r k. p r (λ e. other r k e)) (step_of s st) (writes_no_other s st)
    where
      other : (r : ℕ) → is_callers r ≡ true → r ≡ written_by (reading_at s.readings st.control.at.0) → ⊥
      other r k e = false_true (sym (away st.control.at.0) ∙ ap is_callers (sym e) ∙ k)

  pub record Untouched (start : State) (run : Run) (trace : List State) : Type 0 where
    pub ended : CallersUnchanged start.core.registers run.outcome.registers
    pub throughout : Each (λ (st : State). CallersUnchanged start.core.registers st.core.registers) trace

  extend : (st : State) (n k : ℕ) → ((u : State) → Untouched u (run_from s n (k + 1) u) (trace_from s n u))
      → (x : Step) → Leaves (CallersUnchanged st.core.registers) x
      → Untouched st (after_step k st (run_from s n (k + 1)) x) (traced_step st (trace_from s n) x)
  extend st n k ih (stopped m) p = record { ended = unchanged_self st.core.registers; throughout = tt }
  extend st n k ih (returned c) p = record { ended = p; throughout = (unchanged_self st.core.registers, tt) }
  extend st n k ih (next u) p =
      let r = ih u in
      let on : (g : Registers) → CallersUnchanged u.core.registers g → CallersUnchanged st.core.registers g =
      λ g. unchanged_on st.core.registers u.core.registers g p in
      record {
        ended = on (run_from s n (k + 1) u).outcome.registers r.ended;
        throughout = (unchanged_self st.core.registers, each_on _ _ (λ v. on v.core.registers) (trace_from s n u) r.throughout);
      }

  pub untouched : (n k : ℕ) (st : State) → Untouched st (run_from s n k st) (trace_from s n st)
  unfolding run_from trace_from
  untouched zero k st = record { ended = unchanged_self st.core.registers; throughout = tt }
  untouched (suc n) k st = extend st n k (untouched n (k + 1)) (step_of s st) (step_leaves st)
