-- The guarantee from any state that satisfies the invariant, by induction on the allowance: with none left the run stands where it is; one step
-- leads to such a state or returns, and what is claimed of the rest of the run is, with that step before it, claimed of the whole.
use Prim.Native.Nat.{ℕ, zero, suc, ◌+◌, ◌%◌}
use mathlib.Core.Path.{◌≡◌, refl, ◌∙◌}
use mathlib.Core.List.{List}
use native.Mathlib.Nat.{zero-add}
use lib.ListN.{length}
use Rattle.v8.specs.Laws.{ReadingSound}
use Rattle.policy.specs.declared.Policy.{Policy}
use Rattle.policy.specs.Laws.{WellFormed}
use Rattle.access.specs.Layout.{layout_of}
use Rattle.flow_code.specs.Readings.{reading_at}
use Rattle.flow.proofs.Leaving.{leaves_everywhere}
use Rattle.step.specs.Setting.{Setting}
use Rattle.step.specs.Step.{State, Step, stopped, next, returned, step_of}
use Rattle.machine_steps.specs.Steps.{Run, after_step, traced_step, run_from, trace_from}
use Rattle.machine_steps.proofs.RunLaws.{counts_trace, spends_exactly}
use Rattle.rows.specs.Matches.{Host}
use Rattle.rows.specs.Laws.{EntryRules}
use Rattle.rules.specs.Laws.{Laid}
use Rattle.checker.specs.Routine.{Routine, result_entry}
use Rattle.checker.specs.Laws.{Checked}
use Rattle.guarantee.specs.Fields.{Declared, Framed}
use Rattle.guarantee.specs.Guarantee.{host_of, EndsWell, Follows, halts, goes, leaves, core_left, Each, StepSafe, Guaranteed}
use Rattle.guarantee.specs.Invariant.{Invariant, StepGood}
use Rattle.guarantee.proofs.Computed.{framed_self}
use Rattle.guarantee.proofs.Callers.{untouched}
use Rattle.guarantee.proofs.Stepping.{step_sound}

framed_on : (p : Policy) (a b c : List ℕ) → Framed p a b → Framed p b c → Framed p a c
framed_on p a b c f g =
    record { length_kept = g.length_kept ∙ f.length_kept; bytes_kept = λ i o s. g.bytes_kept i o s ∙ f.bytes_kept i o s }

module _ (t : Routine) (bases : List ℕ) (returns frame : ℕ) (wf : WellFormed t.policy) (laid : Laid t.policy.regions.count t.policy.regions.sizes (host_of bases returns frame))
    (four : returns % 4 ≡ 0) (ch : Checked t) (sound : (w : ℕ) → ReadingSound (reading_at t.readings w))
    (result : EntryRules t.policy.regions.count t.policy.regions.sizes (result_entry t.result)) where
  abbrev h : Host
  h = host_of bases returns frame

  abbrev s : Setting
  s = record { layout = layout_of t.policy bases frame; readings = t.readings; returns = returns }

  -- what is claimed of a run, but for the count of its steps
  record Claimed (start : State) (run : Run) (trace : List State) : Type 0 where
    ends : EndsWell h (result_entry t.result) run.outcome.registers run.outcome.end
    follows : Follows s start trace run.outcome.end (core_left run)
    safe : Each (StepSafe t.policy h s) trace
    declared : Declared t.policy h run.memory
    framed : Framed t.policy start.core.memory run.memory

  extend : (st : State) (n k : ℕ) → StepSafe t.policy h s st
      → ((u : State) → Invariant t h u → Claimed u (run_from s n (k + 1) u) (trace_from s n u))
      → (x : Step) → step_of s st ≡ x → StepGood t h st.core x
      → Claimed st (after_step k st (run_from s n (k + 1)) x) (traced_step st (trace_from s n) x)
  extend st n k safe ih (stopped m) q g = absurd g
  extend st n k safe ih (returned c) q g =
      record { ends = g.result; follows = leaves q; safe = (safe, tt); declared = g.core.declared; framed = g.framed }
  extend st n k safe ih (next u) q g =
      let r = ih u g.invariant in
      record {
        ends = r.ends;
        follows = goes q r.follows;
        safe = (safe, r.safe);
        declared = r.declared;
        framed = framed_on t.policy st.core.memory u.core.memory (run_from s n (k + 1) u).memory g.framed r.framed;
      }

  claimed : (n k : ℕ) (st : State) → Invariant t h st → Claimed st (run_from s n k st) (trace_from s n st)
  unfolding run_from trace_from
  claimed zero k st i =
      record { ends = tt; follows = halts; safe = tt; declared = i.core.declared; framed = framed_self t.policy st.core.memory }
  claimed (suc n) k st i =
      let g = step_sound t bases returns frame wf laid four ch sound result st i in
      extend st n k g.0 (claimed n (k + 1)) (step_of s st) refl g.1

  -- the guarantee from any state of the invariant
  pub guaranteed : (n : ℕ) (st : State) → Invariant t h st → Guaranteed t.policy (result_entry t.result) s h st n (run_from s n 0 st) (trace_from s n st)
  guaranteed n st i =
      let r = claimed n 0 st i in
      let c = untouched s (leaves_everywhere t.readings ch.leaves) n 0 st in
      record {
        ends = r.ends;
        steps = counts_trace s n 0 st ∙ zero-add (length (trace_from s n st));
        spent = λ e. spends_exactly s n 0 st e ∙ zero-add n;
        follows = r.follows;
        safe = r.safe;
        declared = r.declared;
        framed = r.framed;
        callers = c.ended;
        callers_throughout = c.throughout;
      }
