-- Every state that a run comes to is as listed: word 0 takes in the entry row's kinds, which hold of a start that matches the row, and each step
-- keeps what holds.
use Prim.Native.Nat.{ℕ, zero, suc, ◌+◌, ◌<◌}
use mathlib.Core.Path.{◌≡◌, refl, sym, ◌∙◌, subst}
use mathlib.Core.Bool.{Bool, true, false}
use mathlib.Core.List.{List, [], ◌∷◌}
use native.Mathlib.Omega.{arith}
use lib.Dec.{ltb, eqb}
use lib.ListN.{length}
use borrow.Author.Tests.{ltb-true, ltb-false, eqb-false, eq-eqb}
use Rattle.v8.specs.declared.Reading.{Reading}
use Rattle.v8.proofs.Choice.{cond_both}
use Rattle.flow_code.specs.Readings.{readings_of}
use Rattle.flow_code.proofs.Fetched.{read_count}
use Rattle.flow_code.proofs.Examined.{first_examined}
use Rattle.flow.specs.Laws.{Flowing}
use Rattle.v8.specs.declared.Edition.{Edition}
use Rattle.policy.specs.declared.Policy.{Policy}
use Rattle.access.specs.Layout.{Layout, layout_of}
use Rattle.step.specs.declared.Registers.{Registers}
use Rattle.step.specs.Registers.{value_of, is_set, with_zero, unset_scratch}
use Rattle.step.specs.Effect.{Core}
use Rattle.step.specs.Setting.{Setting}
use Rattle.step.specs.Step.{State, Step, stopped, next, returned, step_of}
use Rattle.machine_steps.specs.Steps.{Walk, going, over, setting_of, traced_step, trace_from, walked_step, walk_from}
use Rattle.machine.specs.Run.{start_state}
use Rattle.rows.specs.declared.Entry.{Entry}
use Rattle.rows.specs.Geometry.{entry_start}
use Rattle.rows.specs.Row.{entry_of, row_of}
use Rattle.rows.specs.Matches.{Host, Holds, Matches, RowMatches}
use Rattle.rows.proofs.ReadRows.{entry_read_lem}
use Rattle.rows.proofs.ByKind.{held_start, held_return}
use Rattle.passes.specs.Answer.{passes, pass_of}
use Rattle.passes.specs.Passes.{flow_pass}
use Rattle.passes.proofs.Accepting.{each_passes, flow_holds}
use Rattle.guarantee.specs.Guarantee.{host_of, value_at, mark_at, held_of, Words, Each}
use Rattle.guarantee.proofs.Held.{register_value, register_mark}
use Rattle.guarantee.proofs.Whole.{start_words}
use Rattle.marks.specs.Marks.{register_count, mark_of_kind, mark_of}
use Rattle.marks.proofs.Values.{values_length}
use Rattle.lister_rules.specs.Rules.{entry_marks}
use Rattle.lister.specs.Listing.{listing_of}
use Rattle.lister_rules.proofs.Places.{mark_out, mark_by, mark_there}
use Rattle.lister.proofs.Smallest.{closed_entry, listing_closed}
use Rattle.meanings.specs.Meaning.{MarkHolds, AsListed, RunsAsListed, StandsAsListed}
use Rattle.meanings.proofs.Holding.{unset_holds}
use Rattle.meanings.proofs.Agreeing.{Agrees}
use Rattle.meanings.proofs.Stepping.{taken_agrees, Listed, Keeps, ready_agrees, step_keeps}

-- each word that the flow pass accepts flows
flowing : (readings : List Reading) → passes (pass_of (flow_pass readings) (length readings)) ≡ true → Flowing readings
flowing readings e w l = flow_holds readings w (each_passes (flow_pass readings) (length readings) e w l)

module _ (h : Host) (entry : List ℕ) where
  -- the kind of an entry of the entry row holds of what matches the entry
  kind_holds : (r : ℕ) → r < register_count → (s : Bool) (v : ℕ) → Matches h (entry_of entry (entry_start 0 r)) s v
      → MarkHolds h entry (mark_of_kind (entry_of entry (entry_start 0 r)).kind) s v
  kind_holds r l s v m =
      cond_both (λ (k : ℕ). MarkHolds h entry k s v) (eqb (entry_of entry (entry_start 0 r)).kind 0) (λ _. unset_holds h entry s v)
      (λ e. record {
        reached = λ q. eqb-false (entry_of entry (entry_start 0 r)).kind 0 e q;
        known = λ _. (m e).0;
        start = λ q. record {
          register = r;
          below = l;
          kind = q;
          value = held_start (eq-eqb (entry_of entry (entry_start 0 r)).kind 3 q) (m e).1;
        };
        returns = λ q. held_return (eq-eqb (entry_of entry (entry_start 0 r)).kind 4 q) (m e).1;
      })

  -- registers that match the entry row agree with its kinds
  entry_agrees : (p : Policy) (c : Core) → Words c.registers → RowMatches h (row_of entry 0) (held_of p c) → Agrees h entry (entry_marks entry) c.registers
  unfolding entry_marks
  entry_agrees p c w m =
      record {
        values = w.values;
        marked = w.marks;
        listed = values_length (λ (r : ℕ). mark_of_kind (entry_of entry (entry_start 0 r)).kind) 0 register_count;
        each = λ r. at r (ltb r register_count) refl;
      }
    where
      g : Registers
      g = c.registers

      at : (r : ℕ) (t : Bool) → ltb r register_count ≡ t → MarkHolds h entry (mark_of (entry_marks entry) r) (is_set g r) (value_of g r)
      at r true e =
          let l = ltb-true r register_count e in
          rw (mark_by (λ (q : ℕ). mark_of_kind (entry_of entry (entry_start 0 q)).kind) r l)
          (kind_holds r l (is_set g r) (value_of g r)
          (λ u. let k = subst (λ (x : Entry). Matches h x (mark_at c r) (value_at p c r)) (entry_read_lem entry 0 r (omega arith)) (m.entries r) u in
          (sym (register_mark p c r l) ∙ k.0, subst (Holds h (entry_of entry (entry_start 0 r))) (register_value p c r l) k.1)))
      at r false e = rw (mark_out (entry_marks entry) r (ltb-false r register_count e)) (unset_holds h entry (is_set g r) (value_of g r))

  module _ (l : Layout) (returns : ℕ) (readings : List Reading) (ok : Flowing readings) where
    abbrev s : Setting
    s = record { layout = l; readings = readings; returns = returns }

    abbrev listing : List ℕ
    listing = listing_of readings entry

    -- what holds at the start, if there is a word
    start_listed : (p : Policy) (g : Registers) (memory : List ℕ) → Words g → RowMatches h (row_of entry 0) (held_of p (start_state g memory).core) → 0 < length readings
        → Listed h l returns readings entry (start_state g memory)
    start_listed p g memory w m i =
        record {
          inside = i;
          free = first_examined readings;
          agrees = taken_agrees h l returns readings entry 0 (entry_marks entry) (unset_scratch (with_zero g)) i (closed_entry readings entry listing (listing_closed readings entry))
              (entry_agrees p (start_state g memory).core (start_words g w) m);
        }

    as_listed : (st : State) → Listed h l returns readings entry st → AsListed h entry listing st
    as_listed st i r b =
        subst (λ (k : ℕ). MarkHolds h entry k (is_set st.core.registers r) (value_of st.core.registers r)) (mark_there listing st.control.at.0 r b)
        ((ready_agrees h l returns readings entry st.control.at.0 st.core st.control.pending i).each r)

    -- the states of a trace
    traced-step : (st : State) (n : ℕ) → AsListed h entry listing st
        → ((u : State) → Listed h l returns readings entry u → Each (AsListed h entry listing) (trace_from s n u))
        → (x : Step) → Keeps h l returns readings entry x → Each (AsListed h entry listing) (traced_step st (trace_from s n) x)
    traced-step st n a ih (stopped f) k = tt
    traced-step st n a ih (next u) k = (a, ih u k)
    traced-step st n a ih (returned c) k = (a, tt)

    traced : (n : ℕ) (st : State) → Listed h l returns readings entry st → Each (AsListed h entry listing) (trace_from s n st)
    unfolding trace_from
    traced zero st i = tt
    traced (suc n) st i = traced-step st n (as_listed st i) (traced n) (step_of s st) (step_keeps h l returns readings entry ok st i)

    -- the state that n steps lead to
    abbrev WalkListed : Walk → Type 0
    WalkListed (going k st) = AsListed h entry listing st
    WalkListed (over r) = Unit {0}

    walked_step_lem : (st : State) (n k : ℕ) → ((u : State) → Listed h l returns readings entry u → WalkListed (walk_from s n (k + 1) u))
        → (x : Step) → Keeps h l returns readings entry x → WalkListed (walked_step k st (walk_from s n (k + 1)) x)
    walked_step_lem st n k ih (stopped f) i = tt
    walked_step_lem st n k ih (next u) i = ih u i
    walked_step_lem st n k ih (returned c) i = tt

    walked : (n k : ℕ) (st : State) → Listed h l returns readings entry st → WalkListed (walk_from s n k st)
    unfolding walk_from
    walked zero k st i = as_listed st i
    walked (suc n) k st i = walked_step_lem st n k (walked n (k + 1)) (step_of s st) (step_keeps h l returns readings entry ok st i)

-- a run of no words has no trace
no_trace : (e : Edition) (p : Policy) (bases : List ℕ) (returns frame : ℕ) (g : Registers) (memory : List ℕ) (n : ℕ)
    → trace_from (setting_of e p [] bases returns frame) n (start_state g memory) ≡ []
unfolding trace_from step_of
no_trace e p bases returns frame g memory zero = refl
no_trace e p bases returns frame g memory (suc n) = refl

pub runs_as_listed : RunsAsListed
runs_as_listed e p [] entry bases returns frame g memory b allowance =
    subst (Each (AsListed (host_of bases returns frame) entry (listing_of (readings_of e []) entry))) (sym (no_trace e p bases returns frame g memory allowance)) tt
runs_as_listed e p (x ∷ xs) entry bases returns frame g memory b allowance =
    traced (host_of bases returns frame) entry (layout_of p bases frame) returns (readings_of e (x ∷ xs)) (flowing (readings_of e (x ∷ xs)) b.flows) allowance (start_state g memory)
    (start_listed (host_of bases returns frame) entry (layout_of p bases frame) returns (readings_of e (x ∷ xs)) (flowing (readings_of e (x ∷ xs)) b.flows) p g memory b.registers b.row (omega arith))

pub stands_as_listed : StandsAsListed
stands_as_listed e p words entry bases returns frame g memory b some n k st q =
    subst (WalkListed (host_of bases returns frame) entry (layout_of p bases frame) returns (readings_of e words) (flowing (readings_of e words) b.flows)) q
    (walked (host_of bases returns frame) entry (layout_of p bases frame) returns (readings_of e words) (flowing (readings_of e words) b.flows) n 0 (start_state g memory)
    (start_listed (host_of bases returns frame) entry (layout_of p bases frame) returns (readings_of e words) (flowing (readings_of e words) b.flows) p g memory b.registers b.row
    (omega (arith, some, read_count e words))))
