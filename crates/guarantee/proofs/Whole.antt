-- The running guarantee of what is handed in. Acceptance gives a policy that obeys the rules, well formed rows and words that are read; a matching
-- start gives regions that lie as they must, and the invariant at the start; so the run is not refused, and the guarantee holds from there.
use Prim.Native.Nat.{ℕ, ◌*◌, ◌≤◌, ◌<◌}
use mathlib.Core.Path.{◌≡◌, refl, sym, ◌∙◌, subst}
use mathlib.Core.Bool.{Bool, true, false, and-false}
use mathlib.Core.List.{List}
use native.Mathlib.Omega.{arith}
use lib.Dec.{eqb}
use lib.ListN.{length, get_or, set, length-set}
use lib.Seq.{get_or-set_same, get_or-set_other}
use borrow.Author.Tests.{le-ltb, eqb-true, eqb-false}
use Rattle.v8.specs.Numbers.{most_words}
use Rattle.v8.proofs.Search.{needed}
use Rattle.v8.specs.declared.Edition.{Edition}
use Rattle.policy.specs.declared.Policy.{Policy}
use Rattle.policy.specs.Laws.{WellFormed}
use Rattle.policy.proofs.WellFormed.{obeys}
use Rattle.step.specs.declared.Registers.{Registers}
use Rattle.step.specs.Registers.{with_zero, unset_scratch}
use Rattle.step.proofs.ScratchMarks.{scratch_is_unset}
use Rattle.flow_code.proofs.Fetched.{read_count}
use Rattle.flow_code.proofs.Examined.{first_examined}
use Rattle.machine_steps.specs.Steps.{Run, setting_of, run_from, trace_from}
use Rattle.machine.specs.Run.{start_state, refusal_of, run_of}
use Rattle.rows.specs.Geometry.{row_bytes}
use Rattle.rows.specs.Entry.{entry_ok}
use Rattle.rows.specs.Row.{entry_of, entry_formed_as}
use Rattle.rows.specs.Laws.{EntryRules, RowRules}
use Rattle.rows.proofs.RowFitting.{row_fits}
use Rattle.rows.proofs.Obeying.{entry_obeys, row_obeys}
use Rattle.rules.specs.Laws.{Laid}
use Rattle.passes.specs.Answer.{accepted}
use Rattle.passes_shape.specs.Shape.{result_register}
use Rattle.passes.specs.Passes.{row_at, entry_row}
use Rattle.checker.specs.Routine.{Routine, routine_of}
use Rattle.checker.specs.Passes.{check_of}
use Rattle.checker.specs.Laws.{Checked}
use Rattle.checker.proofs.Accepted.{accepts}
use Rattle.guarantee.specs.Guarantee.{host_of, held_of, Words, Start, Guaranteed, RunningGuarantee}
use Rattle.guarantee.specs.Invariant.{CoreOk, Invariant}
use Rattle.guarantee.proofs.Held.{held_small}
use Rattle.guarantee.proofs.Placed.{memory_long, return_aligned, laid}
use Rattle.guarantee.proofs.Numbers.{readings_sound}
use Rattle.guarantee.proofs.Running.{guaranteed}

-- what a run starts with: r0 a set zero, the scratch words unset
pub start_words : (g : Registers) → Words g → Words (unset_scratch (with_zero g))
start_words g w =
    record {
      values = length-set g.values 0 0 ∙ w.values;
      marks = (scratch_is_unset (with_zero g)).marks ∙ length-set g.marks 0 true ∙ w.marks;
      small = λ r. at r (eqb r 0) refl;
    }
  where
    at : (r : ℕ) (t : Bool) → eqb r 0 ≡ t → get_or (set g.values 0 0) r 0 < 4294967296
    at r true t = rw (eqb-true r 0 t, get_or-set_same g.values 0 0 0 (subst (λ (k : ℕ). 0 < k) (sym w.values) (omega arith))) (omega arith)
    at r false t = rw (get_or-set_other g.values 0 r 0 0 (eqb-false r 0 t)) (w.small r)

module _ (e : Edition) (p : Policy) (words rows entry result : List ℕ) (a : check_of e p words rows entry result ≡ accepted) where
  abbrev t : Routine
  t = routine_of e p words rows entry result

  checked : Checked (routine_of e p words rows entry result)
  checked = accepts e p words rows entry result a

  wf : WellFormed p
  wf = obeys p checked.policy

  result_top : (entry_of result 0).set.hi < 4294967296
  unfolding entry_of
  result_top = omega arith

  result_rules : EntryRules p.regions.count p.regions.sizes (entry_of result 0)
  result_rules =
      entry_obeys p.regions.count p.regions.sizes (entry_of result 0) result_top
      (needed (entry_formed_as p.regions.count p.regions.sizes result 0 result_register) (entry_ok p.regions.count p.regions.sizes (entry_of result 0)) checked.result_formed
      (λ f. rw (f, and-false)))

  module _ (bases : List ℕ) (returns frame : ℕ) (g : Registers) (memory : List ℕ) (start : Start p entry bases returns frame g memory) where
    -- the run is not refused
    not_refused : refusal_of p words bases returns frame memory ≡ 0
    unfolding refusal_of
    not_refused =
        rw (
          checked.policy,
          le-ltb (length words) 1 (subst (λ (n : ℕ). 1 ≤ n) (read_count e words) checked.some),
          le-ltb most_words (length words) (subst (λ (n : ℕ). n ≤ most_words) (read_count e words) checked.most),
          start.placed,
        )

    is_laid : Laid p.regions.count p.regions.sizes (host_of bases returns frame)
    is_laid = laid p.regions.count p.regions.sizes bases returns frame memory start.placed wf.regions_most

    core_ok : CoreOk p (host_of bases returns frame) (start_state g memory).core
    core_ok =
        record {
          words = start_words g start.words;
          bytes = start.bytes;
          long = memory_long p.regions.count p.regions.sizes bases returns frame memory start.placed;
          declared = start.fields;
        }

    row_rules : RowRules p.regions.count p.regions.sizes (row_at rows 0)
    row_rules = row_obeys p.regions.count p.regions.sizes rows (row_bytes * 0) (checked.rows_formed 0 checked.some)

    -- the invariant holds at the start
    pub invariant_start : Invariant (routine_of e p words rows entry result) (host_of bases returns frame) (start_state g memory)
    invariant_start =
        record {
          core = core_ok;
          ready =
              record {
                inside = checked.some;
                free = first_examined t.readings;
                fitted =
                    record {
                      rules = row_rules;
                      matches = row_fits (host_of bases returns frame) p.regions.count p.regions.sizes (entry_row entry) (row_at rows 0) (held_of p (start_state g memory).core)
                          (held_small p (start_state g memory).core (start_words g start.words) start.bytes) (row_obeys p.regions.count p.regions.sizes entry 0 checked.entry-formed) row_rules
                          checked.entry start.row;
                    };
              };
        }

    runs : (allowance : ℕ) → run_of e p words bases returns frame g allowance memory ≡ run_from (setting_of e p words bases returns frame) allowance 0 (start_state g memory)
    unfolding run_of
    runs allowance = rw not_refused

    whole : (allowance : ℕ) → Guaranteed p (entry_of result 0) (setting_of e p words bases returns frame) (host_of bases returns frame) (start_state g memory) allowance
        (run_from (setting_of e p words bases returns frame) allowance 0 (start_state g memory)) (trace_from (setting_of e p words bases returns frame) allowance (start_state g memory))
    whole allowance =
        guaranteed (routine_of e p words rows entry result) bases returns frame wf is_laid (return_aligned p.regions.count p.regions.sizes bases returns frame memory start.placed) checked
        (readings_sound e words) result_rules allowance (start_state g memory) invariant_start

pub running_guarantee : RunningGuarantee
running_guarantee e p words rows entry result a bases returns frame g memory start allowance =
    subst (λ (r : Run). Guaranteed p (entry_of result 0) (setting_of e p words bases returns frame) (host_of bases returns frame) (start_state g memory) allowance r
    (trace_from (setting_of e p words bases returns frame) allowance (start_state g memory)))
    (sym (runs e p words rows entry result a bases returns frame g memory start allowance)) (whole e p words rows entry result a bases returns frame g memory start allowance)
