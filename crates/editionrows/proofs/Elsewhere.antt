-- The routine of Elsewhere.antt: the check's passes, the start's tests and the runs on both terminals are computed from the definitions, and the
-- guarantee is not for a run on a terminal that the check was not told.
use mathlib.Core.Path.{◌≡◌, refl, sym}
use mathlib.Core.List.{[]}
use native.Mathlib.Omega.{arith}
use Rattle.v8.specs.declared.Edition.TheVariants.{V8, V9}
use Rattle.v8.specs.Signed.{sign_extend}
use Rattle.v8.specs.Search.{all, any, lowest, first}
use Rattle.v8.specs.Read.{reading_of, format00, format10, operand_of}
use Rattle.v8.proofs.Choice.{false_true}
use Rattle.alu.specs.Condition.{cond_holds, condition_of}
use Rattle.flow_edges.specs.Transfer.{slot_runs, target_of}
use Rattle.flow_code.specs.Readings.{is_slot, is_target}
use Rattle.policy.specs.Policy.{policy_ok}
use Rattle.memory.specs.Place.{part_start}
use Rattle.step.specs.Registers.{value_in, set_in, values_with, marks_with}
use Rattle.step.specs.Step.{step_of}
use Rattle.machine_place.specs.Placement.{disjoint_in, placed_in}
use Rattle.machine.specs.Run.{start_state, refusal_of, run_of}
use Rattle.machine_steps.specs.Steps.{run_from}
use Rattle.sets.specs.Sets.{set_ok, fits_set}
use Rattle.sets_narrow.specs.Narrow.{is_member}
use Rattle.rows.specs.Entry.{size_in, entry_ok, fits, note_ok, fits_note}
use Rattle.rows.specs.Flaw.{flaw_from}
use Rattle.rows.specs.Row.{entry_at, entries_with, entry_of, note_of, row_of, scratch_unset, fits_at, misfit}
use Rattle.rows.specs.Matches.{Host, RowMatches}
use Rattle.rules.specs.Change.{note_after, branch_change, return_change}
use Rattle.rules.specs.Narrow.{narrow_row}
use Rattle.passes.specs.Answer.{accepted, pass_of}
use Rattle.passes.specs.Passes.{read_pass, flow_pass, entry_pass}
use Rattle.checker.specs.Passes.{cross, narrowed_edge, word_pass, check_of}
use Rattle.guarantee.specs.Guarantee.{host_of, value_at, mark_at, held_of, Start}
use Rattle.claims.proofs.Computed.{check-from}
use Rattle.claims.proofs.Matching.{below, registers_match, fields_hold}
use Rattle.editionrows.specs.Elsewhere.{GuaranteedElsewhere, words, policy, entry, rows, result, returns, frame, registers, memory, Elsewhere}

abbrev host : Host
host = host_of [] returns frame

accepts : check_of V9 policy words rows entry result ≡ accepted
unfolding reading_of format00 format10 operand_of sign_extend condition_of lowest first all any policy_ok slot_runs target_of is_slot is_target set_ok fits_set size_in entry_ok fits note_ok fits_note entry_at entries_with entry_of note_of row_of flaw_from scratch_unset fits_at misfit note_after branch_change return_change narrow_row pass_of read_pass flow_pass entry_pass cross narrowed_edge word_pass
accepts = check-from V9 policy words rows entry result

row_matches : RowMatches host (row_of entry 0) (held_of policy (start_state registers memory).core)
unfolding all row_of entry_of note_of entry_at value_in set_in is_member value_at mark_at part_start
row_matches =
    record {
      entries = registers_match host (row_of entry 0) (held_of policy (start_state registers memory).core) refl;
      note = record { coded = λ e. false_true (sym e); compared = λ e. false_true e };
    }

start_matches : Start policy entry [] returns frame registers memory
unfolding all disjoint_in placed_in part_start
start_matches =
    record {
      words = record { values = refl; marks = refl; small = below 4294967296 (omega arith) registers.values refl };
      bytes = below 256 (omega arith) memory refl;
      placed = refl;
      row = row_matches;
      fields = fields_hold policy host memory refl;
    }

pub elsewhere : Elsewhere
unfolding reading_of format00 format10 operand_of sign_extend cond_holds condition_of all lowest first policy_ok part_start value_in set_in values_with marks_with slot_runs target_of step_of disjoint_in placed_in run_from refusal_of run_of
elsewhere =
    record {
      checked = accepts;
      matches = start_matches;
      returned = refl;
      counted = refl;
      faulted = refl;
      none = refl;
    }

pub not_elsewhere : GuaranteedElsewhere → ⊥
unfolding reading_of format00 format10 operand_of sign_extend cond_holds condition_of all lowest first policy_ok part_start value_in set_in values_with marks_with slot_runs target_of step_of disjoint_in placed_in run_from refusal_of run_of
not_elsewhere g = (g V9 V8 policy words rows entry result accepts [] returns frame registers memory start_matches 9).ends
