-- The routine that makes a link null: the check, the start's tests and the run's eleven steps are computed from the definitions.
use mathlib.Core.Path.{◌≡◌, refl, sym}
use mathlib.Core.Bool.{xor}
use native.Mathlib.Omega.{arith}
use Rattle.v8.specs.declared.Edition.{Edition}
use Rattle.v8.specs.Signed.{sign_extend}
use Rattle.v8.specs.Search.{all, any, lowest, first}
use Rattle.v8.specs.Read.{reading_of, format00, format10, format11, operand_of, count_of}
use Rattle.v8.proofs.Choice.{false_true}
use Rattle.alu.specs.Codes.{codes_of}
use Rattle.alu.specs.Condition.{cond_holds, condition_of}
use Rattle.flow_edges.specs.Transfer.{slot_runs, target_of}
use Rattle.flow_code.specs.Readings.{is_slot, is_target}
use Rattle.policy.specs.Element.{width_of, least_of, most_of}
use Rattle.policy.specs.Policy.{field_at, values_ok, field_ok, end_before, field_fits, field_at_ok, region_ok, policy_ok}
use Rattle.policy_search.specs.Find.{holds_in, stop_of, find_in}
use Rattle.memory.specs.Frame.{is_scratch}
use Rattle.memory.specs.Place.{part_start}
use Rattle.step.specs.Registers.{value_in, set_in, values_with, marks_with}
use Rattle.access.specs.Locate.{inside_region, region_in, scratch_in, locate}
use Rattle.step.specs.Effect.{aim_in}
use Rattle.step.specs.Step.{step_of}
use Rattle.machine_place.specs.Placement.{disjoint_in, placed_in}
use Rattle.machine.specs.Run.{start_state, refusal_of, run_of}
use Rattle.machine_steps.specs.Steps.{run_from}
use Rattle.sets.specs.Sets.{ended, set_ok, fits_set}
use Rattle.sets_rules.specs.Rules.{within, add_sets}
use Rattle.sets_narrow.specs.Narrow.{is_member, only, without}
use Rattle.rows.specs.Entry.{size_in, entry_ok, fits, note_ok, fits_note, field_entry}
use Rattle.rows.specs.Flaw.{flaw_from}
use Rattle.rows.specs.Row.{entry_at, entries_with, entry_of, note_of, row_of, scratch_unset, fits_at, misfit}
use Rattle.rows.specs.Matches.{Host, RowMatches}
use Rattle.rules.specs.Result.{offsets_give, address_sum, address_difference, alu_result}
use Rattle.rules.specs.Reach.{in_field, in_region, in_frame, frame_reach, reach_of}
use Rattle.rules.specs.Change.{note_after, codes_note, alu_change, access_change, branch_change, return_change}
use Rattle.rules.specs.Narrow.{narrow_entry, narrow_row}
use Rattle.passes.specs.Answer.{accepted, pass_of}
use Rattle.passes.specs.Passes.{read_pass, flow_pass, entry_pass}
use Rattle.checker.specs.Passes.{cross, narrowed_edge, word_pass, check_of}
use Rattle.guarantee.specs.Fields.{Declared}
use Rattle.guarantee.specs.Guarantee.{host_of, value_at, mark_at, held_of, Start}
use Rattle.claims.specs.Unlink.{policy, words, digits, entry, rows, bases, returns, frame, registers, memory}
use Rattle.claims.specs.Claims.{StartExists}
use Rattle.claims.proofs.Computed.{check-from}
use Rattle.claims.proofs.Matching.{below, registers_match, fields_hold}

abbrev host : Host
host = host_of bases returns frame

checks : (e : Edition) → check_of e policy words rows entry digits ≡ accepted
unfolding reading_of format00 format10 format11 operand_of count_of sign_extend condition_of all any lowest first width_of least_of most_of field_at values_ok field_ok end_before field_fits field_at_ok region_ok policy_ok holds_in stop_of find_in slot_runs target_of is_slot is_target ended set_ok fits_set within add_sets is_member only without size_in entry_ok fits note_ok fits_note field_entry entry_at entries_with entry_of note_of row_of flaw_from scratch_unset fits_at misfit offsets_give address_sum address_difference alu_result is_scratch in_field in_region in_frame frame_reach reach_of note_after codes_note alu_change access_change branch_change return_change narrow_entry narrow_row pass_of read_pass flow_pass entry_pass cross narrowed_edge word_pass
checks e = check-from e policy words rows entry digits

row_matches : RowMatches host (row_of entry 0) (held_of policy (start_state registers memory).core)
unfolding all row_of entry_of note_of entry_at value_in set_in is_member value_at mark_at part_start
row_matches =
    record {
      entries = registers_match host (row_of entry 0) (held_of policy (start_state registers memory).core) refl;
      note = record { coded = λ e. false_true (sym e); compared = λ e. false_true e };
    }

fields_match : Declared policy host memory
unfolding all width_of field_at part_start field_entry ended is_member
fields_match = fields_hold policy host memory refl

start_matches : Start policy entry bases returns frame registers memory
unfolding all disjoint_in placed_in part_start
start_matches =
    record {
      words = record { values = refl; marks = refl; small = below 4294967296 (omega arith) registers.values refl };
      bytes = below 256 (omega arith) memory refl;
      placed = refl;
      row = row_matches;
      fields = fields_match;
    }

pub start-exists : (e : Edition) → StartExists e
unfolding reading_of format00 format10 format11 operand_of count_of sign_extend codes_of cond_holds condition_of xor all width_of least_of most_of field_at values_ok field_ok end_before field_fits field_at_ok region_ok policy_ok part_start lowest first holds_in stop_of find_in value_in set_in values_with marks_with inside_region region_in is_scratch scratch_in locate aim_in slot_runs target_of step_of disjoint_in placed_in run_from refusal_of run_of
start-exists e = record { checked = checks e; matches = start_matches; returned = refl; counted = refl; gives = refl; leaves = refl }
