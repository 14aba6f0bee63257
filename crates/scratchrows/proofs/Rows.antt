-- The table holds: the definitions give each row's outcome, by computation.
use Prim.Native.Nat.{ℕ}
use mathlib.Core.Path.{refl, ap, fun_ext}
use mathlib.Core.Bool.{Bool}
use mathlib.Core.List.{List, map}
use Rattle.v8.specs.declared.Edition.{Edition}
use Rattle.v8.specs.Search.{all, any, lowest, first}
use Rattle.v8.specs.Signed.{sign_extend}
use Rattle.v8.specs.Read.{reading_of, format00, format10, format11, operand_of, count_of}
use Rattle.alu.specs.Condition.{condition_of}
use Rattle.flow_edges.specs.Transfer.{slot_runs, target_of}
use Rattle.flow_code.specs.Readings.{is_slot, is_target}
use Rattle.policy.specs.Element.{width_of, least_of, most_of}
use Rattle.policy.specs.Policy.{field_at, values_ok, field_ok, end_before, field_fits, field_at_ok, region_ok, policy_ok}
use Rattle.policy_search.specs.Find.{holds_in, stop_of, find_in}
use Rattle.memory.specs.Frame.{is_scratch}
use Rattle.memory.specs.Place.{part_start}
use Rattle.access.specs.Locate.{inside_region, region_in, scratch_in, locate}
use Rattle.step.specs.Registers.{value_in, set_in, values_with, marks_with}
use Rattle.step.specs.Effect.{aim_in}
use Rattle.step.specs.Step.{step_of}
use Rattle.machine_place.specs.Placement.{disjoint_in, placed_in}
use Rattle.machine_steps.specs.Steps.{run_from}
use Rattle.machine.specs.Run.{refusal_of, run_of}
use Rattle.sets.specs.Sets.{ended, set_ok, fits_set}
use Rattle.sets_rules.specs.Rules.{within, add_sets}
use Rattle.rows.specs.Entry.{size_in, entry_ok, fits, note_ok, fits_note, field_entry}
use Rattle.rows.specs.Flaw.{flaw_from}
use Rattle.rows.specs.Row.{entry_at, entries_with, entry_of, note_of, row_of, scratch_unset, fits_at, misfit}
use Rattle.rules.specs.Result.{alu_result, shift_result}
use Rattle.rules.specs.Reach.{in_field, in_region, in_frame, frame_reach, reach_of}
use Rattle.rules.specs.Change.{note_after, codes_note, alu_change, shift_change, access_change, branch_change, return_change}
use Rattle.rules.specs.Narrow.{narrow_entry, narrow_row}
use Rattle.passes.specs.Answer.{pass_of}
use Rattle.passes.specs.Passes.{read_pass, flow_pass, entry_pass}
use Rattle.checker.specs.Passes.{cross, narrowed_edge, word_pass}
use Rattle.bundle_layout.specs.Layout.{fields_before, field_read, bundle_ok}
use Rattle.bundle_open.specs.Build.{region_to, field_to, with_regions, with_fields_of, with_fields}
use Rattle.marks.specs.Marks as Marks·
use Rattle.marks.specs.Effect.{of_numbers, or_mark}
use Rattle.lister_rules.specs.Table.{marks_at, reached, raised_at}
use Rattle.lister_rules.specs.Rules.{entry_marks, sent_by, taken_in, closed_at, closed}
use Rattle.lister.specs.Listing.{raised_by_words, raised_once, raised_until_closed, listing_of}
use Rattle.claims.proofs.Computed.{start-from}
use Rattle.trials.specs.Case.{Holds}
use Rattle.trials.proofs.Computed.{by_computing}
use Rattle.slotrows.specs.Table as Slots·
use Rattle.kindrows.specs.Table as Kinds·
use Rattle.kindrows.proofs.Computed.{lists_by_computing}
use Rattle.scratchrows.specs.Case.{EntryRow, EntriesHold, RunsHold}
use Rattle.scratchrows.specs.FormRows.{frame_rows, scratch_rows, sizes, entry_rows}
use Rattle.scratchrows.specs.FitRows.{fit_rows}
use Rattle.scratchrows.specs.ChangeRows.{offset_rows, indexed_rows, rule_rows}
use Rattle.scratchrows.specs.RunRows.{kept_rows, fault_rows, start_rows, place_rows, among_rows}
use Rattle.scratchrows.specs.CheckRows.{check_rows, pass_rows}
use Rattle.scratchrows.specs.ListRows.{list_rows}
use Rattle.scratchrows.specs.BundleRows.{bundle_rows}
use Rattle.scratchrows.specs.Table.{TableHolds}

frames_hold : (e : Edition) → Holds e frame_rows
unfolding lowest first set_ok size_in entry_ok note_ok entry_of note_of flaw_from
frames_hold e = by_computing e frame_rows refl

scratch_hold : (e : Edition) → Holds e scratch_rows
unfolding lowest first set_ok size_in entry_ok note_ok entry_of note_of flaw_from
scratch_hold e = by_computing e scratch_rows refl

entries_hold : EntriesHold sizes entry_rows
unfolding lowest first set_ok size_in entry_ok note_ok entry_of note_of flaw_from all scratch_unset
entries_hold = ap (λ (formed : List ℕ → Bool). map (λ (r : EntryRow). formed r.bytes) entry_rows) (fun_ext (start-from 2 sizes 1))

fits_hold : (e : Edition) → Holds e fit_rows
unfolding lowest first condition_of fits_set fits fits_note entry_at flaw_from fits_at misfit narrow_entry
fits_hold e = refl

offsets_hold : (e : Edition) → Holds e offset_rows
unfolding reading_of format00 format10 format11 operand_of count_of sign_extend entry_at is_scratch in_frame frame_reach reach_of note_after access_change
offsets_hold e = refl

indexed_hold : (e : Edition) → Holds e indexed_rows
unfolding reading_of format00 format10 format11 operand_of count_of sign_extend entry_at is_scratch in_frame frame_reach reach_of note_after access_change
indexed_hold e = refl

rules_hold : (e : Edition) → Holds e rule_rows
unfolding reading_of format00 format10 format11 operand_of count_of sign_extend lowest first width_of field_at holds_in stop_of find_in ended within add_sets field_entry entry_at alu_result shift_result is_scratch in_field in_region in_frame frame_reach reach_of note_after codes_note alu_change shift_change access_change
rules_hold e = refl

kept_hold : (e : Edition) → RunsHold e kept_rows
unfolding reading_of format00 format10 format11 operand_of count_of sign_extend all lowest first width_of least_of most_of field_at values_ok field_ok end_before field_fits field_at_ok region_ok policy_ok part_start holds_in stop_of find_in value_in set_in values_with marks_with is_scratch inside_region region_in scratch_in locate aim_in step_of disjoint_in placed_in run_from refusal_of run_of
kept_hold e = refl

faults_hold : (e : Edition) → RunsHold e fault_rows
unfolding reading_of format00 format10 format11 operand_of count_of sign_extend all lowest first width_of least_of most_of field_at values_ok field_ok end_before field_fits field_at_ok region_ok policy_ok part_start holds_in stop_of find_in value_in set_in values_with marks_with is_scratch inside_region region_in scratch_in locate aim_in step_of disjoint_in placed_in run_from refusal_of run_of
faults_hold e = refl

starts_hold : (e : Edition) → RunsHold e start_rows
unfolding reading_of format00 format10 format11 operand_of count_of sign_extend all lowest first width_of least_of most_of field_at values_ok field_ok end_before field_fits field_at_ok region_ok policy_ok part_start holds_in stop_of find_in value_in set_in values_with marks_with is_scratch inside_region region_in scratch_in locate aim_in step_of disjoint_in placed_in run_from refusal_of run_of
starts_hold e = refl

places_hold : (e : Edition) → RunsHold e place_rows
unfolding reading_of format00 format10 format11 operand_of count_of sign_extend all lowest first width_of least_of most_of field_at values_ok field_ok end_before field_fits field_at_ok region_ok policy_ok part_start value_in set_in values_with marks_with step_of disjoint_in placed_in run_from refusal_of run_of
places_hold e = refl

among_hold : (e : Edition) → RunsHold e among_rows
unfolding reading_of format00 format10 format11 operand_of count_of sign_extend all lowest first width_of least_of most_of field_at values_ok field_ok end_before field_fits field_at_ok region_ok policy_ok part_start value_in set_in values_with marks_with step_of disjoint_in placed_in run_from refusal_of run_of
among_hold e = refl

checks_hold : (e : Edition) → Holds e check_rows
unfolding reading_of format00 format10 format11 operand_of count_of sign_extend condition_of lowest first all any width_of least_of most_of field_at values_ok field_ok end_before field_fits field_at_ok region_ok policy_ok slot_runs target_of is_slot is_target set_ok fits_set size_in entry_ok fits note_ok fits_note entry_at entries_with entry_of note_of row_of flaw_from scratch_unset fits_at misfit is_scratch in_frame frame_reach reach_of note_after access_change return_change narrow_row pass_of read_pass flow_pass entry_pass cross narrowed_edge word_pass
checks_hold e = by_computing e check_rows refl

passes_hold : (e : Edition) → Slots·.Holds e pass_rows
unfolding reading_of format00 format10 format11 operand_of count_of sign_extend condition_of lowest first any slot_runs target_of is_slot is_target fits_set fits fits_note entry_at entries_with entry_of note_of row_of flaw_from fits_at misfit is_scratch in_frame frame_reach reach_of note_after access_change branch_change return_change narrow_row pass_of flow_pass cross narrowed_edge word_pass
passes_hold e = refl

lists_hold : (e : Edition) → Kinds·.Holds e list_rows
unfolding reading_of format00 format10 format11 operand_of count_of sign_extend lowest first all any slot_runs target_of is_slot is_target width_of least_of most_of field_at values_ok field_ok end_before field_fits field_at_ok region_ok policy_ok set_ok size_in entry_ok note_ok entry_of note_of flaw_from scratch_unset pass_of read_pass flow_pass Marks·.meet Marks·.mark_of Marks·.marks_with of_numbers or_mark marks_at reached raised_at entry_marks sent_by taken_in closed_at closed raised_by_words raised_once raised_until_closed listing_of
lists_hold e = lists_by_computing e list_rows refl

bundles_hold : (e : Edition) → Holds e bundle_rows
unfolding reading_of format00 format10 format11 operand_of count_of sign_extend condition_of lowest first all any width_of least_of most_of field_at values_ok field_ok end_before field_fits field_at_ok region_ok policy_ok slot_runs target_of is_slot is_target set_ok fits_set size_in entry_ok fits note_ok fits_note entry_at entries_with entry_of note_of row_of flaw_from scratch_unset fits_at misfit is_scratch in_frame frame_reach reach_of note_after access_change return_change narrow_row pass_of read_pass flow_pass entry_pass cross narrowed_edge word_pass fields_before field_read bundle_ok region_to field_to with_regions with_fields_of with_fields
bundles_hold e = by_computing e bundle_rows refl

pub table_holds : (e : Edition) → TableHolds e
table_holds e =
    record {
      frames = frames_hold e;
      scratch = scratch_hold e;
      entries = entries_hold;
      fits = fits_hold e;
      offsets = offsets_hold e;
      indexed = indexed_hold e;
      rules = rules_hold e;
      kept = kept_hold e;
      faults = faults_hold e;
      starts = starts_hold e;
      places = places_hold e;
      among = among_hold e;
      checks = checks_hold e;
      passes = passes_hold e;
      lists = lists_hold e;
      bundles = bundles_hold e;
    }
