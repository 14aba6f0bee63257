-- The table holds: the definitions give each row's outcome, by computation.
use mathlib.Core.Path.{refl}
use Rattle.v8.specs.declared.Edition.{Edition}
use Rattle.v8.specs.Search.{all, any, lowest, first}
use Rattle.v8.specs.Signed.{sign_extend}
use Rattle.v8.specs.Read.{reading_of, format00, format10, format11, operand_of, count_of}
use Rattle.alu.specs.Condition.{cond_holds, condition_of}
use Rattle.flow_edges.specs.Transfer.{slot_runs, target_of}
use Rattle.flow_code.specs.Readings.{is_slot, is_target}
use Rattle.policy.specs.Element.{width_of, least_of, most_of}
use Rattle.policy.specs.Policy.{field_at, values_ok, field_ok, end_before, field_fits, field_at_ok, region_ok, policy_ok}
use Rattle.policy_search.specs.Find.{holds_in, stop_of, find_in}
use Rattle.memory.specs.Place.{part_start}
use Rattle.step.specs.Registers.{value_in, set_in, values_with, marks_with}
use Rattle.step.specs.Step.{step_of}
use Rattle.machine_place.specs.Placement.{disjoint_in, placed_in}
use Rattle.machine_steps.specs.Steps.{run_from}
use Rattle.machine.specs.Run.{refusal_of, run_of}
use Rattle.sets.specs.Sets.{ended, set_ok, fits_set}
use Rattle.sets_rules.specs.Rules.{within, add_sets}
use Rattle.sets_narrow.specs.Narrow.{at_most, at_least, less_than, is_member, only, without}
use Rattle.rows.specs.Entry.{size_in, entry_ok, fits, note_ok, fits_note, field_entry}
use Rattle.rows.specs.Flaw.{flaw_from}
use Rattle.rows.specs.Row.{entry_at, entries_with, entry_of, note_of, row_of, scratch_unset, fits_at, misfit}
use Rattle.rules.specs.Result.{offsets_give, address_sum, alu_result}
use Rattle.rules.specs.Reach.{in_field, in_region, frame_reach, reach_of}
use Rattle.rules.specs.Change.{note_after, codes_note, alu_change, access_change, branch_change, return_change}
use Rattle.rules.specs.Narrow.{narrow_entry, narrow_row}
use Rattle.passes.specs.Answer.{pass_of}
use Rattle.passes.specs.Passes.{read_pass, flow_pass, entry_pass}
use Rattle.checker.specs.Passes.{cross, narrowed_edge, word_pass}
use Rattle.marks.specs.Marks as Marks·
use Rattle.marks.specs.Effect.{of_numbers, or_mark}
use Rattle.lister_rules.specs.Table.{marks_at, reached, raised_at}
use Rattle.lister_rules.specs.Rules.{entry_marks, sent_by, taken_in, closed_at, closed}
use Rattle.lister.specs.Listing.{raised_by_words, raised_once, raised_until_closed, listing_of}
use Rattle.trials.specs.Case as Trials·
use Rattle.trials.proofs.Computed.{by_computing}
use Rattle.kindrows.specs.Table as Kinds·
use Rattle.kindrows.proofs.Computed.{lists_by_computing}
use Rattle.slotrows.specs.PassRows.{flow_rows, shared_rows, own_rows, home_rows, idle_rows}
use Rattle.slotrows.specs.CheckRows.{check_rows}
use Rattle.slotrows.specs.RunRows.{run_rows}
use Rattle.slotrows.specs.ListRows.{list_rows}
use Rattle.slotrows.specs.Table.{Holds, TableHolds}
use Rattle.slotrows.proofs.Passes.{passes_answer}

flows_hold : (e : Edition) → Holds e flow_rows
unfolding reading_of format00 format10 format11 operand_of count_of sign_extend lowest first any target_of is_slot is_target pass_of flow_pass
flows_hold e = refl

shared_hold : (e : Edition) → Holds e shared_rows
unfolding reading_of format00 format10 format11 operand_of count_of sign_extend condition_of lowest first any width_of field_at holds_in stop_of find_in slot_runs target_of is_slot is_target ended fits_set within add_sets fits fits_note field_entry entry_at entries_with entry_of note_of row_of flaw_from fits_at misfit offsets_give address_sum alu_result in_field in_region frame_reach reach_of note_after codes_note alu_change access_change branch_change return_change narrow_row pass_of flow_pass cross narrowed_edge word_pass
shared_hold e = refl

own_hold : (e : Edition) → Holds e own_rows
unfolding reading_of format00 format10 format11 operand_of count_of sign_extend condition_of lowest first any slot_runs target_of is_slot is_target ended fits_set within add_sets at_most at_least less_than is_member only without fits fits_note entry_at entries_with entry_of note_of row_of flaw_from fits_at misfit alu_result note_after codes_note alu_change branch_change return_change narrow_entry narrow_row pass_of flow_pass cross narrowed_edge word_pass
own_hold e = refl

homes_hold : (e : Edition) → Holds e home_rows
unfolding reading_of format00 format10 format11 operand_of count_of sign_extend condition_of lowest first any slot_runs target_of is_slot is_target fits_set fits fits_note entry_at entries_with entry_of note_of row_of flaw_from fits_at misfit note_after branch_change return_change narrow_row pass_of flow_pass cross narrowed_edge word_pass
homes_hold e = refl

idle_hold : (e : Edition) → Holds e idle_rows
unfolding reading_of format00 format10 format11 operand_of count_of sign_extend condition_of lowest first any width_of field_at holds_in stop_of find_in slot_runs target_of is_slot is_target ended fits_set within add_sets fits fits_note field_entry entry_at entries_with entry_of note_of row_of flaw_from fits_at misfit offsets_give address_sum alu_result in_field in_region frame_reach reach_of note_after access_change branch_change return_change narrow_row pass_of flow_pass cross narrowed_edge word_pass
idle_hold e = refl

checks_hold : (e : Edition) → Trials·.Holds e check_rows
unfolding reading_of format00 format10 format11 operand_of count_of sign_extend condition_of lowest first all any width_of least_of most_of field_at values_ok field_ok end_before field_fits field_at_ok region_ok policy_ok holds_in stop_of find_in slot_runs target_of is_slot is_target ended set_ok fits_set within add_sets size_in entry_ok fits note_ok fits_note field_entry entry_at entries_with entry_of note_of row_of flaw_from scratch_unset fits_at misfit offsets_give address_sum alu_result in_field in_region frame_reach reach_of note_after codes_note alu_change access_change branch_change return_change narrow_row pass_of read_pass flow_pass entry_pass cross narrowed_edge word_pass
checks_hold e = by_computing e check_rows refl

runs_hold : (e : Edition) → Trials·.Holds e run_rows
unfolding reading_of format00 format10 format11 operand_of count_of sign_extend cond_holds condition_of all lowest first width_of least_of most_of field_at values_ok field_ok end_before field_fits field_at_ok region_ok policy_ok part_start value_in set_in values_with marks_with slot_runs target_of step_of disjoint_in placed_in run_from refusal_of run_of
runs_hold e = refl

lists_hold : (e : Edition) → Kinds·.Holds e list_rows
unfolding reading_of format00 format10 format11 operand_of count_of sign_extend lowest first all any slot_runs target_of is_slot is_target width_of least_of most_of field_at values_ok field_ok end_before field_fits field_at_ok region_ok policy_ok set_ok size_in entry_ok note_ok entry_of note_of flaw_from scratch_unset pass_of read_pass flow_pass Marks·.meet Marks·.mark_of Marks·.marks_with of_numbers or_mark marks_at reached raised_at entry_marks sent_by taken_in closed_at closed raised_by_words raised_once raised_until_closed listing_of
lists_hold e = lists_by_computing e list_rows refl

pub table_holds : (e : Edition) → TableHolds e
table_holds e =
    record {
      flows = flows_hold e;
      shared = shared_hold e;
      own = own_hold e;
      homes = homes_hold e;
      idle = idle_hold e;
      passes = passes_answer;
      checks = checks_hold e;
      runs = runs_hold e;
      lists = lists_hold e;
    }
