-- The table holds: the definitions give each row's outcome, by computation.
use mathlib.Core.Path.{refl}
use Rattle.v8.specs.declared.Edition.{Edition}
use Rattle.v8.specs.Search.{all, any, lowest, first}
use Rattle.v8.specs.Signed.{sign_extend}
use Rattle.v8.specs.Read.{reading_of, format00, format10, format11, operand_of, count_of}
use Rattle.alu.specs.Condition.{condition_of}
use Rattle.flow_edges.specs.Transfer.{slot_runs, target_of}
use Rattle.flow_code.specs.Readings.{is_slot, is_target}
use Rattle.policy.specs.Element.{width_of, least_of, most_of}
use Rattle.policy.specs.Policy.{field_at, values_ok, field_ok, end_before, field_fits, field_at_ok, region_ok, policy_ok}
use Rattle.memory.specs.Place.{part_start}
use Rattle.step.specs.Registers.{value_in, set_in, values_with, marks_with}
use Rattle.step.specs.Step.{step_of}
use Rattle.machine_place.specs.Placement.{disjoint_in, placed_in}
use Rattle.machine_steps.specs.Steps.{run_from}
use Rattle.machine.specs.Run.{refusal_of, run_of}
use Rattle.sets.specs.Sets.{set_ok, fits_set}
use Rattle.rows.specs.Entry.{size_in, entry_ok, fits, note_ok, fits_note}
use Rattle.rows.specs.Flaw.{flaw_from}
use Rattle.rows.specs.Row.{entry_at, entries_with, entry_of, note_of, row_of, scratch_unset, fits_at, misfit}
use Rattle.rules.specs.Result.{alu_result}
use Rattle.rules.specs.Change.{note_after, alu_change, return_change}
use Rattle.rules.specs.Narrow.{narrow_row}
use Rattle.passes.specs.Answer.{pass_of}
use Rattle.passes.specs.Passes.{read_pass, flow_pass, entry_pass}
use Rattle.checker.specs.Passes.{cross, narrowed_edge, word_pass}
use Rattle.marks.specs.Marks as Marks·
use Rattle.marks.specs.Effect.{of_numbers, or_mark}
use Rattle.lister_rules.specs.Table.{marks_at, reached, raised_at}
use Rattle.lister_rules.specs.Rules.{entry_marks, sent_by, taken_in, closed_at, closed}
use Rattle.lister.specs.Listing.{raised_by_words, raised_once, raised_until_closed, listing_of}
use Rattle.trials.specs.Case as Trials·
use Rattle.trials.proofs.Computed.{by_computing}
use Rattle.kindrows.specs.Table as Kinds·
use Rattle.kindrows.proofs.Computed.{lists_by_computing}
use Rattle.callerrows.specs.Case.{Holds}
use Rattle.callerrows.specs.FlowRows.{register_rows, place_rows}
use Rattle.callerrows.specs.CheckRows.{check_rows}
use Rattle.callerrows.specs.RunRows.{run_rows}
use Rattle.callerrows.specs.ListRows.{list_rows}
use Rattle.callerrows.specs.Table.{TableHolds}

registers_hold : (e : Edition) → Holds e register_rows
unfolding reading_of format00 format10 format11 operand_of count_of sign_extend lowest first any is_slot is_target pass_of flow_pass
registers_hold e = refl

places_hold : (e : Edition) → Holds e place_rows
unfolding reading_of format00 format10 format11 operand_of count_of sign_extend lowest first any target_of is_slot is_target pass_of flow_pass
places_hold e = refl

checks_hold : (e : Edition) → Trials·.Holds e check_rows
unfolding reading_of format00 format10 format11 operand_of count_of sign_extend condition_of lowest first all any width_of least_of most_of field_at values_ok field_ok end_before field_fits field_at_ok region_ok policy_ok slot_runs target_of is_slot is_target set_ok fits_set size_in entry_ok fits note_ok fits_note entry_at entries_with entry_of note_of row_of flaw_from scratch_unset fits_at misfit alu_result note_after alu_change return_change narrow_row pass_of read_pass flow_pass entry_pass cross narrowed_edge word_pass
checks_hold e = by_computing e check_rows refl

runs_hold : (e : Edition) → Trials·.Holds e run_rows
unfolding reading_of format00 format10 format11 operand_of count_of sign_extend condition_of all lowest first width_of least_of most_of field_at values_ok field_ok end_before field_fits field_at_ok region_ok policy_ok part_start value_in set_in values_with marks_with step_of disjoint_in placed_in run_from refusal_of run_of
runs_hold e = refl

lists_hold : (e : Edition) → Kinds·.Holds e list_rows
unfolding reading_of format00 format10 format11 operand_of count_of sign_extend lowest first all any slot_runs target_of is_slot is_target width_of least_of most_of field_at values_ok field_ok end_before field_fits field_at_ok region_ok policy_ok set_ok size_in entry_ok note_ok entry_of note_of flaw_from scratch_unset pass_of read_pass flow_pass Marks·.meet Marks·.mark_of Marks·.marks_with of_numbers or_mark marks_at reached raised_at entry_marks sent_by taken_in closed_at closed raised_by_words raised_once raised_until_closed listing_of
lists_hold e = lists_by_computing e list_rows refl

pub table_holds : (e : Edition) → TableHolds e
table_holds e =
    record { registers = registers_hold e; places = places_hold e; checks = checks_hold e; runs = runs_hold e; lists = lists_hold e }
