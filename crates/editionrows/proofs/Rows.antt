-- The table holds: the definitions give each row's outcome, by computation.
use mathlib.Core.Path.{refl}
use Rattle.v8.specs.declared.Edition.{Edition}
use Rattle.v8.specs.declared.Edition.TheVariants.{V8, V9}
use Rattle.v8.specs.Search.{all, any, lowest, first}
use Rattle.v8.specs.Signed.{sign_extend}
use Rattle.v8.specs.Read.{reading_of, format00, format10, format11, operand_of, count_of}
use Rattle.writer.specs.Write.{writing_of, signed_bits}
use Rattle.alu.specs.Condition.{cond_holds, condition_of}
use Rattle.flow_edges.specs.Transfer.{slot_runs, target_of}
use Rattle.flow_code.specs.Readings.{is_slot, is_target}
use Rattle.policy.specs.Element.{width_of, least_of, most_of}
use Rattle.policy.specs.Policy.{field_at, values_ok, field_ok, end_before, field_fits, field_at_ok, region_ok, policy_ok}
use Rattle.policy_search.specs.Find.{holds_in, stop_of, find_in}
use Rattle.policy.specs.Build.{region_number, field_number, built}
use Rattle.memory.specs.Place.{part_start}
use Rattle.step.specs.Registers.{value_in, set_in, values_with, marks_with}
use Rattle.step.specs.Step.{step_of}
use Rattle.machine_place.specs.Placement.{disjoint_in, placed_in}
use Rattle.machine_steps.specs.Steps.{run_from}
use Rattle.machine.specs.Run.{refusal_of, run_of}
use Rattle.sets.specs.Sets.{ended, set_ok, fits_set}
use Rattle.sets_rules.specs.Rules.{within, add_sets}
use Rattle.sets_narrow.specs.Narrow.{at_most, at_least, less_than, is_member, only, without}
use Rattle.rows.specs.Entry.{size_in, entry_ok, fits, note_ok, fits_note, field_entry}
use Rattle.rows.specs.Flaw.{flaw_from}
use Rattle.rows.specs.Row.{entry_at, entries_with, entry_of, note_of, row_of, scratch_unset, fits_at, misfit}
use Rattle.rules.specs.Result.{offsets_give, address_sum, alu_result}
use Rattle.rules.specs.Reach.{in_field, in_region, frame_reach, reach_of}
use Rattle.rules.specs.Change.{note_after, codes_note, alu_change, access_change, branch_change, return_change}
use Rattle.rules.specs.Narrow.{narrow_entry, narrow_row}
use Rattle.passes.specs.Answer.{pass_of}
use Rattle.passes.specs.Passes.{read_pass, flow_pass, entry_pass}
use Rattle.checker.specs.Passes.{cross, narrowed_edge, word_pass}
use Rattle.bundle_layout.specs.Layout.{fields_before, field_read, bundle_ok}
use Rattle.bundle_open.specs.Build.{region_to, field_to, with_regions, with_fields_of, with_fields}
use Rattle.marks.specs.Marks as Marks·
use Rattle.marks.specs.Effect.{of_numbers, or_mark}
use Rattle.lister_rules.specs.Table.{marks_at, reached, raised_at}
use Rattle.lister_rules.specs.Rules.{entry_marks, sent_by, taken_in, closed_at, closed}
use Rattle.lister.specs.Listing.{raised_by_words, raised_once, raised_until_closed, listing_of}
use Rattle.trials.specs.Case.{Holds}
use Rattle.trials.proofs.Computed.{by_computing}
use Rattle.slotrows.specs.Table as Slots·
use Rattle.kindrows.specs.Table as Kinds·
use Rattle.kindrows.proofs.Computed.{lists_by_computing}
use Rattle.editionrows.specs.WordRows as Words
use Rattle.editionrows.specs.FlowRows as Flows
use Rattle.editionrows.specs.PassRows as Passes
use Rattle.editionrows.specs.CheckRows as Checks
use Rattle.editionrows.specs.RunRows as Runs
use Rattle.editionrows.specs.ListRows as Lists
use Rattle.editionrows.specs.Table.{NewerHolds, OlderHolds, EitherHolds, TableHolds}
use Rattle.editionrows.proofs.Form.{form_no_effect}
use Rattle.editionrows.proofs.Elsewhere.{elsewhere, not_elsewhere}

words_newer : Holds V9 Words.newer_rows
unfolding reading_of format00 sign_extend writing_of signed_bits
words_newer = refl

words_older : Holds V8 Words.older_rows
unfolding reading_of format00 sign_extend writing_of signed_bits
words_older = refl

words_either : (e : Edition) → Holds e Words.alike_rows
unfolding reading_of format00 format10 format11 operand_of count_of sign_extend writing_of signed_bits
words_either V8 = refl
words_either V9 = refl

edges_hold : Holds V9 Flows.edge_rows
unfolding reading_of format00 sign_extend condition_of slot_runs target_of
edges_hold = refl

written_hold : Holds V9 Flows.written_rows
unfolding reading_of format00 sign_extend
written_hold = refl

slots_hold : Holds V9 Flows.slot_rows
unfolding reading_of format00 format10 sign_extend any target_of is_slot is_target
slots_hold = refl

flows_older : Holds V8 Flows.older_rows
unfolding reading_of format00 sign_extend any target_of is_slot is_target
flows_older = refl

edges_alike : Flows.EdgesAlike
unfolding reading_of format00 sign_extend condition_of slot_runs target_of
edges_alike = record { clear = refl; hint = refl }

flow_passes : Slots·.Holds V9 Passes.flow_rows
unfolding reading_of format00 format10 format11 operand_of count_of sign_extend lowest first any target_of is_slot is_target pass_of flow_pass
flow_passes = refl

word_passes : Slots·.Holds V9 Passes.word_rows
unfolding reading_of format00 format10 format11 operand_of count_of sign_extend condition_of lowest first any width_of field_at holds_in stop_of find_in slot_runs target_of is_slot is_target ended fits_set within add_sets at_most at_least less_than is_member only without fits fits_note field_entry entry_at entries_with entry_of note_of row_of flaw_from fits_at misfit offsets_give address_sum alu_result in_field in_region frame_reach reach_of note_after codes_note alu_change access_change branch_change return_change narrow_entry narrow_row pass_of flow_pass cross narrowed_edge word_pass
word_passes = refl

checks_newer : Holds V9 Checks.newer_rows
unfolding reading_of format00 format10 format11 operand_of count_of sign_extend condition_of lowest first all any width_of least_of most_of field_at values_ok field_ok end_before field_fits field_at_ok region_ok policy_ok region_number field_number built slot_runs target_of is_slot is_target set_ok fits_set size_in entry_ok fits note_ok fits_note entry_at entries_with entry_of note_of row_of flaw_from scratch_unset fits_at misfit note_after branch_change narrow_row pass_of read_pass flow_pass entry_pass cross narrowed_edge word_pass fields_before field_read bundle_ok region_to field_to with_regions with_fields_of with_fields
checks_newer = by_computing V9 Checks.newer_rows refl

checks_older : Holds V8 Checks.older_rows
unfolding reading_of format00 format10 format11 operand_of count_of sign_extend lowest first all width_of least_of most_of field_at values_ok field_ok end_before field_fits field_at_ok region_ok policy_ok region_number field_number built set_ok size_in entry_ok note_ok entry_of note_of row_of flaw_from scratch_unset pass_of read_pass fields_before field_read bundle_ok region_to field_to with_regions with_fields_of with_fields
checks_older = by_computing V8 Checks.older_rows refl

runs_newer : Holds V9 Runs.newer_rows
unfolding reading_of format00 format10 format11 operand_of count_of sign_extend cond_holds condition_of all lowest first width_of least_of most_of field_at values_ok field_ok end_before field_fits field_at_ok region_ok policy_ok part_start value_in set_in values_with marks_with slot_runs target_of step_of disjoint_in placed_in run_from refusal_of run_of
runs_newer = refl

runs_older : Holds V8 Runs.older_rows
unfolding reading_of format00 format10 format11 operand_of count_of sign_extend cond_holds condition_of all lowest first width_of least_of most_of field_at values_ok field_ok end_before field_fits field_at_ok region_ok policy_ok part_start value_in set_in values_with marks_with slot_runs target_of step_of disjoint_in placed_in run_from refusal_of run_of
runs_older = refl

runs_either : (e : Edition) → Holds e Runs.alike_rows
unfolding reading_of format00 format10 format11 operand_of count_of sign_extend all lowest first width_of least_of most_of field_at values_ok field_ok end_before field_fits field_at_ok region_ok policy_ok part_start value_in set_in values_with marks_with step_of disjoint_in placed_in run_from refusal_of run_of
runs_either V8 = refl
runs_either V9 = refl

lists_newer : Kinds·.Holds V9 Lists.newer_rows
unfolding reading_of format00 format10 format11 operand_of count_of sign_extend lowest first all any slot_runs target_of is_slot is_target width_of least_of most_of field_at values_ok field_ok end_before field_fits field_at_ok region_ok policy_ok set_ok size_in entry_ok note_ok entry_of note_of flaw_from scratch_unset pass_of read_pass flow_pass Marks·.meet Marks·.mark_of Marks·.marks_with of_numbers or_mark marks_at reached raised_at entry_marks sent_by taken_in closed_at closed raised_by_words raised_once raised_until_closed listing_of
lists_newer = lists_by_computing V9 Lists.newer_rows refl

lists_older : Kinds·.Holds V8 Lists.older_rows
unfolding reading_of format00 format10 format11 operand_of count_of sign_extend lowest first all width_of least_of most_of field_at values_ok field_ok end_before field_fits field_at_ok region_ok policy_ok set_ok size_in entry_ok note_ok entry_of note_of flaw_from scratch_unset pass_of read_pass listing_of
lists_older = lists_by_computing V8 Lists.older_rows refl

newer_holds : NewerHolds
newer_holds =
    record {
      words = words_newer;
      edges = edges_hold;
      written = written_hold;
      slots = slots_hold;
      flows = flow_passes;
      passes = word_passes;
      checks = checks_newer;
      runs = runs_newer;
      lists = lists_newer;
    }

older_holds : OlderHolds
older_holds = record { words = words_older; flows = flows_older; checks = checks_older; runs = runs_older; lists = lists_older }

either_holds : (e : Edition) → EitherHolds e
either_holds e = record { words = words_either e; runs = runs_either e }

pub table_holds : TableHolds
table_holds =
    record {
      newer = newer_holds;
      older = older_holds;
      either = either_holds;
      edges = edges_alike;
      form = form_no_effect;
      elsewhere = elsewhere;
      not_guaranteed = not_elsewhere;
    }
