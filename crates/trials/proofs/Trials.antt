-- Every row of the table holds: the definitions, computed, give the outcome that the row expects. What antt computes in one proof is limited,
-- so each part of the table is one.
use mathlib.Core.Path.{refl, sym, ap₂, ◌∙◌}
use mathlib.Core.List.{List, ◌++◌, map-append}
use mathlib.Core.Bool.{xor}
use Rattle.v8.specs.declared.Edition.{Edition}
use Rattle.v8.specs.Signed.{sign_extend}
use Rattle.v8.specs.Search.{all, any, lowest, first}
use Rattle.v8.specs.Read.{reading_of, format00, format10, format11, operand_of, count_of}
use Rattle.writer.specs.Write.{writing_of, packed, pack_of, sethi_word, signed_bits, five_bits}
use Rattle.alu.specs.Codes.{codes_of}
use Rattle.alu.specs.Condition.{cond_holds, condition_of}
use Rattle.flow_edges.specs.Transfer.{slot_runs, target_of}
use Rattle.flow_code.specs.Readings.{is_slot, is_target}
use Rattle.policy.specs.Element.{width_of, least_of, most_of}
use Rattle.policy.specs.Policy.{field_at, values_ok, field_ok, end_before, field_fits, field_at_ok, region_ok, policy_ok}
use Rattle.policy_search.specs.Find.{holds_in, stop_of, find_in}
use Rattle.policy.specs.Build.{region_number, field_number, built}
use Rattle.memory.specs.Frame.{is_scratch}
use Rattle.memory.specs.Place.{part_start}
use Rattle.step.specs.Registers.{value_in, set_in, values_with, marks_with}
use Rattle.access.specs.Locate.{inside_region, region_in, scratch_in, locate}
use Rattle.step.specs.Effect.{aim_in}
use Rattle.step.specs.Step.{step_of}
use Rattle.machine_place.specs.Placement.{disjoint_in, placed_in}
use Rattle.machine_steps.specs.Steps.{run_from}
use Rattle.machine.specs.Run.{refusal_of, run_of}
use Rattle.sets.specs.Sets.{ended, set_ok, fits_set}
use Rattle.sets_rules.specs.Rules.{within, add_sets, sub_sets, and_sets, sll_set, sra_set, srl_set}
use Rattle.sets_narrow.specs.Narrow.{at_most, at_least, less_than, is_member, only, without}
use Rattle.rows.specs.Entry.{size_in, entry_ok, fits, note_ok, fits_note, field_entry}
use Rattle.rows.specs.Flaw.{flaw_from}
use Rattle.rows.specs.Row.{entry_at, entries_with, entry_of, note_of, row_of, scratch_unset, fits_at, misfit}
use Rattle.rules.specs.Result.{offsets_give, address_sum, address_difference, alu_result, shift_result}
use Rattle.rules.specs.Reach.{in_field, in_region, frame_reach, reach_of}
use Rattle.rules.specs.Change.{note_after, codes_note, alu_change, shift_change, access_change, branch_change, return_change}
use Rattle.rules.specs.Narrow.{narrow_entry, narrow_row}
use Rattle.passes.specs.Answer.{pass_of}
use Rattle.passes.specs.Passes.{read_pass, flow_pass, entry_pass}
use Rattle.checker.specs.Passes.{cross, narrowed_edge, word_pass}
use Rattle.bundle_layout.specs.Layout.{fields_before, field_read, bundle_ok}
use Rattle.bundle_open.specs.Build.{region_to, field_to, with_regions, with_fields_of, with_fields}
use Rattle.trials.specs.Case.{Row, Outcome, expected, found, Holds}
use Rattle.trials.specs.CheckRows.{shape_rows, form_pass_rows, flow_rows, edge_rows, slip_rows}
use Rattle.trials.proofs.Computed.{by_computing}
use Rattle.claims.proofs.Answered.{return-then-nop, one-nop, loop-accepted}
use Rattle.claims.proofs.Looped.{loop-never-returns}
use Rattle.claims.proofs.Unlinked.{start-exists}
use Rattle.claims.proofs.Alike.{accepted-too}
use Rattle.trials.specs.Table.{machine_table, row_table, pass_table, edge_table, bundle_table, table, Claim, return_then_nop, one_nop, loop_accepted, loop_never_returns, start_exists, accepted_too, Says, TableHolds}

-- where those of two lists do, so do those of both together
both : (e : Edition) (a b : List Row) → Holds e a → Holds e b → Holds e (a ++ b)
both e a b p q = map-append (found e) a b ∙ ap₂ (λ (x y : List Outcome). x ++ y) p q ∙ sym (map-append expected a b)

machine_rows_hold : (e : Edition) → Holds e machine_table
unfolding reading_of format00 format10 format11 operand_of count_of sign_extend writing_of packed pack_of sethi_word signed_bits five_bits codes_of cond_holds condition_of is_slot is_target any xor all width_of least_of most_of field_at values_ok field_ok end_before field_fits field_at_ok region_ok policy_ok region_number field_number built part_start lowest first holds_in stop_of find_in value_in set_in values_with marks_with is_scratch inside_region region_in scratch_in locate aim_in slot_runs target_of step_of disjoint_in placed_in run_from refusal_of run_of
machine_rows_hold e = refl

row_rows_hold : (e : Edition) → Holds e row_table
unfolding reading_of format00 format10 format11 operand_of count_of sign_extend condition_of lowest first width_of field_at holds_in stop_of find_in ended set_ok fits_set within add_sets sub_sets and_sets sll_set sra_set srl_set at_most at_least less_than is_member only without size_in entry_ok fits note_ok fits_note field_entry entry_at entries_with entry_of note_of flaw_from fits_at misfit offsets_give address_sum address_difference alu_result shift_result in_field in_region frame_reach reach_of note_after codes_note alu_change shift_change access_change branch_change return_change narrow_entry narrow_row
row_rows_hold e = by_computing e row_table refl

shape_rows_hold : (e : Edition) → Holds e shape_rows
unfolding reading_of format00 format10 format11 operand_of count_of sign_extend lowest first all width_of least_of most_of field_at values_ok field_ok end_before field_fits field_at_ok region_ok policy_ok target_of set_ok fits_set size_in entry_ok fits note_ok fits_note entry_at entry_of note_of row_of flaw_from fits_at misfit pass_of is_slot is_target any scratch_unset read_pass flow_pass entry_pass
shape_rows_hold e = by_computing e shape_rows refl

form_rows_hold : (e : Edition) → Holds e form_pass_rows
unfolding reading_of format00 format10 format11 operand_of count_of sign_extend lowest first all width_of least_of most_of field_at values_ok field_ok end_before field_fits field_at_ok region_ok policy_ok target_of set_ok fits_set size_in entry_ok fits note_ok fits_note entry_at entry_of note_of row_of flaw_from fits_at misfit pass_of is_slot is_target any scratch_unset read_pass flow_pass entry_pass
form_rows_hold e = by_computing e form_pass_rows refl

flow_rows_hold : (e : Edition) → Holds e flow_rows
unfolding reading_of format00 format10 format11 operand_of count_of sign_extend lowest first all width_of least_of most_of field_at values_ok field_ok end_before field_fits field_at_ok region_ok policy_ok target_of set_ok fits_set size_in entry_ok fits note_ok fits_note entry_at entry_of note_of row_of flaw_from fits_at misfit pass_of is_slot is_target any scratch_unset read_pass flow_pass entry_pass
flow_rows_hold e = by_computing e flow_rows refl

pass_rows_hold : (e : Edition) → Holds e pass_table
pass_rows_hold e =
    both e shape_rows (form_pass_rows ++ flow_rows) (shape_rows_hold e) (both e form_pass_rows flow_rows (form_rows_hold e) (flow_rows_hold e))

last_rows_hold : (e : Edition) → Holds e edge_rows
unfolding reading_of format00 format10 format11 operand_of count_of sign_extend condition_of lowest first all width_of least_of most_of field_at values_ok field_ok end_before field_fits field_at_ok region_ok policy_ok holds_in stop_of find_in slot_runs target_of ended set_ok fits_set within add_sets sub_sets and_sets sll_set sra_set srl_set at_most at_least less_than is_member only without size_in entry_ok fits note_ok fits_note field_entry entry_at entries_with entry_of note_of flaw_from fits_at misfit row_of offsets_give address_sum address_difference alu_result shift_result in_field in_region frame_reach reach_of note_after codes_note alu_change shift_change access_change branch_change return_change narrow_entry narrow_row pass_of is_slot is_target any scratch_unset read_pass flow_pass entry_pass cross narrowed_edge word_pass
last_rows_hold e = by_computing e edge_rows refl

slip_rows_hold : (e : Edition) → Holds e slip_rows
unfolding reading_of format00 format10 format11 operand_of count_of sign_extend condition_of lowest first all width_of least_of most_of field_at values_ok field_ok end_before field_fits field_at_ok region_ok policy_ok holds_in stop_of find_in slot_runs target_of ended set_ok fits_set within add_sets sub_sets and_sets sll_set sra_set srl_set at_most at_least less_than is_member only without size_in entry_ok fits note_ok fits_note field_entry entry_at entries_with entry_of note_of flaw_from fits_at misfit row_of offsets_give address_sum address_difference alu_result shift_result in_field in_region frame_reach reach_of note_after codes_note alu_change shift_change access_change branch_change return_change narrow_entry narrow_row pass_of is_slot is_target any scratch_unset read_pass flow_pass entry_pass cross narrowed_edge word_pass
slip_rows_hold e = by_computing e slip_rows refl

edge_rows_hold : (e : Edition) → Holds e edge_table
edge_rows_hold e = both e edge_rows slip_rows (last_rows_hold e) (slip_rows_hold e)

bundle_rows_hold : (e : Edition) → Holds e bundle_table
unfolding reading_of format00 format10 format11 operand_of count_of sign_extend lowest first all width_of least_of most_of field_at values_ok field_ok end_before field_fits field_at_ok region_ok policy_ok region_number field_number built target_of set_ok fits_set size_in entry_ok fits note_ok fits_note entry_at entries_with entry_of note_of row_of flaw_from fits_at misfit branch_change return_change narrow_entry narrow_row note_after pass_of is_slot is_target any scratch_unset read_pass flow_pass entry_pass cross narrowed_edge word_pass fields_before field_read bundle_ok region_to field_to with_regions with_fields_of with_fields
bundle_rows_hold e = by_computing e bundle_table refl

every_claim_holds : (c : Claim) → Says c
every_claim_holds return_then_nop = return-then-nop
every_claim_holds one_nop = one-nop
every_claim_holds loop_accepted = loop-accepted
every_claim_holds loop_never_returns = loop-never-returns
every_claim_holds start_exists = start-exists
every_claim_holds accepted_too = accepted-too

every_row_holds : (e : Edition) → Holds e table
every_row_holds e =
    both e (machine_table ++ row_table ++ pass_table ++ edge_table) bundle_table
    (both e (machine_table ++ row_table ++ pass_table) edge_table
    (both e (machine_table ++ row_table) pass_table (both e machine_table row_table (machine_rows_hold e) (row_rows_hold e)) (pass_rows_hold e))
    (edge_rows_hold e))
    (bundle_rows_hold e)

pub table_holds : TableHolds
table_holds = record { rows = every_row_holds; claims = every_claim_holds }
