-- The table holds: the definitions give each row's outcome, by computation.
use mathlib.Core.Path.{refl}
use Rattle.v8.specs.declared.Edition.{Edition}
use Rattle.v8.specs.Search.{all, any, lowest, first}
use Rattle.v8.specs.Signed.{sign_extend}
use Rattle.v8.specs.Read.{operand_of, count_of, format00, format10, format11, reading_of}
use Rattle.flow_edges.specs.Transfer.{slot_runs, target_of}
use Rattle.flow_code.specs.Readings.{is_slot, is_target}
use Rattle.policy.specs.Element.{width_of, least_of, most_of}
use Rattle.policy.specs.Policy.{field_at, values_ok, field_ok, end_before, field_fits, field_at_ok, region_ok, policy_ok}
use Rattle.sets.specs.Sets.{set_ok}
use Rattle.rows.specs.Entry.{size_in, entry_ok, note_ok}
use Rattle.rows.specs.Row.{entry_of, note_of, scratch_unset}
use Rattle.rows.specs.Flaw.{flaw_from}
use Rattle.passes.specs.Answer.{pass_of}
use Rattle.passes.specs.Passes.{read_pass, flow_pass}
use Rattle.marks.specs.Marks.{meet, mark_of, marks_with}
use Rattle.marks.specs.Effect.{of_numbers, sum_mark, difference_mark, or_mark}
use Rattle.lister_rules.specs.Table.{marks_at, reached, raised_at}
use Rattle.lister_rules.specs.Rules.{entry_marks, sent_by, taken_in, closed_at, closed}
use Rattle.lister.specs.Listing.{raised_by_words, raised_once, raised_until_closed, listing_of}
use Rattle.kindrows.specs.MarkRows.{meet_rows, word_rows}
use Rattle.kindrows.specs.ListRows.{list_rows, refused_rows}
use Rattle.kindrows.specs.Table.{Holds, TableHolds}
use Rattle.kindrows.proofs.Computed.{lists_by_computing}

meets_hold : (e : Edition) → Holds e meet_rows
unfolding meet
meets_hold e = refl

words_hold : (e : Edition) → Holds e word_rows
unfolding reading_of format00 format10 format11 operand_of count_of sign_extend mark_of marks_with of_numbers sum_mark difference_mark or_mark
words_hold e = refl

lists_hold : (e : Edition) → Holds e list_rows
unfolding reading_of format00 format10 format11 operand_of count_of sign_extend lowest first all slot_runs target_of is_slot is_target any width_of least_of most_of field_at values_ok field_ok end_before field_fits field_at_ok region_ok policy_ok set_ok size_in entry_ok note_ok entry_of note_of flaw_from scratch_unset pass_of read_pass flow_pass meet mark_of marks_with of_numbers sum_mark difference_mark or_mark marks_at reached raised_at entry_marks sent_by taken_in closed_at closed raised_by_words raised_once raised_until_closed listing_of
lists_hold e = lists_by_computing e list_rows refl

refusals_hold : (e : Edition) → Holds e refused_rows
unfolding reading_of format00 format10 format11 operand_of count_of sign_extend lowest first all slot_runs target_of is_slot is_target any width_of least_of most_of field_at values_ok field_ok end_before field_fits field_at_ok region_ok policy_ok set_ok size_in entry_ok note_ok entry_of note_of flaw_from scratch_unset pass_of read_pass flow_pass meet mark_of marks_with of_numbers sum_mark difference_mark or_mark marks_at reached raised_at entry_marks sent_by taken_in closed_at closed raised_by_words raised_once raised_until_closed listing_of
refusals_hold e = lists_by_computing e refused_rows refl

pub table_holds : (e : Edition) → TableHolds e
table_holds e = record { meets = meets_hold e; words = words_hold e; lists = lists_hold e; refusals = refusals_hold e }
