-- Every definition opened, so that closed examples compute: say `unfolding opens`.
use Rattle.model.specs.Aggregate.{total, lesser, greater, least_from, greatest_from, sum_of, min_of, max_of, ave_of}
use Rattle.model.specs.Aggregate.{present_of, aggregate_of}
use Rattle.model.specs.Answer.{settled, ran_to, outcome_of, answer_of, written_of, result_after, work_after}
use Rattle.model.specs.Checks.{counts_fit, placed, block_there, all_there, block_bound, all_bound, ratio_at}
use Rattle.model.specs.Format.{after, ◌>>=◌, give, fail, only, times, byte, eight, number64, signed}
use Rattle.model.specs.Format.{aggregate_is, element_of, element, relation, condition, output}
use Rattle.model.specs.Index.{by_value, index_of, index_causes, index_number, index_after}
use Rattle.model.specs.Listing.{contents, part_of, parts, job_of, signed32, words_of, digits_in, digits, integer_text}
use Rattle.model.specs.Listing.{value_text, row_text, rows_text, ok_line, no_line, answer_text, job_text, listing_of}
use Rattle.model.specs.Lists.{all, any, filter, sum_over, overwrite, range, concat_map}
use Rattle.model.specs.Matching.{live, matches, value_at, holds, no_sets, plain_hold, passing, held_matches}
use Rattle.model.specs.Matching.{output_rows, set_of, children, large_below, result, too_large}
use Rattle.model.specs.Plan.{admits, plan_of, plan_record, plan_admitted}
use Rattle.model.specs.Question.{plain, in_rows, in_conditions, names_in, row_elements, other_elements, elements}
use Rattle.model.specs.Records.{marked, many, one, block, ends, question, well_formed, question_of}
use Rattle.model.specs.Refusal.{first_of, work_long, result_long, buffer_causes, data_causes, question_causes}
use Rattle.model.specs.Refusal.{plan_causes, causes, refusal}
use Rattle.model.specs.RowSet.{lexicographic, insert, canon, row_words, set_words}
use Rattle.model.specs.Scan.{unbound, bind, guard, match_variable, match_fixed, match_entry, and_then, match_row}
use Rattle.model.specs.Scan.{add_match, scan_rows}
use Rattle.model.specs.Scope.{owns, refers, within, subtree, owned_in, referred_in, outside, outsiders, level_of}
use Rattle.model.specs.Tables.{tables, columns, rows, cells_before, table_at, row_step, column_step, cell, table_row}
use Rattle.model.specs.Tables.{table_rows, laid_out, in_range}
use Rattle.model.specs.Trials.{wanted, rows_having, tried_rows, file_trials, own_trials, wants, firsts, evaluated_at}
use Rattle.model.specs.Trials.{trials_in, trials}
use Rattle.model.specs.Value.{gcd_in, gcd, div_z, ratio, compare_z, equal_z, present, order_present, order, meets}

unfoldable pub opens : Unit {0}
unfolding all any filter sum_over overwrite range concat_map tables columns rows cells_before table_at row_step column_step
    cell table_row table_rows laid_out in_range gcd_in gcd div_z ratio compare_z equal_z present order_present order meets
    lexicographic insert canon row_words set_words total lesser greater least_from greatest_from sum_of min_of max_of ave_of
    present_of aggregate_of plain in_rows
    in_conditions names_in row_elements other_elements elements after ◌>>=◌ give fail only times byte eight number64
    signed aggregate_is element_of element relation condition output marked many one block ends question well_formed
    question_of owns refers within subtree owned_in referred_in outside outsiders level_of counts_fit placed block_there
    all_there block_bound all_bound ratio_at unbound bind guard match_variable match_fixed match_entry and_then match_row
    add_match scan_rows live matches value_at holds no_sets plain_hold passing held_matches output_rows set_of children
    large_below result too_large admits plan_of plan_record plan_admitted wanted rows_having tried_rows file_trials own_trials
    wants firsts evaluated_at trials_in trials first_of work_long result_long buffer_causes data_causes question_causes
    plan_causes causes refusal by_value index_of index_causes index_number index_after settled ran_to outcome_of answer_of
    written_of result_after work_after contents part_of parts job_of signed32 words_of digits_in digits integer_text value_text
    row_text rows_text ok_line no_line answer_text job_text listing_of
opens = tt
