-- The worked rows, each computed.
use Rattle.std.proofs.Common.{refl}
use Rattle.ml_term.specs.Runs.{run}
use Rattle.ml_term.specs.Unify.{solve_equations}
use Rattle.ml_search.specs.Search.{search_from}
use Rattle.ml_search.specs.inside.RowsArithmetic.{ArithmeticRows}
use Rattle.ml_search.specs.inside.RowsControl.{ControlRows}
use Rattle.ml_search.specs.inside.RowsRelations.{RelationRows}
use Rattle.ml_search.specs.inside.RowsCatch.{CatchRows}
use Rattle.ml_search.specs.inside.RowsEndings.{EndingRows}
use Rattle.ml_search.specs.inside.RowsStored.{StoredRows}
use Rattle.ml_search.specs.inside.RowsTerms.{TermRows}
use Rattle.ml_search.specs.inside.RowsReplay.{ReplayRows}

pub arithmetic_rows : ArithmeticRows
unfolding run solve_equations search_from
arithmetic_rows = record {
  four_goals = (refl, refl);
  sum = (refl, refl);
  difference = (refl, refl);
  product = (refl, refl);
  opposite = (refl, refl);
  quotient_is_truncated_toward_zero = (refl, refl);
  remainder_has_the_sign_of_the_dividend = (refl, refl);
  remainder_by_a_negative_divisor = (refl, refl);
  modulo_has_the_sign_of_the_divisor = (refl, refl);
  modulo_by_a_negative_divisor = (refl, refl);
  modulo_of_a_multiple = (refl, refl);
  modulo_of_two_negatives = (refl, refl);
  the_smallest_integer = (refl, refl);
  a_sum_out_of_range = (refl, refl);
  a_difference_out_of_range = (refl, refl);
  a_quotient_out_of_range = (refl, refl);
  an_opposite_out_of_range = (refl, refl);
  a_product_out_of_range_inside = (refl, refl);
  no_quotient_by_zero = (refl, refl);
  no_remainder_by_zero = (refl, refl);
  no_modulo_by_zero = (refl, refl);
  a_variable_has_no_value = (refl, refl);
  an_atom_has_no_value = (refl, refl);
  a_compound_has_no_value = (refl, refl);
  the_operator_is_looked_at_before_its_arguments = (refl, refl);
  the_left_operand_comes_first = (refl, refl);
  a_fault_inside_comes_before_the_divisor = (refl, refl);
  values_are_equal = (refl, refl);
  values_differ = (refl, refl);
  a_value_is_less = (refl, refl);
  a_value_is_not_less_than_itself = (refl, refl);
  a_value_is_at_most_itself = (refl, refl);
  a_value_is_greater = (refl, refl);
  a_value_is_at_least_itself = (refl, refl);
  a_value_is_not_at_least_a_greater_one = (refl, refl);
  the_left_side_is_evaluated_first = (refl, refl);
  a_value_is_unified_with_the_left_side = (refl, refl);
}

pub control_rows : ControlRows
unfolding run solve_equations search_from
control_rows = record {
  clauses_are_tried_in_their_order = (refl, refl);
  a_cut_leaves_the_first_answer = (refl, refl);
  a_cut_is_local_to_its_clause = (refl, refl);
  a_cut_drops_choices_of_earlier_goals = (refl, refl);
  a_cut_in_a_goal_drops_its_choices = (refl, refl);
  a_cut_is_transparent_in_a_choice = (refl, refl);
  a_cut_is_local_to_a_call = (refl, refl);
  a_called_conjunction_cuts_its_own_choices = (refl, refl);
  a_cut_is_local_to_a_condition = (refl, refl);
  a_cut_after_a_condition_is_not = (refl, refl);
  a_cut_is_local_to_a_negation = (refl, refl);
  a_variable_body_is_called = (refl, refl);
  a_condition_takes_its_first_answer = (refl, refl);
  a_condition_without_answer_goes_on_with_the_else = (refl, refl);
  a_condition_without_else_fails_without_answer = (refl, refl);
  a_condition_does_not_try_its_then_part_twice = (refl, refl);
  a_condition_without_else_takes_one_answer = (refl, refl);
  the_then_part_keeps_its_choices = (refl, refl);
  a_choice_tries_both_sides = (refl, refl);
  a_negation_binds_nothing = (refl, refl);
  a_negation_fails_where_there_is_an_answer = (refl, refl);
  once_takes_the_first_answer = (refl, refl);
  once_keeps_the_choices_before_it = (refl, refl);
  findall_gives_the_answers_in_order = (refl, refl);
  findall_gives_the_empty_list = (refl, refl);
  findall_copies_with_new_variables = (refl, refl);
  findall_cuts_its_own_choices = (refl, refl);
  three_goals = (refl, refl);
  a_variable_is_in_no_term_that_it_equals = (refl, refl);
  a_list_is_printed_in_brackets = (refl, refl);
  two_variables_print_alike = (refl, refl);
}

pub relation_rows : RelationRows
unfolding run solve_equations search_from
relation_rows = record {
  tuples_come_in_key_order = (refl, refl);
  bits_of_the_keys_alternate = (refl, refl);
  the_first_argument_as_the_only_key = (refl, refl);
  the_second_argument_as_the_only_key = (refl, refl);
  equal_codes_do_not_mix_tuples = (refl, refl);
  a_fact_that_is_given_twice_is_there_once = (refl, refl);
  a_call_does_not_see_what_it_inserts = (refl, refl);
  a_tuple_that_is_there_is_inserted_once_more = (refl, refl);
  a_change_stays_where_its_branch_fails = (refl, refl);
  a_deleted_tuple_is_gone = (refl, refl);
  a_tuple_that_is_not_there_cannot_be_deleted = (refl, refl);
  a_budget_that_is_enough = (refl, refl);
  a_budget_that_is_not = (refl, refl);
  a_session_that_fails_changes_nothing = (refl, refl);
  a_session_that_commits_is_seen_by_the_next = (refl, refl);
}

pub catch_rows : CatchRows
unfolding run solve_equations search_from
catch_rows = record {
  an_error_is_caught_with_its_term = (refl, refl);
  a_change_stays_where_a_ball_is_caught = (refl, refl);
  a_ball_that_no_catcher_takes = (refl, refl);
  a_used_up_budget_is_never_caught = (refl, refl);
  a_ball_undoes_bindings = (refl, refl);
  the_recovery_sees_the_ball = (refl, refl);
  no_choice_of_the_goal_remains = (refl, refl);
  a_goal_keeps_its_choices_without_a_ball = (refl, refl);
  a_cut_is_local_to_the_goal = (refl, refl);
  the_nearest_catcher_that_unifies_takes_it = (refl, refl);
  a_ball_of_the_recovery_goes_further_out = (refl, refl);
  a_catcher_is_gone_once_its_goal_is_left = (refl, refl);
  a_ball_leaves_a_negation = (refl, refl);
  a_ball_leaves_a_condition = (refl, refl);
  a_ball_leaves_a_findall = (refl, refl);
  a_catcher_is_seen_behind_other_goals = (refl, refl);
  a_ball_is_a_copy = (refl, refl);
  a_findall_inside_a_catch_keeps_the_choices_before_it = (refl, refl);
  the_context_of_an_error_is_a_new_variable = (refl, refl);
  a_ball_is_printed_with_its_variables = (refl, refl);
  a_goal_that_is_no_goal_is_not_caught_here = (refl, refl);
  a_variable_goal_is_not_caught_here = (refl, refl);
  a_further_catcher_takes_such_an_error = (refl, refl);
  an_error_of_the_user_is_printed_by_its_first_argument = (refl, refl);
  a_variable_is_no_ball = (refl, refl);
  an_unknown_predicate = (refl, refl);
  an_unknown_predicate_uses_no_inference = (refl, refl);
  a_variable_is_no_goal = (refl, refl);
  an_integer_in_a_goal_is_none = (refl, refl);
  findall_wants_a_list = (refl, refl);
}

pub ending_rows : EndingRows
unfolding run solve_equations search_from
ending_rows = record {
  a_script_that_says_nothing_commits = (refl, refl);
  a_script_may_abort = (refl, refl);
  an_answer_refuses_the_commit = (refl, refl);
  no_answer_lets_it_commit = (refl, refl);
  the_last_goal_may_raise = (refl, refl);
  the_last_goal_uses_what_is_left_of_the_budget = (refl, refl);
  what_the_last_goal_changes_is_committed = (refl, refl);
  an_answer_refuses_though_the_search_would_raise = (refl, refl);
  the_first_raised_term_ends_the_session = (refl, refl);
  an_entry_out_of_memory_has_no_lines = refl;
  a_print_shows_its_order = refl;
  bytes_after_the_last_line_feed_show_nothing = refl;
  a_line_of_another_form_shows_nothing = refl;
  a_firm = (refl, refl);
}

pub stored_rows : StoredRows
unfolding run solve_equations search_from
stored_rows = record {
  a_variable_in_a_stored_clause_fits_every_pattern = (refl, refl);
  clauses_are_put_first_and_last = (refl, refl);
  clauses_are_put_round_those_that_are_there = (refl, refl);
  a_call_does_not_see_what_it_asserts = (refl, refl);
  a_call_still_gives_what_is_retracted_meanwhile = (refl, refl);
  a_clause_that_was_retracted_is_retracted_no_more = (refl, refl);
  retract_uses_one_for_each_head_that_unifies = (refl, refl);
  a_stored_clause_has_variables_of_its_own = (refl, refl);
  a_clause_is_retracted_once = (refl, refl);
  retract_takes_one_after_another = (refl, refl);
  retract_wants_the_body_too = (refl, refl);
  retract_finds_the_body = (refl, refl);
  a_stored_rule_is_run = (refl, refl);
  a_variable_body_stays_a_variable = (refl, refl);
  committed_clauses_keep_their_order = (refl, refl);
  a_variable_is_no_tuple = (refl, refl);
  an_integer_is_no_tuple = (refl, refl);
  an_unknown_tuple = (refl, refl);
  a_stored_clause_is_no_tuple = (refl, refl);
  a_built_in_is_no_tuple = (refl, refl);
  a_tuple_has_no_variable = (refl, refl);
  a_variable_is_no_head = (refl, refl);
  an_integer_is_no_head = (refl, refl);
  an_unknown_head = (refl, refl);
  a_program_predicate_cannot_be_changed = (refl, refl);
  a_relation_has_no_clauses = (refl, refl);
  a_body_is_callable = (refl, refl);
}

pub term_rows : TermRows
unfolding run solve_equations search_from
term_rows = record {
  a_variable_is_one = (refl, refl);
  an_atom_is_no_variable = (refl, refl);
  an_atom_is_an_atom = (refl, refl);
  an_integer_is_an_integer = (refl, refl);
  an_integer_is_atomic = (refl, refl);
  a_compound_is_not_atomic = (refl, refl);
  a_compound_is_compound = (refl, refl);
  an_atom_is_callable = (refl, refl);
  an_integer_is_not_callable = (refl, refl);
  a_term_with_a_variable_is_not_ground = (refl, refl);
  terms_that_do_not_unify = (refl, refl);
  two_variables_are_not_the_same = (refl, refl);
  an_older_variable_comes_first = (refl, refl);
  a_variable_comes_before_an_integer = (refl, refl);
  an_integer_comes_before_an_atom = (refl, refl);
  an_arity_counts_before_a_name = (refl, refl);
  a_term_is_at_most_itself = (refl, refl);
  functor_takes_a_compound_apart = (refl, refl);
  functor_takes_an_integer = (refl, refl);
  functor_makes_a_compound = (refl, refl);
  functor_makes_an_atomic_term = (refl, refl);
  functor_wants_a_name = (refl, refl);
  functor_wants_an_integer = (refl, refl);
  functor_wants_an_atomic_name = (refl, refl);
  functor_wants_no_negative_arity = (refl, refl);
  functor_makes_255_arguments_at_most = (refl, refl);
  functor_wants_an_atom_for_a_compound = (refl, refl);
  arg_gives_an_argument = (refl, refl);
  arg_fails_beyond_the_arity = (refl, refl);
  arg_fails_at_zero = (refl, refl);
  arg_wants_a_compound = (refl, refl);
  arg_wants_no_negative_number = (refl, refl);
  univ_takes_a_compound_apart = (refl, refl);
  univ_of_an_integer = (refl, refl);
  univ_makes_a_compound = (refl, refl);
  univ_of_a_bound_term_only_unifies = (refl, refl);
  univ_wants_a_whole_list = (refl, refl);
  univ_wants_a_list = (refl, refl);
  univ_wants_an_element = (refl, refl);
  univ_wants_an_atomic_name = (refl, refl);
  univ_wants_an_atom_before_arguments = (refl, refl);
  a_copy_has_new_variables = (refl, refl);
  a_copy_is_unified = (refl, refl);
  names_are_quoted_where_they_must_be = (refl, refl);
  a_shared_term_of_4095_nodes_is_an_answer = refl;
  a_larger_one_is_not_printed = (refl, refl);
}

pub replay_rows : ReplayRows
unfolding run solve_equations search_from
replay_rows = record {
  tuples_may_be_asked_for = refl;
  replies_about_tuples = refl;
  told_about_tuples = refl;
  tuples_after = refl;
  clauses_may_be_asked_for = refl;
  replies_about_clauses = refl;
  told_about_clauses = refl;
  clauses_after = refl;
}
