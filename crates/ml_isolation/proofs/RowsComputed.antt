-- The worked rows, each computed.
use Rattle.std.specs.Prelude.{◌≡◌, ℕ, zero, suc, [], ◌∷◌, Contains}
use Rattle.std.proofs.Common.{refl, sym, ap, subst, arith}
use Rattle.ml_term.specs.Tree.{Tree}
use Rattle.ml_term.specs.Runs.{run}
use Rattle.ml_term.specs.Unify.{solve_equations}
use Rattle.ml_search.specs.Operations.{assertz, added}
use Rattle.ml_isolation.specs.Logs.{IsRelation, IsApartFrom}
use Rattle.ml_isolation.specs.inside.ListRows.{ListRows, decls, r}
use Rattle.ml_isolation.specs.inside.LogRows.{LogRows}

pub list_rows : ListRows
unfolding run solve_equations
list_rows = record {
  items_are_allowed = refl;
  a_tuple_is_loaded_once = refl;
  loaded_lists_are_lists = refl;
  loaded_items_have_place_0 = refl;
  the_first_log_may_be_asked = refl;
  the_first_log_is_replayed = refl;
  own_items_stand_in_order = refl;
  own_items_are_not_committed = refl;
  own_items_are_committed_at_their_place = refl;
  committed_lists_are_lists = refl;
  committed_items_have_places_below_2 = refl;
  a_later_place_is_needed = refl;
  the_second_log_may_be_asked = refl;
  the_second_log_is_replayed = refl;
  what_the_second_log_changed = refl;
  a_commit_gives_the_same = refl;
  these_are_lists = refl;
  an_earlier_place_is_refused = refl;
}

-- what one log wrote and asked for
one_only : {A : Type 0} (x z : A) → Contains (x ∷ []) z → x ≡ z
one_only x z (zero, l, e) = e
one_only x z (suc k, l, e) = absurd (omega (arith, l))

no_relation : (d : ℕ) (t u : Tree) → ◌≡◌ {A = ℕ × Tree} (1, u) (d, t) → IsRelation decls d → ⊥
no_relation d t u e h = let q : d ≡ 1 = sym (ap (λ x. x.0) e) in cc (subst (IsRelation decls) q h)

one_clause_by_both : IsApartFrom decls ((assertz (r 7), added) ∷ []) ((assertz (r 7), added) ∷ [])
one_clause_by_both = record {
  unread = λ d p t c h. absurd (omega (arith, h.1));
  unwritten = λ d t h c e. no_relation d t (r 7) (one_only (1, r 7) (d, t) c) h;
}

pub log_rows : LogRows
unfolding run solve_equations
log_rows = record {
  patterns_are_those_of_the_list = refl;
  another_list_has_none = refl;
  all_that_was_written = refl;
  what_is_full_concerns_nothing = refl;
  a_pattern_meets_a_clause = refl;
  a_pattern_meets_no_other_one = refl;
  both_may_put_a_clause = one_clause_by_both;
  the_clause_is_put = refl;
  and_put_again = refl;
  both_clauses_stand = refl;
  clauses_are_read = refl;
  another_clause_is_read = refl;
  the_clause_is_dropped = refl;
  what_is_dropped_is_written = refl;
  the_dropped_clause_is_not_read = refl;
  the_tuple_is_put = refl;
  nobody_read_it = refl;
  and_is_there_then = refl;
  the_tuple_is_there = refl;
  what_is_there_is_written = refl;
  the_tuple_is_taken = refl;
  and_is_put_then = refl;
  the_cursor_log_may_be_asked = refl;
  the_cursor_log_is_replayed = refl;
  a_cursor_has_what_was_there = refl;
  it_went_and_came = refl;
  it_was_put_once = refl;
  nothing_was_done = refl;
  it_was_dropped = refl;
  an_own_clause = refl;
  a_note_counts_behind_its_place = refl;
  the_first_note_counts = refl;
  the_last_note_counts = refl;
}
