-- The worked rows, each computed.
use Rattle.std.specs.Prelude.{◌≡◌, ℕ, zero, suc, true, [], ◌∷◌, Contains}
use Rattle.std.specs.List.{AllPairs}
use Rattle.std.proofs.Common.{inl, inr, refl, ap, subst, arith}
use Rattle.ml_term.specs.Runs.{run}
use Rattle.ml_term.specs.Unify.{solve_equations}
use Rattle.ml_search.specs.Operations.{insert, added, Log, is_log}
use Rattle.ml_search.specs.Search.{search_from}
use Rattle.ml_search.specs.Replay.{Replays}
use Rattle.ml_isolation.proofs.Members.{holds_among}
use Rattle.ml_isolation.proofs.Ordered.{Each}
use Rattle.ml_isolation.proofs.OneOrder.{all_pairs}
use Rattle.ml_desk.specs.Sealing.{IsSealed}
use Rattle.ml_explained.specs.Explained.{Ended, lists_after, AreReplayed, IsExplained}
use Rattle.ml_explained.specs.inside.HistoryRows.{HistoryRows, decls, p, start, ended, live}

one_live : (k : ℕ) (l : Log) → Contains live (k, l) → (insert (p 3), added) ∷ [] ≡ l
one_live k l (zero, b, e) = ap (λ x. x.1) e
one_live k l (suc n, b, e) = absurd (omega (arith, b))

row_replayed : AreReplayed decls 1 start ended
unfolding run solve_equations
row_replayed = (λ m. refl, (λ m. refl, (λ m. refl, (λ m. refl, tt))))

row_present : Replays decls (lists_after decls 1 start ended) ((insert (p 3), added) ∷ [])
unfolding run solve_equations
row_present = refl

row_lawful : Each (λ (e : Ended). is_log decls e.log ≡ true) ended
unfolding run solve_equations
row_lawful = (refl, (refl, (refl, (refl, tt))))

row_live_lawful : is_log decls ((insert (p 3), added) ∷ []) ≡ true
unfolding run solve_equations
row_live_lawful = refl

row_once : AllPairs (λ (a b : Ended). a.number ≡ b.number → ⊥) ended
row_once =
    all_pairs (λ (a b : Ended). a.number ≡ b.number → ⊥) ended
    ((λ e. cc e, (λ e. cc e, (λ e. cc e, tt))), ((λ e. cc e, (λ e. cc e, tt)), ((λ e. cc e, tt), (tt, tt))))

row_explained : IsExplained decls start ended live
row_explained = record {
  begins = refl;
  loaded = refl;
  entries = row_replayed;
  present = λ k l c. subst (Replays decls (lists_after decls 1 start ended)) (one_live k l c) row_present;
  lawful = λ l w. elim w [
    | inl e ↦
        subst (λ z. is_log decls z ≡ true) e.1.1 (holds_among (λ (e : Ended). is_log decls e.log ≡ true) ended e.0 e.1.0 row_lawful)
    | inr k ↦ subst (λ z. is_log decls z ≡ true) (one_live k.0 l k.1) row_live_lawful
  ];
  once = row_once;
}

pub history_rows : HistoryRows
unfolding run solve_equations search_from IsSealed
history_rows = record {
  the_place_is_that_of_the_entry = refl;
  one_that_aborts_commits_nothing = refl;
  one_that_commits_does = refl;
  the_history_is_explained = row_explained;
  the_logs_tell_the_history = refl;
  the_print = refl;
  the_print_shows_the_order = refl;
  replayed_before = refl;
  not_replayed_after = refl;
  a_session_is_sealed = λ db h q r. record {
    lines_are = refl;
    ending_is = refl;
    lists_are = λ e. refl;
    changes_are = λ e. refl;
  };
}
