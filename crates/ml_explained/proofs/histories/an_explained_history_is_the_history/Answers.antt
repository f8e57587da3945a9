use Rattle.std.specs.Prelude.{◌≡◌, Bool, ℕ, map}
use Rattle.std.proofs.Common.{sym, ap, ◌∙◌}
use Rattle.ml_search.specs.History.{history}
use Rattle.ml_search.specs.Printed.{order_of, print_of}
use Rattle.ml_search.proofs.PrintedOrders.{print_shows_order}
use Rattle.ml_explained.specs.Told.{order_of_entry}
use Rattle.ml_explained.proofs.Entered.{pairs_map}
use Rattle.ml_explained.proofs.ToldHistories.{history_is_told, print_is_told, order_is_told}
use Rattle.ml_explained.proofs.histories.an_explained_history_is_the_history.Goals as goal

pub returns-clause-history : goal.returns-clause-history
returns-clause-history c = history_is_told

pub returns-clause-print : goal.returns-clause-print
returns-clause-print c = print_is_told

pub returns-clause-order : goal.returns-clause-order
returns-clause-order c program scripts start ended live x means printable numbers =
    ap order_of (print_is_told program scripts start ended live x means)
    ∙ (print_shows_order program start scripts (map order_of_entry ended) printable numbers ∙ order_is_told program scripts start ended live x means)

pub returns-clause-shown : goal.returns-clause-shown
returns-clause-shown c program scripts start ended live x means printable numbers =
    print_is_told program scripts start ended live x means
    ∙ ap (λ o. print_of (history program start scripts o).0) (sym (returns-clause-order c program scripts start ended live x means printable numbers))

pub returns-clause-once : goal.returns-clause-once
returns-clause-once c program start ended live x = pairs_map order_of_entry (λ (a b : ℕ × Bool). a.0 ≡ b.0 → ⊥) ended x.once
