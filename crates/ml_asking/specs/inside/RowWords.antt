-- Words for worked rows of a search that asks, led by the replies of plain lists. No public clause
-- cites this module.
use Rattle.std.specs.Prelude.{◌≡◌, ℕ, zero, suc, true, List, [], ◌∷◌, ◌++◌, map, Option, Some, None}
use Rattle.ml_term.specs.Tree.{Tree}
use Rattle.ml_search.specs.Program.{Program}
use Rattle.ml_search.specs.Db.{Db}
use Rattle.ml_search.specs.Loading.{first_db}
use Rattle.ml_search.specs.Search.{search_of}
use Rattle.ml_search.specs.Operations.{Log, is_log}
use Rattle.ml_search.specs.Replay.{Store, reply, store_after, first_store}
use Rattle.ml_search.specs.inside.RowWords.{Rules}
use Rattle.ml_asking.specs.Asking.{Conclusion, Move, finish, go_on, request, turn, begin}
use Rattle.ml_asking.specs.Leads.{lists_after}

-- at most n moves from one over plain lists, with the log that grows: the conclusion and the log
abbrev pub lead_over : Program → ℕ → Move → Store → Log → Option (Conclusion × Log)
lead_over program zero v s l = None
lead_over program (suc n) (finish o) s l = Some (o, l)
lead_over program (suc n) (go_on m) s l = lead_over program n (turn program m) s l
lead_over program (suc n) (request o f) s l =
    lead_over program n (f (reply program.decls o s).0) (reply program.decls o s).1
    (l ++ (o, (reply program.decls o s).0) ∷ [])

-- the lists with which rules begin
abbrev pub lists_of : Rules → Db
lists_of r = first_db r.program.decls r.items

-- A goal with its asked terms, the number of the next variable and the inferences left, where a log
-- stands before: it comes to this conclusion and asks this, each operation may be asked and has its
-- reply, and the search over the lists comes to the same.
abbrev pub AsksAfter : Log → Rules → Tree → List Tree → ℕ → ℕ → Conclusion → Log → Type 0
AsksAfter before r goal terms number left o asked =
    (lead_over r.program 200 (go_on (begin goal terms number left))
    (store_after r.program.decls (map (λ e. e.0) before)
    (first_store r.program.decls (lists_of r))) before ≡ Some (o, before ++ asked))
    × (is_log r.program.decls (before ++ asked) ≡ true)
    × (search_of r.program goal terms number (lists_after r.program.decls (lists_of r) before) left
    ≡ record {
      found = o.found;
      end = o.end;
      lists = lists_after r.program.decls (lists_of r) (before ++ asked);
      left = o.left;
    })

-- the same where nothing stands before, with 100 inferences
abbrev pub Asks : Rules → Tree → List Tree → ℕ → Conclusion → Log → Type 0
Asks r goal terms number o asked = AsksAfter [] r goal terms number 100 o asked
