-- Worked rows of histories: three sessions, of which one aborts, and one that found no memory, with
-- their logs, their lists and their print.
use Rattle.std.specs.Prelude.{◌≡◌, ℕ, true, false, List, [], ◌∷◌, map, codes}
use Rattle.std.proofs.Common.{refl}
use Rattle.ml_term.specs.Tree.{Tree}
use Rattle.ml_term.specs.declared.declaration.Decl.{Decl}
use Rattle.ml_search.specs.declared.ending.Ending.TheVariants as E
use Rattle.ml_search.specs.declared.ending.EntryEnding.{EntryEnding}
use Rattle.ml_search.specs.declared.ending.EntryEnding.TheVariants.{Committed, Aborted}
use Rattle.ml_search.specs.declared.ending.EntryEnding.TheVariants.{OutOfMemory}
use Rattle.ml_search.specs.Limits.{default_inferences}
use Rattle.ml_search.specs.Program.{Program, Script, Goal, abort}
use Rattle.ml_search.specs.Db.{at, Db}
use Rattle.ml_search.specs.History.{history}
use Rattle.ml_search.specs.Operations.{opens, next, insert, cursor, item, no_item, added, present}
use Rattle.ml_search.specs.Operations.{Log}
use Rattle.ml_search.specs.Printed.{order_of}
use Rattle.ml_search.specs.Replay.{Replays, replay}
use Rattle.ml_search.specs.Session.{line}
use Rattle.ml_search.specs.inside.RowWords.{a1, i, v0, always, relation, goal, script, lines}
use Rattle.ml_desk.specs.Sealing.{IsSealed}
use Rattle.ml_explained.specs.Explained.{Ended, lists_after_one, lists_after, IsExplained}
use Rattle.ml_explained.specs.Told.{order_of_entry, print_of_entries, entries_told}

-- :- relation(p/1).
abbrev pub decls : List Decl
decls = relation (codes "p") 1 (1 ∷ []) refl ∷ []

abbrev program : Program
program = record { decls = decls; clauses = [] }

abbrev pub p : ℕ → Tree
p n = a1 (codes "p") (i n)

abbrev putting : ℕ → Goal
putting n = goal (a1 (codes "insert_tuple") (p n)) []

-- p(1) is put; p(2) is put and the session aborts; and all tuples are looked for
abbrev scripts : List Script
scripts =
    script (putting 1 ∷ [])
    ∷ record { budget = default_inferences; goals = putting 2 ∷ []; last = abort }
    ∷ script (goal (a1 (codes "p") v0) (codes "X" ∷ []) ∷ []) ∷ []

-- no tuple, and one by the place of the entry that committed it
abbrev pub start : Db
start = [] ∷ []

abbrev one_tuple : ℕ → ℕ → Db
one_tuple k n =
    (record { id = record { place = at k; change = 0 }; term = p n } ∷ []) ∷ []

-- the lines of a session that has one goal
abbrev lines_of_goal : List ℕ → List (List ℕ)
lines_of_goal answer = map line (codes "goal 1" ∷ answer ∷ codes "  1 answers" ∷ [])

-- an entry whose session puts a tuple
abbrev pub putting_entry : ℕ → EntryEnding → ℕ → Ended
putting_entry k ending n =
    record {
      number = k;
      ending = ending;
      lines = lines_of_goal (codes "  true");
      log = (insert (p n), added) ∷ [];
    }

abbrev looking_entry : Ended
looking_entry =
    record {
      number = 3;
      ending = Committed;
      lines = lines_of_goal (codes "  X = 1");
      log = (opens 0 (a1 (codes "p") v0), cursor 0) ∷ (next 0 0, item (p 1))
          ∷ (next 0 1, no_item) ∷ [];
    }

abbrev lost_entry : Ended
lost_entry = record { number = 4; ending = OutOfMemory; lines = []; log = [] }

-- the history, in the order of its entries
abbrev pub ended : List Ended
ended =
    putting_entry 2 Aborted 2 ∷ putting_entry 1 Committed 1 ∷ lost_entry ∷ looking_entry ∷ []

-- a session that is live, which has put a tuple
abbrev pub live : List (ℕ × Log)
live = (5, (insert (p 3), added) ∷ []) ∷ []

pub record HistoryRows : Type 0 where
  -- the second entry commits at place 2, and no other changes the lists
  pub the_place_is_that_of_the_entry : lists_after decls 1 start ended ≡ one_tuple 2 1
  pub one_that_aborts_commits_nothing
      : lists_after_one decls 1 start (putting_entry 2 Aborted 2) ≡ start
  pub one_that_commits_does
      : lists_after_one decls 1 start (putting_entry 1 Committed 1) ≡ one_tuple 1 1
  pub the_history_is_explained : IsExplained decls start ended live
  -- the definition searches the scripts anew and comes to the same
  pub the_logs_tell_the_history
      : history program start scripts (map order_of_entry ended)
      ≡ (entries_told decls 1 start ended, lists_after decls 1 start ended)
  pub the_print
      : print_of_entries ended
      ≡ lines
      (codes "session 2 aborted" ∷ codes "goal 1" ∷ codes "  true" ∷ codes "  1 answers"
      ∷ codes "session 1 committed" ∷ codes "goal 1" ∷ codes "  true" ∷ codes "  1 answers"
      ∷ codes "session 4 out of memory"
      ∷ codes "session 3 committed" ∷ codes "goal 1" ∷ codes "  X = 1" ∷ codes "  1 answers" ∷ [])
  pub the_print_shows_the_order
      : order_of (print_of_entries ended)
      ≡ (2, false) ∷ (1, false) ∷ (4, true) ∷ (3, false) ∷ []
  -- an entry's log is replayed by the lists before it, and not by those after it
  pub replayed_before : Replays decls start ((insert (p 1), added) ∷ [])
  pub not_replayed_after : replay decls (one_tuple 1 1) (insert (p 1) ∷ []) ≡ present ∷ []
  -- a session that asks for nothing is sealed with an empty log
  pub a_session_is_sealed
      : IsSealed program (script (goal always [] ∷ [])) [] (lines_of_goal (codes "  true"))
      E.Committed
