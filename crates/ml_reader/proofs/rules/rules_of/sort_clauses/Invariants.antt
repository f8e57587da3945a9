use Rattle.std.proofs.Common.{map}
use Rattle.ml_search.specs.ClauseSeen.{clauses_seen}
use Rattle.ml_search.specs.ItemsSeen.{items_seen}
use Rattle.ml_reader.specs.Seen.{read_seen}
use Rattle.ml_reader.proofs.RuleReading.SortedClauses.{SoFar}
use Rattle.ml_reader.proofs.rules.rules_of.sort_clauses.Given as goal

-- the clauses and the items so far, before those that are left
abbrev pub invariant-loop-read : goal.invariant-loop-read
invariant-loop-read l =
    (goal.iterator-loop-read).can_next l.read-iterator ×
    (goal.iterator-loop-read).is_finite l.read-iterator ×
    SoFar (map read_seen l.fn.reads.items) l.fn.decls (map read_seen l.read-iterator.rest.items) (clauses_seen l.clauses.items) (items_seen l.items.items)
