-- What clauses of the code are seen as: the same, with trees in place of terms.
use Rattle.std.specs.Prelude.{List, map}
use Rattle.ml_term.specs.Seen.{seen}
use Rattle.ml_search.specs.declared.clause.Clause as C
use Rattle.ml_search.specs.Program.{Clause}

-- the clause that it is
abbrev pub clause_seen : C.Clause → Clause
clause_seen c = record { head = seen c.head; body = seen c.body }

-- the clauses that they are
abbrev pub clauses_seen : List C.Clause → List Clause
clauses_seen = map clause_seen
