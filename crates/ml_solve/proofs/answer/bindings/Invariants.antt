use Rattle.std.proofs.Common.{◌≡◌, ◌++◌, false, List, drop, length, map, take}
use Rattle.std.specs.List.{filter, list_any}
use Rattle.ml_term.specs.Seen.{seen}
use Rattle.ml_term.specs.Tree.{Tree}
use Rattle.ml_search.specs.Errors.{is_too_large}
use Rattle.ml_search.specs.Session.{is_shown}
use Rattle.ml_solve.specs.inside.Searching.{StandsForAnswer}
use Rattle.ml_solve.proofs.answer.bindings.Given as goal

-- the names so far and those that are left, and the first terms
abbrev pub invariant-loop-name : goal.invariant-loop-name
invariant-loop-name l = record {
  names : map (λ b. b.0) l.bindings.items ++ map (λ e. e.0) (filter is_shown (drop l.name-index l.names)) ≡ map (λ e. e.0) (filter is_shown l.names);
  terms : (ts : List Tree) → StandsForAnswer l.machine ts → map (λ b. seen b.1) l.bindings.items ≡ take (length l.bindings.items) ts;
  small : list_any is_too_large (map (λ b. seen b.1) l.bindings.items) ≡ false;
}
