-- What the table of declarations keeps. No public clause cites this module.
use Rattle.std.specs.Prelude.{◌≡◌, ◌≤◌, List, length, map, IsTrue}
use Rattle.ml_term.specs.declared.declaration.Decl.{Decl}
use Rattle.ml_term.specs.declared.declaration.Pred.{Pred}
use Rattle.ml_search.specs.Limits.{max_declarations}
use Rattle.ml_search.specs.WellFormed.{are_declared_once}

-- each declaration stands under its predicate, no two are of one predicate, and there are not too
-- many
pub record IsDeclared (entries : List (Pred × Decl)) : Type 0 where
  pub by_predicate : map (λ e. e.0) entries ≡ map (λ e. e.1.pred) entries
  pub once : IsTrue (are_declared_once (map (λ e. e.1) entries))
  pub few : length entries ≤ max_declarations
