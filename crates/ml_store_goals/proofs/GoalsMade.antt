-- What a goal comes to, by what its checks found.
use Rattle.std.specs.Prelude.{◌≡◌, Option, None}
use Rattle.std.proofs.Common.{ap}
use Rattle.ml_term.specs.Tree.{Tree}
use Rattle.ml_term.specs.declared.term.Term.{Term}
use Rattle.ml_search.specs.Actions.{Procedure}
use Rattle.ml_search.specs.Procedures.{procedure_unless}
use Rattle.ml_search.specs.Program.{Program}
use Rattle.ml_store_goals.specs.Goals.{RaisesTerm}
use Rattle.ml_store_goals.specs.inside.Checks.{IsFound}

module _ (p : Program) (k : Procedure) (fault : Option Tree) where
  pub refused_raises : (error : Term) → IsFound fault error → RaisesTerm (procedure_unless p fault k) error
  refused_raises error found = record {
    term = found.term;
    is = ap (λ o. procedure_unless p o k) found.is;
    same = found.same;
    valid = found.valid;
  }

  pub passed_is : fault ≡ None → procedure_unless p fault k ≡ k
  passed_is none = ap (λ o. procedure_unless p o k) none
