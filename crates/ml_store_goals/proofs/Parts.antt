-- The checks of a built-in are those of a part and of the parts behind it.
use Rattle.std.specs.Prelude.{◌≡◌, ℕ, Bool, true, false, cond, List, [], ◌∷◌, ◌++◌, Option, Some, None, IsTrue}
use Rattle.std.proofs.Common.{refl, ap, ◌∙◌, sym, subst, ◌≤◌}
use Rattle.std.proofs.lemmas.Bool.{ltb-false}
use Rattle.ml_term.specs.Tree.{Tree, nodes}
use Rattle.ml_term.specs.Seen.{seen}
use Rattle.ml_term.specs.Valid.{is_valid}
use Rattle.ml_term.specs.declared.declaration.Kind.TheVariants.{Relation, Clauses}
use Rattle.ml_term.specs.declared.term.Term.{Term}
use Rattle.ml_search.specs.Builtins.{or_else}
use Rattle.ml_search.specs.Errors.{first_fault, is_too_large, kept_small}
use Rattle.ml_search.specs.Procedures.{tuple_fault, retract_fault, assert_fault}
use Rattle.ml_search.specs.Program.{Program}
use Rattle.ml_store_goals.specs.inside.Checks.{head_checks, head_fault, relation_checks, relation_fault, size_checks, size_fault, body_fault, clause_fault, IsFound}
use Rattle.ml_store_goals.specs.inside.Checks.{IsListed}
use Rattle.ml_store_goals.specs.declared.checked.Listed.{Listed}
use Rattle.ml_store_goals.specs.declared.checked.Listed.TheVariants as listed

-- the checks of two lists, one behind the other
pub faults_more : (cs ds : List (Bool × Tree)) → first_fault (cs ++ ds) ≡ or_else (first_fault cs) (first_fault ds)
faults_more [] ds = refl
faults_more (c ∷ cs) ds = by c.0 (faults_more cs ds)
  where
    by : (b : Bool) → first_fault (cs ++ ds) ≡ or_else (first_fault cs) (first_fault ds) →
        cond b (Some c.1) (first_fault (cs ++ ds)) ≡ or_else (cond b (Some c.1) (first_fault cs)) (first_fault ds)
    by true e = refl
    by false e = e

-- nothing is found in the first part
pub behind : (first next : Option Tree) → first ≡ None → or_else first next ≡ next
behind first next e = ap (λ o. or_else o next) e

-- a fault is found in the first part
pub found_before : (first next : Option Tree) (error : Term) → IsFound first error → IsFound (or_else first next) error
found_before first next error found = record {
  term = found.term;
  is = ap (λ o. or_else o next) found.is;
  same = found.same;
  valid = found.valid;
}

-- what the checks of a predicate found
pub found_listed : (fault : Option Tree) (list : ℕ) (l : Listed) (error : Term) → IsListed fault list l → l ≡ listed.Raises error → IsFound fault error
found_listed fault list l error h is = subst (λ (x : Listed). IsListed fault list x) is h

pub none_listed : (fault : Option Tree) (list : ℕ) (l : Listed) (d : ℕ) → IsListed fault list l → l ≡ listed.List d → (fault ≡ None) × (list ≡ d)
none_listed fault list l d h is = subst (λ (x : Listed). IsListed fault list x) is h

-- a fault is the given term
pub found_as : (fault : Option Tree) (t : Tree) (error : Term) → fault ≡ Some t → seen error ≡ t → IsTrue (is_valid (seen error)) → IsFound fault error
found_as fault t error is e valid = record {
  term = t;
  is = is;
  same = ap kept_small (sym e);
  valid = valid;
}

module _ (p : Program) where
  pub tuple_parts : (t : Tree) → tuple_fault p t ≡ or_else (head_fault p Relation t) (relation_fault t)
  tuple_parts t = faults_more (head_checks p Relation t) (relation_checks t)

  pub retract_parts : (h b : Tree) → retract_fault p h b ≡ or_else (head_fault p Clauses h) (size_fault h b)
  retract_parts h b = faults_more (head_checks p Clauses h) (size_checks h b)

  pub assert_parts : (h b : Tree) → assert_fault p h b ≡ or_else (head_fault p Clauses h) (clause_fault h b)
  assert_parts h b = ap (λ o. or_else o (body_fault h b)) (retract_parts h b) ∙ joined (head_fault p Clauses h) (size_fault h b) (body_fault h b)
    where
      joined : (x y z : Option Tree) → or_else (or_else x y) z ≡ or_else x (or_else y z)
      joined None y z = refl
      joined (Some t) y z = refl

-- what isn't too large has few nodes
pub few_nodes : (t : Tree) → is_too_large t ≡ false → nodes t ≤ 4096
few_nodes t e = ltb-false 4096 (nodes t) e
