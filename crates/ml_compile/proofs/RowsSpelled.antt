-- What the worked codes spell.
use Rattle.std.proofs.Common.{ℕ, ◌+◌, pos, List, [], ◌∷◌, codes, refl, arith}
use Rattle.ml_term.specs.Tree.{variable, integer, compound_1}
use Rattle.ml_search.specs.Bodies.{body_from, predication}
use Rattle.ml_compile.specs.declared.instr.Instr.{Instr}
use Rattle.ml_compile.specs.declared.instr.Instr.TheVariants.{Call, Proceed}
use Rattle.ml_compile.specs.Spells.{StandsAt, nothing_built, variable_built, integer_built, atom_built, compound_built, nothing_matched, first_matched, again_matched, integer_matched, atom_matched, compound_matched, true_spelled, fail_spelled, cut_spelled, disjunction_spelled, if_then_else_spelled, if_then_spelled, call_spelled, goal_spelled, conjunction_spelled, IsBlock, block, SpellsClause}
use Rattle.ml_compile.proofs.VariablesCounted.{below_width}
use Rattle.ml_compile.specs.inside.Rows.{pred, fact, fact_code, append_clause, append_code, goals, goals_code, alternative, alternative_code, condition, condition_code, choice, choice_code, caught, caught_code, collected, collected_code}

pub fact_spelled : SpellsClause fact_code fact
fact_spelled = record {
  body_at = 3;
  met = 0;
  enters = refl;
  head = integer_matched refl (atom_matched refl nothing_matched);
  body = block (goal_spelled (true_spelled refl)) refl;
  within = λ n h. absurd (cc h);
}

-- the goal of an atom that is no control construct, and the end of its block
atom_block : (code : List Instr) (p : ℕ) (f : List ℕ) → StandsAt code p (Call (pred f 0)) → StandsAt code (p + 1) Proceed → IsBlock code p (predication f [])
atom_block code p f s e = block (goal_spelled (call_spelled nothing_built s refl refl)) e

pub choice_spelled : IsBlock choice_code 0 (body_from choice)
choice_spelled =
    block (goal_spelled (disjunction_spelled refl (atom_block choice_code 1 (codes "a") refl refl) (atom_block choice_code 3 (codes "b") refl refl))) refl

pub condition_spelled : IsBlock condition_code 0 (body_from condition)
condition_spelled =
    block
    (goal_spelled (if_then_spelled refl (atom_block condition_code 1 (codes "a") refl refl) (atom_block condition_code 3 (codes "b") refl refl)
    (block (goal_spelled (fail_spelled refl)) refl))) refl

pub alternative_spelled : IsBlock alternative_code 0 (body_from alternative)
alternative_spelled =
    block
    (conjunction_spelled
    (goal_spelled
    (if_then_else_spelled refl (atom_block alternative_code 1 (codes "a") refl refl) (atom_block alternative_code 3 (codes "b") refl refl)
    (atom_block alternative_code 5 (codes "c") refl refl))) (goal_spelled (cut_spelled refl))) refl

pub caught_spelled : IsBlock caught_code 0 (body_from caught)
caught_spelled =
    block
    (goal_spelled
    (call_spelled
    (variable_built refl
    (variable_built refl
    (variable_built refl (compound_built (variable 0 ∷ variable 1 ∷ []) (variable 1 ∷ []) refl refl refl nothing_built)))) refl refl refl)) refl

pub collected_spelled : IsBlock collected_code 0 (body_from collected)
collected_spelled =
    block
    (goal_spelled
    (call_spelled
    (variable_built refl
    (variable_built refl (compound_built (variable 0 ∷ []) (variable 0 ∷ []) refl refl refl (variable_built refl nothing_built))))
    refl refl refl)) refl

pub goals_spelled : IsBlock goals_code 0 (body_from goals)
goals_spelled =
    block
    (conjunction_spelled
    (goal_spelled
    (call_spelled
    (variable_built refl
    (integer_built refl
    (compound_built (variable 0 ∷ []) (integer (pos 1) ∷ []) refl refl refl
    (compound_built [] (variable 0 ∷ compound_1 (codes "g") (integer (pos 1)) ∷ []) refl refl refl (atom_built refl nothing_built))))) refl refl refl))
    (goal_spelled (call_spelled (variable_built refl nothing_built) refl refl refl))) refl

pub append_spelled : SpellsClause append_code append_clause
append_spelled = record {
  body_at = 8;
  met = 4;
  enters = refl;
  head =
      compound_matched refl refl (first_matched refl (first_matched refl nothing_matched))
      (first_matched refl
      (compound_matched refl refl (again_matched refl (omega arith) (first_matched refl nothing_matched)) nothing_matched));
  body = block (goal_spelled (call_spelled (variable_built refl (variable_built refl (variable_built refl nothing_built))) refl refl refl)) refl;
  within = below_width append_clause.head append_clause.body refl;
}
