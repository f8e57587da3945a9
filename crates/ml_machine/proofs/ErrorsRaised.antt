-- An error is raised: its ball goes from the goals behind on.
use Rattle.std.specs.Prelude.{◌≡◌, ℕ, Bool, true, false, cond, List, IsTrue, codes}
use Rattle.std.proofs.Common.{refl, sym, ap, ◌∙◌, subst}
use Rattle.ml_term.specs.Tree.{Tree, compound_2, variable}
use Rattle.ml_term.specs.Seen.{seen}
use Rattle.ml_term.specs.Valid.{is_valid}
use Rattle.ml_term.specs.declared.term.Term.{Term}
use Rattle.ml_search.specs.Errors.{is_too_large, kept_small, resource_error, error_ball}
use Rattle.ml_search.specs.Program.{Program}
use Rattle.ml_asking.specs.TurnWords.{throw_move}
use Rattle.ml_heap.specs.Changes.{variable_count}
use Rattle.ml_stack.specs.Memories.{CompiledProcedure}
use Rattle.ml_machine.specs.declared.machine.Machine.{Machine}
use Rattle.ml_machine.specs.declared.position.Position.TheVariants.{Throws}
use Rattle.ml_machine.specs.declared.position.Then.TheVariants.{Goes}
use Rattle.ml_machine.specs.Positions.{at_ball}
use Rattle.ml_machine.specs.Steps.{Follows}
use Rattle.ml_machine.specs.Controls.{RaisesTo}

-- what is kept small stays as it is
pub small_twice : (t : Tree) → kept_small (kept_small t) ≡ kept_small t
small_twice t = by_size (is_too_large t) refl
  where
    by_size : (b : Bool) → is_too_large t ≡ b → kept_small (cond b (resource_error (codes "term")) t) ≡ cond b (resource_error (codes "term")) t
    by_size true e = refl
    by_size false e = ap (λ b. cond b (resource_error (codes "term")) t) e

pub ball_raised : (p : Program) (ps : List CompiledProcedure) (s : Machine) (ball : Term) (error : Term) (t : Tree) (next count : ℕ) →
    count ≡ variable_count s.memory.heap
    → seen ball ≡ error_ball (seen error) count → IsTrue (is_valid (seen ball)) → kept_small t ≡ kept_small (seen error) →
    RaisesTo p ps s t next s (Goes (Throws ball next))
ball_raised p ps s ball error t next count is_count is_ball valid same written v r =
    let n : r.b.next ≡ count = r.terms.next ∙ sym is_count in
    let here : error_ball t r.b.next ≡ seen ball =
    ap (λ x. compound_2 (codes "error") x (variable r.b.next)) same ∙ (ap (λ k. compound_2 (codes "error") (kept_small (seen error)) (variable k)) n
    ∙ sym is_ball) in
    record {
      move = throw_move (seen ball) (variable_count s.memory.heap) r.behind_goal r.w.choice_points r.m;
      follows = subst (λ x. Follows p v (throw_move x (variable_count s.memory.heap) r.behind_goal r.w.choice_points r.m)) here
          (subst (λ k. Follows p v (throw_move (error_ball t r.b.next) k r.behind_goal r.w.choice_points r.m)) r.terms.next r.follows);
      is_at = at_ball r.behind valid r.continues refl;
    }
