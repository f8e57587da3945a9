use Rattle.std.proofs.Common.{◌≡◌, true, codes, sym, ap, ◌∙◌, subst}
use Rattle.ml_term.specs.Seen.{seen}
use Rattle.ml_term.specs.Tree.{Tree, atom}
use Rattle.ml_term.proofs.CompoundTrees.{seen_atom}
use Rattle.ml_term.specs.declared.term.Term.{Term}
use Rattle.ml_term.specs.declared.term.Term.TheVariants.{Atom}
use Rattle.ml_search.specs.GoalSeen.{goal_seen}
use Rattle.ml_search.specs.WellFormed.{is_clause}
use Rattle.ml_machine.specs.Begun.{goal_clause}
use Rattle.ml_machine.proofs.GoalClauses.{goal_is_clause}
use Rattle.ml_machine.proofs.begin.clause_of.Goals as goal

pub new-requires-2 : goal.new-requires-2
new-requires-2 c =
    let name : c.in_ok-new.field-0 ≡ codes "goal" = c.in_ok-new.ensures ∙ c.as_slice.ensures in
    let head : seen (Atom c.in_ok-new.field-0) ≡ atom (codes "goal") = seen_atom c.in_ok-new.field-0 ∙ ap atom name in
    let well : is_clause (goal_clause (goal_seen c.args.goal.now)) ≡ true = goal_is_clause (goal_seen c.args.goal.now) c.args.goal.now.well_formed in
    subst (λ (h : Tree). is_clause (record { head = h; body = seen c.in_ok-body.body }) ≡ true) (sym head)
    (subst (λ (b : Term). is_clause (record { head = atom (codes "goal"); body = seen b }) ≡ true) (sym c.in_ok-body.ensures) well)
