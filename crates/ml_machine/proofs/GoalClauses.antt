-- A goal is the body of a clause without arguments.
use Rattle.std.proofs.Common.{◌≡◌, ℕ, true, length, map, codes, refl, ap, append-nil, ◌∙◌}
use Rattle.std.specs.List.{list_all}
use Rattle.std.proofs.lemmas.Bool.{and_parts, and_from}
use Rattle.ml_term.specs.Tree.{Tree, atom, variables, has, firsts, width, is_numbered, counts_from}
use Rattle.ml_term.specs.Valid.{is_valid}
use Rattle.ml_search.specs.Program.{Goal, clause_term}
use Rattle.ml_search.specs.Bodies.{is_callable}
use Rattle.ml_search.specs.WellFormed.{is_goal, is_clause, is_clause_head, are_rising}
use Rattle.ml_machine.specs.Begun.{goal_clause}

valid_with_head : (t : Tree) → is_valid t ≡ true → is_valid (clause_term (atom (codes "goal")) t) ≡ true
valid_with_head t e = rw e refl

numbered_with_head : (t : Tree) → is_numbered t ≡ true → is_numbered (clause_term (atom (codes "goal")) t) ≡ true
numbered_with_head t e = ap (λ ns. counts_from 0 (firsts ns)) (append-nil (variables t)) ∙ e

pub width_with_head : (t : Tree) → width (clause_term (atom (codes "goal")) t) ≡ width t
width_with_head t = ap (λ ns. length (firsts ns)) (append-nil (variables t))

pub has_with_head : (t : Tree) (n : ℕ) → has n (variables t) ≡ true → has n (variables (clause_term (atom (codes "goal")) t)) ≡ true
has_with_head t n e = ap (has n) (append-nil (variables t)) ∙ e

head_is_head : is_clause_head (atom (codes "goal")) ≡ true
head_is_head = refl

pub goal_is_clause : (g : Goal) → is_goal g ≡ true → is_clause (goal_clause g) ≡ true
goal_is_clause g e =
    let a = and_parts _ _ e in
    let b = and_parts _ _ a.0 in
    let c = and_parts _ _ b.0 in
    let d = and_parts (is_valid g.term) (is_callable g.term) c.0 in
    and_from _ _ (and_from _ _ (and_from _ _ (valid_with_head g.term d.0) head_is_head) d.1) (numbered_with_head g.term c.1)

-- the numbers that have a name are of variables
pub named_variables : (g : Goal) → is_goal g ≡ true → list_all (λ e. has e.1 (variables g.term)) g.names ≡ true
named_variables g e =
    let a = and_parts _ (are_rising (map (λ e. e.1) g.names)) e in
    let b = and_parts _ (list_all (λ e. has e.1 (variables g.term)) g.names) a.0 in
    b.1
