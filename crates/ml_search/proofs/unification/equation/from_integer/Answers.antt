use Rattle.std.proofs.Common.{sym, ap, subst, ◌∙◌, ◌≡◌, ◌+◌}
use Rattle.std.proofs.lemmas.Result.{IfOk-weaker}
use Rattle.ml_term.specs.Tree.{variable}
use Rattle.ml_search.specs.inside.Triangular.{IsFree}
use Rattle.ml_search.specs.inside.Unifying.{Binds, Decides, IsPlain, bindings_of, tree_of}
use Rattle.ml_search.proofs.Unifying.EquationSteps.{right_variable}
use Rattle.ml_search.proofs.Unifying.ShiftedTrees.{is_variable}
use Rattle.ml_search.proofs.unification.equation.from_integer.Goals as goal

pub bind-requires-clause-plain : goal.bind-requires-clause-plain
bind-requires-clause-plain c = subst IsPlain (sym c.requires.is) tt

pub returns-in-Var-clause-decided : goal.returns-in-Var-clause-decided
returns-in-Var-clause-decided c =
    let is : tree_of c.args.right ≡ variable (c.args.right.base + c.from.result) =
    is_variable c.args.right c.in-Var.n c.in-Var.is ∙ ap (λ n. variable (c.args.right.base + n)) (sym c.from.ensures) in
    let bs = bindings_of c.args.bindings.now.entries in
    let n = c.args.right.base + c.from.result in
    IfOk-weaker c.bind.result (λ rule. Binds bs rule n (tree_of c.args.left)) (λ rule. Decides bs rule (tree_of c.args.left) (tree_of c.args.right))
    (λ rule b. right_variable bs rule n (tree_of c.args.left)
    (tree_of c.args.right) c.requires.triangular (subst IsPlain (sym c.requires.is) tt) is c.requires.right_free b) c.bind.ensures.binds

pub bind-requires-clause-free : goal.bind-requires-clause-free
bind-requires-clause-free c =
    subst (IsFree (bindings_of c.args.bindings.now.entries))
    (is_variable c.args.right c.in-Var.n c.in-Var.is ∙ ap (λ n. variable (c.args.right.base + n)) (sym c.from.ensures)) c.requires.right_free
