use Rattle.std.proofs.Common.{sym, ap, subst, ◌∙◌, ◌≡◌, ◌≢◌, ◌+◌, ◌<◌, arith}
use Rattle.std.proofs.lemmas.Result.{IfOk-weaker}
use Rattle.ml_term.specs.Tree.{variable}
use Rattle.ml_search.specs.inside.Triangular.{IsFree}
use Rattle.ml_search.specs.inside.Unifying.{Binds, Decides, IsPlain, bindings_of, tree_of}
use Rattle.ml_search.proofs.Unifying.EquationSteps.{left_variable, same_variable, right_younger, left_younger}
use Rattle.ml_search.proofs.Unifying.ShiftedTrees.{is_variable, is_integer, is_atom, is_compound}
use Rattle.ml_search.proofs.unification.equation.from_variable.Goals as goal

pub returns-then-m-n-clause-decided : goal.returns-then-m-n-clause-decided
returns-then-m-n-clause-decided c =
    let n = c.args.right.base + c.from.result in
    let is : tree_of c.args.right ≡ variable n =
    is_variable c.args.right c.in-Var.n c.in-Var.is ∙ ap (λ n. variable (c.args.right.base + n)) (sym c.from.ensures) in
    same_variable
    (bindings_of c.args.bindings.now.entries) c.args.left c.args.right c.args.m n c.requires.triangular c.requires.is is c.requires.left_free
    c.requires.right_free c.if-m-n.true

pub returns-then-m-n-2-clause-decided : goal.returns-then-m-n-2-clause-decided
returns-then-m-n-2-clause-decided c =
    let n = c.args.right.base + c.from.result in
    let is : tree_of c.args.right ≡ variable n =
    is_variable c.args.right c.in-Var.n c.in-Var.is ∙ ap (λ n. variable (c.args.right.base + n)) (sym c.from.ensures) in
    right_younger
    (bindings_of c.args.bindings.now.entries) c.args.left c.args.right c.args.m n c.requires.triangular c.requires.is is c.requires.left_free
    c.requires.right_free
    c.if-m-n.false c.if-m-n-2.true

pub returns-else-m-n-2-clause-decided : goal.returns-else-m-n-2-clause-decided
returns-else-m-n-2-clause-decided c =
    let n = c.args.right.base + c.from.result in
    let is : tree_of c.args.right ≡ variable n =
    is_variable c.args.right c.in-Var.n c.in-Var.is ∙ ap (λ n. variable (c.args.right.base + n)) (sym c.from.ensures) in
    let d : c.args.m ≢ n = c.if-m-n.false in
    let below : n < c.args.m = omega (arith, c.if-m-n-2.false, d) in
    left_younger
    (bindings_of c.args.bindings.now.entries) c.args.left c.args.right c.args.m n c.requires.triangular c.requires.is is c.requires.left_free
    c.requires.right_free
    d below

pub returns-in-Int-clause-decided : goal.returns-in-Int-clause-decided
returns-in-Int-clause-decided c =
    let bs = bindings_of c.args.bindings.now.entries in
    IfOk-weaker c.bind.result (λ rule. Binds bs rule c.args.m (tree_of c.args.right)) (λ rule. Decides bs rule (tree_of c.args.left) (tree_of c.args.right))
    (λ rule b. left_variable bs rule c.args.m (tree_of c.args.left)
    (tree_of c.args.right) c.requires.triangular c.requires.is c.requires.left_free (subst IsPlain (sym
    (is_integer c.args.right _ c.in-Int.is)) tt) b) c.bind.ensures.binds

pub bind-requires-clause-free : goal.bind-requires-clause-free
bind-requires-clause-free c = subst (IsFree (bindings_of c.args.bindings.now.entries)) c.requires.is c.requires.left_free

pub returns-in-Atom-clause-decided : goal.returns-in-Atom-clause-decided
returns-in-Atom-clause-decided c =
    let bs = bindings_of c.args.bindings.now.entries in
    IfOk-weaker c.bind-in-Atom.result (λ rule. Binds bs rule c.args.m (tree_of c.args.right)) (λ rule. Decides bs rule (tree_of c.args.left)
    (tree_of c.args.right))
    (λ rule b. left_variable bs rule c.args.m (tree_of c.args.left)
    (tree_of c.args.right) c.requires.triangular c.requires.is c.requires.left_free (subst IsPlain (sym
    (is_atom c.args.right _ c.in-Atom.is)) tt) b) c.bind-in-Atom.ensures.binds

pub bind-requires-in-Atom-clause-free : goal.bind-requires-in-Atom-clause-free
bind-requires-in-Atom-clause-free c = subst (IsFree (bindings_of c.args.bindings.now.entries)) c.requires.is c.requires.left_free

pub returns-in-Cmp-clause-decided : goal.returns-in-Cmp-clause-decided
returns-in-Cmp-clause-decided c =
    let bs = bindings_of c.args.bindings.now.entries in
    IfOk-weaker c.bind-in-Cmp.result (λ rule. Binds bs rule c.args.m (tree_of c.args.right)) (λ rule. Decides bs rule (tree_of c.args.left)
    (tree_of c.args.right))
    (λ rule b. left_variable bs rule c.args.m (tree_of c.args.left)
    (tree_of c.args.right) c.requires.triangular c.requires.is c.requires.left_free (subst IsPlain (sym
    (is_compound c.args.right _ _ c.in-Cmp.is)) tt) b) c.bind-in-Cmp.ensures.binds

pub bind-requires-in-Cmp-clause-free : goal.bind-requires-in-Cmp-clause-free
bind-requires-in-Cmp-clause-free c = subst (IsFree (bindings_of c.args.bindings.now.entries)) c.requires.is c.requires.left_free
