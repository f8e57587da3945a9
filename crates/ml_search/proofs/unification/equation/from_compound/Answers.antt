use Rattle.std.proofs.Common.{sym, ap, subst, ◌∙◌, ◌≡◌, ◌+◌, refl, length}
use Rattle.std.proofs.lemmas.Result.{IfOk-weaker}
use Rattle.ml_term.specs.Tree.{variable, compound}
use Rattle.ml_search.specs.inside.Triangular.{IsFree}
use Rattle.ml_search.specs.inside.Unifying.{Binds, Decides, IsPlain, arguments_from, bindings_of, tree_of}
use Rattle.ml_search.proofs.Unifying.EquationSteps.{right_variable, compounds_split, names_clash, arities_clash}
use Rattle.ml_search.proofs.Unifying.ShiftedTrees.{is_variable, is_compound}
use Rattle.ml_search.proofs.unification.equation.from_compound.Goals as goal
use Rattle.ml_search.proofs.unification.equation.from_compound.Goals.{else-is-via-then-is+else-ts-us, else-is-via-else-is}

pub returns-in-Var-clause-decided : goal.returns-in-Var-clause-decided
returns-in-Var-clause-decided c =
    let is : tree_of c.args.right ≡ variable (c.args.right.base + c.from.result) =
    is_variable c.args.right c.in-Var.n c.in-Var.is ∙ ap (λ n. variable (c.args.right.base + n)) (sym c.from.ensures) in
    let bs = bindings_of c.args.bindings.now.entries in
    let n = c.args.right.base + c.from.result in
    IfOk-weaker c.bind.result (λ rule. Binds bs rule n (tree_of c.args.left)) (λ rule. Decides bs rule (tree_of c.args.left) (tree_of c.args.right))
    (λ rule b. right_variable bs rule n (tree_of c.args.left)
    (tree_of c.args.right) c.requires.triangular (subst IsPlain (sym c.requires.is) tt) is c.requires.right_free b) c.bind.ensures.binds

pub bind-requires-clause-free : goal.bind-requires-clause-free
bind-requires-clause-free c =
    subst (IsFree (bindings_of c.args.bindings.now.entries))
    (is_variable c.args.right c.in-Var.n c.in-Var.is ∙ ap (λ n. variable (c.args.right.base + n)) (sym c.from.ensures)) c.requires.right_free

pub returns-then-ts-us-clause-decided : goal.returns-then-ts-us-clause-decided
returns-then-ts-us-clause-decided c =
    let is : tree_of c.args.right ≡ compound c.in-Cmp.g (arguments_from c.args.right.base c.in-Cmp.us) =
    is_compound c.args.right c.in-Cmp.g c.in-Cmp.us c.in-Cmp.is in
    let many : length c.args.ts.now ≡ length c.in-Cmp.us = c.if-ts-us.true ∙ ap length c.as_slice-us.ensures.same in
    compounds_split (bindings_of c.args.bindings.now.entries) c.args.left c.args.right c.args.f.now c.in-Cmp.g c.args.ts.now c.in-Cmp.us c.requires.is is
    (record { terms = c.args.ts; base = c.args.left.base })
    (record { terms = c.as_slice-us.result; base = c.args.right.base }) refl refl refl c.as_slice-us.ensures.same
    (c.is.ensures.0 c.if-is.true) many

pub returns-else-is-clause-decided : goal.returns-else-is-clause-decided
returns-else-is-clause-decided c =
    let bs = bindings_of c.args.bindings.now.entries in
    let is : tree_of c.args.right ≡ compound c.in-Cmp.g (arguments_from c.args.right.base c.in-Cmp.us) =
    is_compound c.args.right c.in-Cmp.g c.in-Cmp.us c.in-Cmp.is in
    elim c.else-is.branch [
      | else-is-via-then-is+else-ts-us w ↦ arities_clash bs c.args.left c.args.right c.args.f.now c.in-Cmp.g c.args.ts.now c.in-Cmp.us c.requires.is is
          (λ e. w.if-ts-us.false (e ∙ sym (ap length c.as_slice-us.ensures.same)))
      | else-is-via-else-is w ↦ names_clash bs c.args.left c.args.right c.args.f.now c.in-Cmp.g c.args.ts.now c.in-Cmp.us c.requires.is is
          (λ e. cc (w.if-is.false, c.is.ensures.1 e))
    ]
