use Rattle.std.proofs.Common.{◌≡◌, ◌<◌, ◌+◌, sym, ap, ◌∙◌, subst}
use Rattle.ml_term.specs.Tree.{variable}
use Rattle.ml_term.specs.Unify.{apply}
use Rattle.ml_search.specs.MapSeen.{bound_term}
use Rattle.ml_search.specs.inside.Triangular.{map_of}
use Rattle.ml_search.specs.inside.Unifying.{bindings_of, tree_of}
use Rattle.ml_search.proofs.Unifying.BoundChains.{age, chain_falls, stands_for_bound}
use Rattle.ml_search.proofs.Unifying.ShiftedTrees.{is_variable}
use Rattle.ml_search.proofs.unification.bindings.end_of.Goals as goal

pub loop-end-smaller : goal.loop-end-smaller
loop-end-smaller c =
    let is : tree_of c.loop-end.end ≡ variable (c.loop-end.end.base + c.in-Var.n) = is_variable c.loop-end.end c.in-Var.n c.in-Var.is in
    subst (λ t. age (tree_of c.in-Some.to) < age t) (sym is)
    (chain_falls (bindings_of c.args.bindings.now.entries) (c.loop-end.end.base + c.in-Var.n) (tree_of c.in-Some.to) c.requires.triangular
    (ap (λ n. bound_term (bindings_of c.args.bindings.now.entries) (c.loop-end.end.base + n)) (sym c.from.ensures) ∙ c.in-Some.ensures.found))

pub loop-end-preserved : goal.loop-end-preserved
loop-end-preserved c =
    let bs = bindings_of c.args.bindings.now.entries in
    let is : tree_of c.loop-end.end ≡ variable (c.loop-end.end.base + c.in-Var.n) = is_variable c.loop-end.end c.in-Var.n c.in-Var.is in
    record {
      same =
          sym
          (stands_for_bound bs (c.loop-end.end.base + c.in-Var.n) (tree_of c.in-Some.to) c.requires.triangular
          (ap (λ n. bound_term (bindings_of c.args.bindings.now.entries) (c.loop-end.end.base + n)) (sym c.from.ensures) ∙ c.in-Some.ensures.found))
          ∙ ap (apply (map_of bs)) (sym is) ∙ c.loop-end.invariant.same;
      sound = λ most bs at. c.in-Some.ensures.sound most bs;
    }
