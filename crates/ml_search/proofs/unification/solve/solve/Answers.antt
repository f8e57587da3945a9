use Rattle.std.proofs.Common.{refl, sym, ap, subst, ◌∙◌, ◌≡◌, ◌∷◌, ◌++◌, [], rules, length, vec_len}
use Rattle.std.proofs.lemmas.Bool.{and_from}
use Rattle.std.proofs.lemmas.List.{nil_from_length}
use Rattle.ml_search.specs.inside.Triangular.{IsTriangular}
use Rattle.ml_search.specs.inside.Unifying.{are_sound_bindings, are_sound_pairs, bindings_of}
use Rattle.ml_search.proofs.Unifying.UnificationTurns.{begins, no_bindings, ends, goes, falls, done, taken}
use Rattle.ml_search.proofs.unification.solve.solve.Goals as goal

pub loop-pair-init : goal.loop-pair-init
loop-pair-init c =
    let one : c.push.new.self.items ≡ record { left = c.args.left; right = c.args.right } ∷ [] =
    c.in_ok-push.ensures.items ∙ ap (λ xs. xs ++ record { left = c.args.left; right = c.args.right } ∷ []) c.new-pairs.ensures.items in
    record {
      solved =
          begins c.args.left c.args.right
          (record { left = c.args.left; right = c.args.right }) c.new-bindings.result.entries c.push.new.self.items c.new-bindings.ensures.empty one refl;
      triangular = subst (λ xs. IsTriangular (bindings_of xs)) (sym c.new-bindings.ensures.empty) no_bindings;
      bindings = λ most a b. ap (are_sound_bindings most) c.new-bindings.ensures.empty;
      pairs = λ most a b. ap (are_sound_pairs most) one ∙ and_from _ _ (and_from _ _ a b) refl;
    }

pub returns-then-not-branch-clause-solved : goal.returns-then-not-branch-clause-solved
returns-then-not-branch-clause-solved c =
    sym c.loop-pair.invariant.solved
    ∙ ends c.loop-pair.bindings.entries c.loop-pair.pairs.items c.pop.new.self.items c.in-Some.pair c.in-Some.ensures.items c.in_ok-turn.field-0 _
    c.if-not-branch.true c.in_ok-turn.ensures.turned

pub loop-pair-smaller : goal.loop-pair-smaller
loop-pair-smaller c =
    falls c.loop-pair.bindings.entries c.loop-pair.pairs.items c.pop.new.self.items c.in-Some.pair c.in-Some.ensures.items c.in_ok-turn.field-0
    c.turn.new.bindings.entries c.turn.new.pairs.items c.if-not-branch.false c.in_ok-turn.ensures.turned

pub loop-pair-preserved : goal.loop-pair-preserved
loop-pair-preserved c = record {
  solved =
      sym
      (goes c.loop-pair.bindings.entries c.loop-pair.pairs.items c.pop.new.self.items c.in-Some.pair c.in-Some.ensures.items c.in_ok-turn.field-0
      c.turn.new.bindings.entries c.turn.new.pairs.items c.if-not-branch.false c.in_ok-turn.ensures.turned) ∙ c.loop-pair.invariant.solved;
  triangular = c.in_ok-turn.ensures.triangular;
  bindings = λ most a b.
      let t = taken most c.loop-pair.pairs.items c.pop.new.self.items c.in-Some.pair c.in-Some.ensures.items (c.loop-pair.invariant.pairs most a b) in
      c.in_ok-turn.ensures.bindings most t.1 t.2 (c.loop-pair.invariant.bindings most a b);
  pairs = λ most a b.
      let t = taken most c.loop-pair.pairs.items c.pop.new.self.items c.in-Some.pair c.in-Some.ensures.items (c.loop-pair.invariant.pairs most a b) in
      c.in_ok-turn.ensures.pairs most t.1 t.2 (c.loop-pair.invariant.bindings most a b) t.0;
}

pub returns-clause-solved : goal.returns-clause-solved
returns-clause-solved c =
    let len : vec_len c.loop-pair.pairs ≡ length c.loop-pair.pairs.items = search rules in
    sym c.loop-pair.invariant.solved
    ∙ done c.loop-pair.bindings.entries c.loop-pair.pairs.items (nil_from_length c.loop-pair.pairs.items (sym len ∙ c.in_default.ensures.cases.0))
