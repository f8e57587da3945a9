use Rattle.std.proofs.Common.{sym, ap, subst, ◌∙◌, ◌≡◌, ◌∷◌, ◌++◌, [], ℕ, nat_eq, List, inr, true}
use Rattle.std.proofs.lemmas.List.{map_push}
use Rattle.indexmap.proofs.CallerLemmas.{insert_entry-new}
use Rattle.ml_term.specs.Runs.{now}
use Rattle.ml_term.specs.Unifiers.{equations_under}
use Rattle.ml_term.specs.Unify.{Map}
use Rattle.ml_search.specs.declared.unification.pair.Rule.TheVariants.{Bound}
use Rattle.ml_search.specs.declared.unification.pair.Shifted.{Shifted}
use Rattle.ml_search.specs.inside.Triangular.{map_of}
use Rattle.ml_search.specs.inside.Unifying.{Decides, bindings_of, equations_of, is_sound_rule, tree_of}
use Rattle.ml_search.proofs.Unifying.BindingsFound.{free_is_no_key, sound_with_one_more}
use Rattle.ml_search.proofs.Unifying.OneBindingMore.{bound_turns, one_binding_more}
use Rattle.ml_search.proofs.unification.solve.turn.Goals as goal

-- the bindings with one more
pushed : (es es' : List (ℕ × Shifted)) (n : ℕ) (to : Shifted) → es' ≡ es ++ (n, to) ∷ [] → bindings_of es' ≡ bindings_of es ++ (n, tree_of to) ∷ []
pushed es es' n to more = ap bindings_of more ∙ map_push (λ (x : ℕ × Shifted). (x.0, tree_of x.1)) es (n, to)

pub returns-in_ok-insert-in-Bound-clause-turned : goal.returns-in_ok-insert-in-Bound-clause-turned
returns-in_ok-insert-in-Bound-clause-turned c =
    let b = c.in-Bound.binding in
    let old = c.args.bindings.now.entries in
    let bs = bindings_of old in
    let es = equations_of c.args.pairs.now.items in
    let decided : Decides bs (Bound b) (tree_of c.end_of-left.result) (tree_of c.end_of-right.result) =
    subst (λ r. Decides bs r (tree_of c.end_of-left.result) (tree_of c.end_of-right.result)) c.in-Bound.is c.in_ok-rule.ensures.decided in
    let entries : c.insert.new.self.entries ≡ old ++ (b.variable, b.to) ∷ [] =
    c.in_ok-insert-in-Bound.ensures.entries ∙ insert_entry-new nat_eq c.args.bindings.now b.variable b.to (free_is_no_key b.variable old decided.may.2) in
    let more : bindings_of c.insert.new.self.entries ≡ bs ++ (b.variable, tree_of b.to) ∷ [] = pushed old c.insert.new.self.entries b.variable b.to entries in
    bound_turns bs es b.variable (tree_of b.to) (tree_of c.args.pair.left) (tree_of c.args.pair.right) (tree_of c.end_of-left.result)
    (tree_of c.end_of-right.result) c.end_of-left.ensures.same c.end_of-right.ensures.same decided.is
    ∙ ap (λ (xs : Map). now (inr (record { left = equations_under (map_of xs) es; map = map_of xs }))) (sym more)

pub returns-in_ok-insert-in-Bound-clause-triangular :
    goal.returns-in_ok-insert-in-Bound-clause-triangular
returns-in_ok-insert-in-Bound-clause-triangular c =
    let b = c.in-Bound.binding in
    let old = c.args.bindings.now.entries in
    let bs = bindings_of old in
    let decided : Decides bs (Bound b) (tree_of c.end_of-left.result) (tree_of c.end_of-right.result) =
    subst (λ r. Decides bs r (tree_of c.end_of-left.result) (tree_of c.end_of-right.result)) c.in-Bound.is c.in_ok-rule.ensures.decided in
    let entries : c.insert.new.self.entries ≡ old ++ (b.variable, b.to) ∷ [] =
    c.in_ok-insert-in-Bound.ensures.entries ∙ insert_entry-new nat_eq c.args.bindings.now b.variable b.to (free_is_no_key b.variable old decided.may.2) in
    let more : bindings_of c.insert.new.self.entries ≡ bs ++ (b.variable, tree_of b.to) ∷ [] = pushed old c.insert.new.self.entries b.variable b.to entries in
    rw more (one_binding_more bs b.variable (tree_of b.to) c.requires.triangular decided.may.0 decided.may.1)

pub returns-in_ok-insert-in-Bound-clause-bindings :
    goal.returns-in_ok-insert-in-Bound-clause-bindings
returns-in_ok-insert-in-Bound-clause-bindings c most l r h =
    let b = c.in-Bound.binding in
    let old = c.args.bindings.now.entries in
    let bs = bindings_of old in
    let decided : Decides bs (Bound b) (tree_of c.end_of-left.result) (tree_of c.end_of-right.result) =
    subst (λ r. Decides bs r (tree_of c.end_of-left.result) (tree_of c.end_of-right.result)) c.in-Bound.is c.in_ok-rule.ensures.decided in
    let entries : c.insert.new.self.entries ≡ old ++ (b.variable, b.to) ∷ [] =
    c.in_ok-insert-in-Bound.ensures.entries ∙ insert_entry-new nat_eq c.args.bindings.now b.variable b.to (free_is_no_key b.variable old decided.may.2) in
    sound_with_one_more most old c.insert.new.self.entries b.variable b.to entries h
    (subst (λ r. is_sound_rule most r ≡ true) c.in-Bound.is
    (c.in_ok-rule.ensures.sound most (c.end_of-left.ensures.sound most h l) (c.end_of-right.ensures.sound most h r)))
