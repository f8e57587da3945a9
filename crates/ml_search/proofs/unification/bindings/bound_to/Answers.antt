use Rattle.std.proofs.Common.{◌≡◌, ◌∙◌, sym, subst, true}
use Rattle.std.specs.Prelude.{MatchOption, IfSome, None, Some}
use Rattle.ml_search.specs.MapSeen.{bound_term}
use Rattle.ml_search.specs.inside.Unifying.{bindings_of, is_sound, tree_of}
use Rattle.ml_search.proofs.Unifying.BindingsFound.{bound_is_found, bound_is_sound}
use Rattle.ml_search.proofs.unification.bindings.bound_to.Goals as goal

pub returns-clause-found : goal.returns-clause-found
returns-clause-found c =
    let bs = bindings_of c.args.bindings.now.entries in
    let n = c.args.variable in
    subst (λ r. MatchOption r (bound_term bs n ≡ None) (λ to. bound_term bs n ≡ Some (tree_of to))) (sym (c.copied.ensures ∙ c.get.ensures.value))
    (bound_is_found n c.args.bindings.now.entries)

pub returns-clause-sound : goal.returns-clause-sound
returns-clause-sound c most h =
    subst (λ r. IfSome r (λ to. is_sound most to ≡ true)) (sym (c.copied.ensures ∙ c.get.ensures.value))
    (bound_is_sound most c.args.variable c.args.bindings.now.entries h)
