use Rattle.std.proofs.Common.{refl, sym, ap, subst, ◌∙◌, ◌≡◌, true, Some, None}
use Rattle.std.specs.Prelude.{MatchOption, IfSome}
use Rattle.std.proofs.lemmas.Bool.{and_from}
use Rattle.ml_term.specs.Seen.{seen}
use Rattle.ml_term.specs.Tree.{Tree}
use Rattle.ml_term.specs.Unify.{unifier}
use Rattle.ml_search.specs.Actions.{shift_variables}
use Rattle.ml_search.specs.inside.Triangular.{map_of}
use Rattle.ml_search.specs.inside.Unifying.{are_sound_bindings, bindings_of}
use Rattle.ml_search.proofs.Unifying.TermsRenamedApart.{fresh_from_zero}
use Rattle.ml_search.proofs.unification.mgu.Goals as goal

pub map_from-requires-clause-sound : goal.map_from-requires-clause-sound
map_from-requires-clause-sound c =
    subst (λ o. IfSome o (λ bindings. are_sound_bindings 0 bindings.entries ≡ true)) c.in-Some.is
    (c.in_ok-solve.ensures.sound 0 (and_from _ _ refl c.requires.a) (and_from _ _ refl c.requires.b))

both : (t u : Tree) → unifier (shift_variables 0 t) (shift_variables 0 u) ≡ unifier t u
both t u = ap (λ x. unifier x (shift_variables 0 u)) (fresh_from_zero t) ∙ ap (unifier t) (fresh_from_zero u)

pub returns-in-None : goal.returns-in-None
returns-in-None c =
    let t = seen c.args.a.now in
    let u = seen c.args.b.now in
    let found : unifier (shift_variables 0 t) (shift_variables 0 u) ≡ None =
    subst
    (λ o. MatchOption o (unifier (shift_variables 0 t) (shift_variables 0 u) ≡ None)
    (λ bindings. unifier (shift_variables 0 t) (shift_variables 0 u) ≡ Some (map_of (bindings_of bindings.entries)))) c.in-None.is
    c.in_ok-solve.ensures.solved in
    sym (sym (both t u) ∙ found)

pub returns-in_ok-map_from-in-Some : goal.returns-in_ok-map_from-in-Some
returns-in_ok-map_from-in-Some c =
    let t = seen c.args.a.now in
    let u = seen c.args.b.now in
    let found : unifier (shift_variables 0 t) (shift_variables 0 u) ≡ Some (map_of (bindings_of c.in-Some.bindings.entries)) =
    subst
    (λ o. MatchOption o (unifier (shift_variables 0 t) (shift_variables 0 u) ≡ None)
    (λ bindings. unifier (shift_variables 0 t) (shift_variables 0 u) ≡ Some (map_of (bindings_of bindings.entries)))) c.in-Some.is
    c.in_ok-solve.ensures.solved in
    ap Some c.in_ok-map_from-in-Some.ensures ∙ sym (sym (both t u) ∙ found)
