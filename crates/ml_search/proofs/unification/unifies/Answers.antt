use Rattle.std.proofs.Common.{sym, ap, ◌∙◌, ◌≡◌}
use Rattle.std.specs.Option.{is_some}
use Rattle.ml_term.specs.Seen.{seen}
use Rattle.ml_term.specs.Tree.{variables}
use Rattle.ml_term.specs.Unify.{unifier}
use Rattle.ml_search.specs.Replay.{number_above, rename_apart}
use Rattle.ml_search.specs.Actions.{shift_variables}
use Rattle.ml_search.specs.inside.Triangular.{map_of}
use Rattle.ml_search.specs.inside.Unifying.{bindings_of}
use Rattle.ml_search.proofs.Unifying.TermsRenamedApart.{fresh_from_zero, instance_of, of_instance, apart_behind_all, apart_from_pattern, same_tests, found_is}
use Rattle.ml_search.proofs.unification.unifies.Goals as goal

pub returns-clause-same : goal.returns-clause-same
returns-clause-same c =
    let p = seen c.args.pattern.now in
    let h = seen c.args.head.now in
    let found : c.is_some.result ≡ is_some (unifier p (shift_variables 4294967296 h)) =
    c.is_some.ensures
    ∙ found_is c.in_ok-solve.field-0 (unifier (shift_variables 0 p) (shift_variables 4294967296 h))
    (λ bindings. map_of (bindings_of bindings.entries)) c.in_ok-solve.ensures.solved
    ∙ ap (λ x. is_some (unifier x (shift_variables 4294967296 h))) (fresh_from_zero p) in
    let behind = apart_behind_all p h c.requires.pattern in
    let here = apart_from_pattern p h in
    found
    ∙ same_tests (is_some (unifier p (shift_variables 4294967296 h))) (is_some (unifier p (rename_apart p h)))
    (λ e. of_instance (number_above (variables p)) p h here (instance_of 4294967296 p h behind e))
    (λ e. of_instance 4294967296 p h behind (instance_of (number_above (variables p)) p h here e))

pub returns-clause-instance : goal.returns-clause-instance
returns-clause-instance c =
    let p = seen c.args.pattern.now in
    let h = seen c.args.head.now in
    let found : c.is_some.result ≡ is_some (unifier p (shift_variables 4294967296 h)) =
    c.is_some.ensures
    ∙ found_is c.in_ok-solve.field-0 (unifier (shift_variables 0 p) (shift_variables 4294967296 h))
    (λ bindings. map_of (bindings_of bindings.entries)) c.in_ok-solve.ensures.solved
    ∙ ap (λ x. is_some (unifier x (shift_variables 4294967296 h))) (fresh_from_zero p) in
    let behind = apart_behind_all p h c.requires.pattern in
    ((λ e. instance_of 4294967296 p h behind (sym found ∙ e)), (λ i. found ∙ of_instance 4294967296 p h behind i))
