use Rattle.std.proofs.Common.{◌≡◌, ◌++◌, ◌∷◌, [], ◌<◌, None, length, map, ap, sym, subst, ◌∙◌, arith}
use Rattle.std.proofs.lemmas.List.{map-append, length-map}
use Rattle.indexmap.proofs.CallerLemmas.{insert_entry-new}
use Rattle.ml_search.specs.inside.DeclTable.{IsDeclared}
use Rattle.ml_search.specs.Limits.{max_declarations}
use Rattle.ml_search.specs.Program.{place_of}
use Rattle.ml_search.proofs.DeclarationsFound.{is_same, no_key, declared_more}
use Rattle.ml_search.proofs.decls.Decls.add.Goals as goal

pub invariant_of-self-2 : goal.invariant_of-self-2
invariant_of-self-2 c =
    let d = c.args.decl in
    let t = c.self.inside.table in
    let other : place_of (map (λ e. e.1) t.entries) d.pred.name d.pred.arity ≡ None =
    ap (λ ds. place_of ds d.pred.name d.pred.arity) c.self.view_is ∙ c.requires.other in
    let few : length t.entries < max_declarations = omega (arith, length-map t.entries (λ e. e.1), ap length c.self.view_is, c.requires.room) in
    let fresh =
    insert_entry-new is_same t c.in_ok-pred.pred d
    (no_key c.in_ok-pred.pred t.entries c.self.invariant.by_predicate
    (ap (λ p. place_of (map (λ e. e.1) t.entries) p.name p.arity) c.in_ok-pred.ensures ∙ other)) in
    subst IsDeclared (sym (c.in_ok-insert.ensures.entries ∙ fresh))
    (declared_more t.entries c.in_ok-pred.pred d c.self.invariant c.in_ok-pred.ensures other few)

pub returns-clause-ok : goal.returns-clause-ok
returns-clause-ok c =
    let d = c.args.decl in
    let t = c.self.inside.table in
    let other : place_of (map (λ e. e.1) t.entries) d.pred.name d.pred.arity ≡ None =
    ap (λ ds. place_of ds d.pred.name d.pred.arity) c.self.view_is ∙ c.requires.other in
    let fresh =
    insert_entry-new is_same t c.in_ok-pred.pred d
    (no_key c.in_ok-pred.pred t.entries c.self.invariant.by_predicate
    (ap (λ p. place_of (map (λ e. e.1) t.entries) p.name p.arity) c.in_ok-pred.ensures ∙ other)) in
    ap (map (λ e. e.1)) (c.in_ok-insert.ensures.entries ∙ fresh) ∙ map-append (λ e. e.1) t.entries ((c.in_ok-pred.pred, d) ∷ [])
    ∙ ap (λ ds. ds ++ d ∷ []) c.self.view_is
