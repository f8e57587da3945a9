use Rattle.std.proofs.Common.{◌≡◌, ap, sym, ◌∙◌, refl, Some}
use Rattle.ml_search.specs.Program.{place_of, declaration_of}
use Rattle.ml_program.proofs.LinksMade.{declaration_found, no_declaration_found}
use Rattle.ml_program.proofs.tables.Tables.declared.Goals as goal

pub returns-in-Some : goal.returns-in-Some
returns-in-Some c =
    let f = c.args.pred.now.name in
    let n = c.args.pred.now.arity in
    let ds = c.args.self.now.decls in
    let k = c.in-Some.place in
    let place : place_of ds f n ≡ Some k = sym c.in-Some.ensures.same in
    λ program ps t. record {
      decl = c.at.result.now;
      found = ap (λ es. declaration_of es f n) (sym t.decls_are) ∙ declaration_found ds f n k c.at.result.now place c.at.ensures;
      kind_is = refl;
      place_is = ap (λ es. place_of es f n) (sym t.decls_are) ∙ place;
    }

pub returns-in-None : goal.returns-in-None
returns-in-None c =
    let f = c.args.pred.now.name in
    let n = c.args.pred.now.arity in
    λ program ps t. ap (λ es. declaration_of es f n) (sym t.decls_are) ∙ no_declaration_found c.args.self.now.decls f n (sym c.in-None.ensures.same)
