use Rattle.std.proofs.Common.{◌≡◌, ap, sym, ◌∙◌, Some}
use Rattle.ml_search.specs.Program.{place_of, declaration_of}
use Rattle.ml_program.proofs.LinksMade.{control_link, plain_link, store_link, declared_link, procedure_link, unknown_link, declaration_found, no_declaration_found}
use Rattle.ml_program.proofs.tables.Tables.link_of.Goals as goal

pub returns-in-Some : goal.returns-in-Some
returns-in-Some c = λ program ps t. control_link program ps c.args.pred.now.name c.args.pred.now.arity c.in-Some.control (sym c.in-Some.ensures)

pub returns-in-Some-plain_call : goal.returns-in-Some-plain_call
returns-in-Some-plain_call c =
    λ program ps t. plain_link program ps c.args.pred.now.name c.args.pred.now.arity (sym c.in_default.ensures)
    c.in-Some-plain_call.plain (sym c.in-Some-plain_call.ensures)

pub returns-in-Some-store_call : goal.returns-in-Some-store_call
returns-in-Some-store_call c =
    λ program ps t. store_link program ps c.args.pred.now.name c.args.pred.now.arity (sym c.in_default.ensures) (sym c.in_default-plain_call.ensures)
    c.in-Some-store_call.store (sym c.in-Some-store_call.ensures)

pub returns-in-Some-place_of : goal.returns-in-Some-place_of
returns-in-Some-place_of c =
    let f = c.args.pred.now.name in
    let n = c.args.pred.now.arity in
    let ds = c.args.self.now.decls in
    let k = c.in-Some-place_of.place in
    let place : place_of ds f n ≡ Some k = sym c.in-Some-place_of.ensures.same in
    λ program ps t. declared_link program ps f n (sym c.in_default.ensures) (sym c.in_default-plain_call.ensures)
    (sym c.in_default-store_call.ensures) c.at.result.now k
    (ap (λ es. declaration_of es f n) (sym t.decls_are) ∙ declaration_found ds f n k c.at.result.now place c.at.ensures)
    (ap (λ es. place_of es f n) (sym t.decls_are) ∙ place)

pub returns-in-Some-get_index_of : goal.returns-in-Some-get_index_of
returns-in-Some-get_index_of c =
    let f = c.args.pred.now.name in
    let n = c.args.pred.now.arity in
    λ program ps t. procedure_link program ps f n (sym c.in_default.ensures) (sym c.in_default-plain_call.ensures) (sym c.in_default-store_call.ensures)
    (ap (λ es. declaration_of es f n) (sym t.decls_are) ∙ no_declaration_found c.args.self.now.decls f n (sym c.in_default-place_of.ensures.same))
    (t.defined f n) c.in-Some-get_index_of.place (sym (t.places_are c.args.pred.now) ∙ sym c.in-Some-get_index_of.ensures.index)

pub returns-in-None : goal.returns-in-None
returns-in-None c =
    let f = c.args.pred.now.name in
    let n = c.args.pred.now.arity in
    λ program ps t. unknown_link program ps f n (sym c.in_default.ensures) (sym c.in_default-plain_call.ensures) (sym c.in_default-store_call.ensures)
    (ap (λ es. declaration_of es f n) (sym t.decls_are) ∙ no_declaration_found c.args.self.now.decls f n (sym c.in_default-place_of.ensures.same))
    (t.defined f n) (sym (t.places_are c.args.pred.now) ∙ sym c.in-None.ensures.index)
