use Rattle.std.proofs.Common.{◌≡◌}
use Rattle.std.proofs.lemmas.Bool.{and_parts, and_from, eqb-true, eq-eqb}
use Rattle.std.specs.Cmp.Lexicographic.{bytes_decides}
use Rattle.ml_term.proofs.name_laws.equal_names_are_one.Goals as goal

pub returns-clause-names : goal.returns-clause-names
returns-clause-names c f g = bytes_decides f g

pub returns-clause-preds : goal.returns-clause-preds
returns-clause-preds c p q = (
  (λ e.
      let parts = and_parts _ _ e in
      let names : p.name ≡ q.name = (bytes_decides p.name q.name).0 parts.0 in
      let arities : p.arity ≡ q.arity = eqb-true p.arity q.arity parts.1 in
      (λ i. record { name = names i; arity = arities i })),
  (λ e. and_from _ _ ((bytes_decides p.name q.name).1 (λ i. (e i).name)) (eq-eqb p.arity q.arity (λ i. (e i).arity))),
)
