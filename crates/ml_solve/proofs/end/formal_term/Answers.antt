use Rattle.std.proofs.Common.{sym, ap, ◌∙◌}
use Rattle.std.specs.Str.{bytes_eq}
use Rattle.std.proofs.lemmas.Result.{IfOk-weaker}
use Rattle.ml_term.specs.Seen.{seen}
use Rattle.ml_solve.proofs.FormalTerms.{formal_by_count, formal_by_name, formal_first}
use Rattle.ml_solve.proofs.end.formal_term.Goals as goal

pub returns-then-args-ne2 : goal.returns-then-args-ne2
returns-then-args-ne2 c =
    IfOk-weaker c.copy_of-then-args-ne2.result _ _
    (λ term is. ap seen is ∙ sym (formal_by_count c.args.ball.now _ _ _ c.in-Cmp.is c.as_slice-args.ensures.same c.if-args-ne2.true))
    c.copy_of-then-args-ne2.ensures

pub returns-then-eq : goal.returns-then-eq
returns-then-eq c =
    IfOk-weaker c.copy_of-then-eq.result _ _
    (λ term is. ap seen is
    ∙ sym (formal_first c.args.ball.now _ _ _ c.in-Cmp.is c.as_slice-args.ensures.same _ c.index-args-0.result c.if-args-ne2.false c.as_slice.ensures.same
    (ap (bytes_eq c.as_slice.result.now) (sym c.as_slice-2.ensures) ∙ (sym c.eq.ensures ∙ c.if-eq.true)) c.index-args-0.is))
    c.copy_of-then-eq.ensures

pub returns : goal.returns
returns c =
    IfOk-weaker c.copy_of-2.result _ _
    (λ term is. ap seen is
    ∙ sym (formal_by_name c.args.ball.now _ _ _ c.in-Cmp.is c.as_slice-args.ensures.same _ c.if-args-ne2.false c.as_slice.ensures.same
    (ap (bytes_eq c.as_slice.result.now) (sym c.as_slice-2.ensures) ∙ (sym c.eq.ensures ∙ c.if-eq.false))))
    c.copy_of-2.ensures
