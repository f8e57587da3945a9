use Rattle.std.proofs.Common.{sym, ◌∙◌}
use Rattle.ml_compile.proofs.PairsTested.{pair_by_name, no_pair_by_count, no_pair_by_name}
use Rattle.ml_compile.proofs.parts.operands_of.Goals as goal

pub returns-then-args-ne2 : goal.returns-then-args-ne2
returns-then-args-ne2 c = no_pair_by_count _ _ _ _ _ c.in-Cmp.is c.as_slice-args.ensures.same c.if-args-ne2.true

pub returns-then-eq : goal.returns-then-eq
returns-then-eq c =
    pair_by_name _ _ _ _ _ _ _ _ c.in-Cmp.is c.as_slice-args.ensures.same c.if-args-ne2.false c.as_slice.ensures.same
    (sym c.eq.ensures ∙ c.if-eq.true) c.index-args-0.is c.index-args-1.is

pub returns : goal.returns
returns c = no_pair_by_name _ _ _ _ _ _ c.in-Cmp.is c.as_slice-args.ensures.same c.if-args-ne2.false c.as_slice.ensures.same (sym c.eq.ensures ∙ c.if-eq.false)
