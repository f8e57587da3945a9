use Rattle.std.proofs.Common.{◌++◌, sym, subst}
use Rattle.std.proofs.lemmas.Bool.{both_ways}
use Rattle.ml_lookup.specs.Next.{IsNextIn}
use Rattle.ml_lookup.proofs.NextItems.{first_stays, second_in, second_nearer}
use Rattle.ml_lookup.proofs.next.nearer.Goals as goal

pub returns-in_default : goal.returns-in_default
returns-in_default c kind pattern after items others one two =
    second_in kind pattern after items others c.args.second (subst (IsNextIn kind pattern after items) c.in_default.is one) two

pub returns-then-comes_before : goal.returns-then-comes_before
returns-then-comes_before c kind pattern after items others one two =
    second_nearer kind pattern after items others c.in-Some.one c.args.second (subst (IsNextIn kind pattern after items) c.in-Some.is one) two
    (c.comes_before.ensures.0 c.if-comes_before.true)

pub returns : goal.returns
returns c kind pattern after items others one two =
    subst (IsNextIn kind pattern after (items ++ others)) (sym c.in-Some.is)
    (first_stays kind pattern after items others c.in-Some.one c.args.second (subst (IsNextIn kind pattern after items) c.in-Some.is one) two
    (λ near. both_ways c.comes_before.result c.if-comes_before.false (c.comes_before.ensures.1 near)))
