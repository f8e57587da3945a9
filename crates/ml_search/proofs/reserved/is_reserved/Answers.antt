use Rattle.std.proofs.Common.{ap, sym, ◌∙◌, arith}
use Rattle.ml_search.specs.Procedures.{is_reserved}
use Rattle.ml_search.specs.inside.Reserved.{is_among, reserved_names_0, reserved_names_1, reserved_names_2, reserved_names_3}
use Rattle.ml_search.proofs.ReservedNames.{none_reserved, one_reserved, two_reserved, three_reserved, others_reserved}
use Rattle.ml_search.proofs.reserved.is_reserved.Goals as goal

pub returns-in-0 : goal.returns-in-0
returns-in-0 c =
    c.is_reserved_0.ensures ∙ ap (is_among reserved_names_0) c.as_slice-name.ensures.same ∙ none_reserved c.args.name.now
    ∙ sym (ap (is_reserved c.args.name.now) c.in-0.is)

pub returns-in-1 : goal.returns-in-1
returns-in-1 c =
    c.is_reserved_1.ensures ∙ ap (is_among reserved_names_1) c.as_slice-name.ensures.same ∙ one_reserved c.args.name.now
    ∙ sym (ap (is_reserved c.args.name.now) c.in-1.is)

pub returns-in-2 : goal.returns-in-2
returns-in-2 c =
    c.is_reserved_2.ensures ∙ ap (is_among reserved_names_2) c.as_slice-name.ensures.same ∙ two_reserved c.args.name.now
    ∙ sym (ap (is_reserved c.args.name.now) c.in-2.is)

pub returns-in-3 : goal.returns-in-3
returns-in-3 c =
    c.is_reserved_3.ensures ∙ ap (is_among reserved_names_3) c.as_slice-name.ensures.same ∙ three_reserved c.args.name.now
    ∙ sym (ap (is_reserved c.args.name.now) c.in-3.is)

pub returns-in-4-to-max : goal.returns-in-4-to-max
returns-in-4-to-max c = sym (others_reserved c.args.name.now c.args.arity (omega (arith, c.in-4-to-max)))
