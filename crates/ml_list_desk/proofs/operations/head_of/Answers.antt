use Rattle.std.proofs.Common.{◌≡◌, length, get_or, ap, sym, ◌∙◌, arith}
use Rattle.ml_list_desk.proofs.StoredHeads.{head_of_others, head_of_two}
use Rattle.ml_search.specs.Db.{head_of}
use Rattle.ml_term.proofs.CompoundTrees.{seen_compound}
use Rattle.ml_term.specs.Seen.{seen}
use Rattle.ml_list_desk.proofs.operations.head_of.Goals as goal

pub returns-in-Cmp : goal.returns-in-Cmp
returns-in-Cmp c =
    let f = c.in-Cmp.field-0 in
    let ts = c.in-Cmp.parts in
    let e = c.index-as_slice-0.result in
    let two : length ts ≡ 2 = omega (arith, ap length c.as_slice.ensures.same, c.if-as_slice-eq2.true) in
    ap seen (c.index-as_slice-0.is ∙ ap (λ us. get_or us 0 e) c.as_slice-in-Cmp.ensures.same)
    ∙ head_of_two f ts e two
    ∙ ap head_of (sym (ap seen c.in-Cmp.is ∙ seen_compound f ts))

pub returns-in_default : goal.returns-in_default
returns-in_default c =
    let f = c.in-Cmp.field-0 in
    let ts = c.in-Cmp.parts in
    let whole = ap seen c.in-Cmp.is ∙ seen_compound f ts in
    let count = ap length c.as_slice.ensures.same in
    whole ∙ head_of_others f ts (λ e. omega (arith, count, e, c.if-as_slice-eq2.false)) ∙ ap head_of (sym whole)
