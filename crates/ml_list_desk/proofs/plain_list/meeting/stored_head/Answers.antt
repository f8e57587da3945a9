use Rattle.std.proofs.Common.{◌≡◌, true, get_or, sym, ap, ◌∙◌, subst}
use Rattle.ml_list_desk.specs.inside.ItemList.{stored_head}
use Rattle.ml_list_desk.proofs.StoredHeads.{clause_part, clause_part_valid}
use Rattle.ml_search.specs.Db.{is_allowed}
use Rattle.ml_term.proofs.CompoundTrees.{seen_compound}
use Rattle.ml_term.specs.Seen.{seen}
use Rattle.ml_term.specs.Valid.{is_valid}
use Rattle.ml_list_desk.proofs.plain_list.meeting.stored_head.Goals as goal

pub returns-in-Clauses-Cmp-clause-same : goal.returns-in-Clauses-Cmp-clause-same
returns-in-Clauses-Cmp-clause-same c =
    let d = c.args.decl.now in
    let e = c.index-as_slice-0.result in
    let whole = ap seen c.in-Clauses-Cmp.is-1 ∙ seen_compound c.in-Clauses-Cmp.field-0-1 c.in-Clauses-Cmp.parts in
    ap seen (c.index-as_slice-0.is ∙ ap (λ ts. get_or ts 0 e) c.as_slice.ensures.same)
    ∙ clause_part d c.in-Clauses-Cmp.field-0-1 c.in-Clauses-Cmp.parts e c.in-Clauses-Cmp.is-0 (subst (λ t. is_allowed d t ≡ true) whole c.requires)
    ∙ ap (stored_head d.kind) (sym whole)

pub returns-in-Clauses-Cmp-clause-valid : goal.returns-in-Clauses-Cmp-clause-valid
returns-in-Clauses-Cmp-clause-valid c =
    let d = c.args.decl.now in
    let e = c.index-as_slice-0.result in
    let whole = ap seen c.in-Clauses-Cmp.is-1 ∙ seen_compound c.in-Clauses-Cmp.field-0-1 c.in-Clauses-Cmp.parts in
    subst (λ t. is_valid (seen t) ≡ true) (sym (c.index-as_slice-0.is ∙ ap (λ ts. get_or ts 0 e) c.as_slice.ensures.same))
    (clause_part_valid d c.in-Clauses-Cmp.field-0-1 c.in-Clauses-Cmp.parts e c.in-Clauses-Cmp.is-0 (subst (λ t. is_allowed d t ≡ true) whole c.requires))
