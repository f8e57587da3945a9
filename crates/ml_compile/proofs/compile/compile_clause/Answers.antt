use Rattle.std.proofs.Common.{◌≡◌, ◌∷◌, [], ◌++◌, ap, ◌∙◌}
use Rattle.ml_term.specs.Seen.{seen}
use Rattle.ml_term.specs.Tree.{variables}
use Rattle.ml_term.specs.inside.Reading.{met_after_variables}
use Rattle.ml_search.specs.ClauseSeen.{clause_seen}
use Rattle.ml_compile.specs.declared.instr.Instr.TheVariants.{Enter}
use Rattle.ml_compile.proofs.ClausesSpelled.{clause_head_in_order, spells_clause}
use Rattle.ml_compile.proofs.compile.compile_clause.Goals as goal

pub match_head-requires : goal.match_head-requires
match_head-requires c = clause_head_in_order (clause_seen c.args.clause.now) c.args.clause.now.well_formed

pub returns : goal.returns
returns c =
    let enter : c.push.new.self.items ≡ Enter c.in_ok-variables.variables ∷ [] =
    c.in_ok-push.ensures.items ∙ ap (λ xs. xs ++ Enter c.in_ok-variables.variables ∷ []) c.new-code.ensures.items in
    let count = c.in_ok-variables.ensures ∙ ap (λ m. met_after_variables m (variables (seen c.args.clause.now.body))) c.in_ok-in_head.ensures in
    rw c.from_vec.ensures
    (spells_clause (clause_seen c.args.clause.now) _ _ _ _ _ c.args.clause.now.well_formed enter count c.in_ok-match_head.ensures c.in_ok-spell_block.ensures)
