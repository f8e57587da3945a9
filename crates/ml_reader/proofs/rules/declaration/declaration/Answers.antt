use Rattle.std.proofs.Common.{◌≡◌, MatchOption, ap, sym, ◌∙◌}
use Rattle.std.proofs.lemmas.Result.{IfOk-weaker}
use Rattle.std.specs.Option.{option_map}
use Rattle.ml_term.specs.declared.declaration.Decl.{Decl}
use Rattle.ml_term.specs.Seen.{seen, all_seen}
use Rattle.ml_term.specs.Tree.{compound, trees_of}
use Rattle.ml_term.proofs.CompoundTrees.{seen_compound}
use Rattle.ml_reader.specs.Declarations.{Declares}
use Rattle.ml_reader.specs.inside.rules.DeclarationSteps.{declaration_parts, parts_of_declaration}
use Rattle.ml_reader.proofs.RuleReading.DeclarationTerms.{both_ways}
use Rattle.ml_reader.proofs.rules.declaration.declaration.Goals as goal

pub returns-in-Cmp-clause-declared : goal.returns-in-Cmp-clause-declared
returns-in-Cmp-clause-declared c =
    let t = seen c.args.t.now in
    let is : compound c.in-Cmp.f (trees_of (all_seen c.as_slice.result.now)) ≡ t =
    ap (λ ts. compound c.in-Cmp.f (trees_of (all_seen ts))) c.as_slice.ensures.same ∙ sym (ap seen c.in-Cmp.is ∙ seen_compound c.in-Cmp.f c.in-Cmp.ts) in
    IfOk-weaker c.declaration_of.result (λ decl. option_map parts_of_declaration decl ≡ declaration_parts
    (compound c.in-Cmp.f (trees_of (all_seen c.as_slice.result.now)))) (λ decl. MatchOption decl ((d : Decl) → Declares t d → ⊥) (Declares t))
    (λ decl e. both_ways t decl (e ∙ ap declaration_parts is))
    c.declaration_of.ensures
