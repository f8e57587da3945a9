use Rattle.std.proofs.Common.{◌≢◌, length, ap, sym, ◌∙◌}
use Rattle.std.proofs.lemmas.List.{length-map}
use Rattle.ml_term.specs.Seen.{seen, all_seen}
use Rattle.ml_term.proofs.CompoundTrees.{seen_compound}
use Rattle.ml_reader.specs.inside.rules.DeclarationSteps.{cell_parts}
use Rattle.ml_reader.proofs.RuleReading.FormsByArity.{no_cell}
use Rattle.ml_reader.proofs.rules.declaration.cell_parts.Goals as goal

pub returns-in-None : goal.returns-in-None
returns-in-None c =
    let ts = c.in-Cmp.ts in
    let other : length (all_seen ts) ≢ 2 = λ e. c.in-None.ensures (ap length c.as_slice.ensures.same ∙ sym (length-map ts seen) ∙ e) in
    sym (ap cell_parts (ap seen c.in-Cmp.is ∙ seen_compound c.in-Cmp.f ts) ∙ no_cell c.in-Cmp.f (all_seen ts) other)
