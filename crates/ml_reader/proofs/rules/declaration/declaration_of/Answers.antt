use Rattle.std.proofs.Common.{sym, ◌∙◌}
use Rattle.std.proofs.lemmas.List.{length-map}
use Rattle.ml_term.specs.Seen.{seen, all_seen}
use Rattle.ml_reader.proofs.RuleReading.FormsByArity.{nothing_said}
use Rattle.ml_reader.proofs.rules.declaration.declaration_of.Goals as goal

pub returns-in-None-pair : goal.returns-in-None-pair
returns-in-None-pair c =
    let ts = c.args.ts.now in
    sym (nothing_said c.args.f.now (all_seen ts) (λ e. c.in-None-single.ensures (sym (length-map ts seen) ∙ e))
    (λ e. c.in-None-pair.ensures (sym (length-map ts seen) ∙ e)))
