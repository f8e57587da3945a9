use Rattle.std.proofs.Common.{ap, sym, ◌∙◌}
use Rattle.std.proofs.lemmas.List.{length-map}
use Rattle.ml_term.specs.Seen.{seen, all_seen}
use Rattle.ml_term.proofs.CompoundTrees.{seen_compound}
use Rattle.ml_reader.specs.Forms.{fact}
use Rattle.ml_reader.proofs.RuleReading.FormsByArity.{two_fact}
use Rattle.ml_reader.proofs.rules.form.form_of_two.Goals as goal

pub returns-else-is : goal.returns-else-is
returns-else-is c =
    ap fact (seen_compound c.args.f c.args.args)
    ∙ sym (two_fact c.args.f (all_seen c.args.args) (length-map c.args.args seen ∙ c.requires) (sym c.is.ensures ∙ c.if-is.false))
