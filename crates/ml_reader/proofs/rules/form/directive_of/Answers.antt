use Rattle.std.proofs.Common.{◌≢◌, length, ap, sym, ◌∙◌}
use Rattle.std.proofs.lemmas.List.{length-map}
use Rattle.ml_term.specs.Seen.{seen, all_seen}
use Rattle.ml_term.proofs.CompoundTrees.{seen_compound}
use Rattle.ml_reader.specs.Forms.{directive_of, form}
use Rattle.ml_reader.proofs.RuleReading.FormsByArity.{directive_of_none}
use Rattle.ml_reader.proofs.rules.form.directive_of.Goals as goal

pub returns-in-None : goal.returns-in-None
returns-in-None c =
    let ts = c.in-Cmp.args in
    let other : length (all_seen ts) ≢ 1 = λ e. c.in-None.ensures (ap length c.as_slice.ensures.same ∙ sym (length-map ts seen) ∙ e) in
    sym (ap (λ t. directive_of (form t)) (ap seen c.in-Cmp.is ∙ seen_compound c.in-Cmp.f ts) ∙ directive_of_none c.in-Cmp.f (all_seen ts) other)
