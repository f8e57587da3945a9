use Rattle.std.proofs.Common.{◌≡◌, length, ap, sym, ◌∙◌, arith}
use Rattle.std.proofs.lemmas.List.{length-map}
use Rattle.ml_term.specs.Seen.{seen, all_seen}
use Rattle.ml_term.proofs.CompoundTrees.{seen_compound}
use Rattle.ml_reader.specs.Forms.{fact}
use Rattle.ml_reader.proofs.RuleReading.FormsByArity.{other_fact}
use Rattle.ml_reader.proofs.rules.form.form_of_compound.Goals as goal

pub returns-else-count-eq2 : goal.returns-else-count-eq2
returns-else-count-eq2 c =
    let ts = c.args.args in
    let count : length (all_seen ts) ≡ length c.as_slice-count.result.now = length-map ts seen ∙ sym (ap length c.as_slice-count.ensures.same) in
    ap fact (seen_compound c.args.f ts)
    ∙ sym (other_fact c.args.f (all_seen ts) (λ e. omega (arith, e, count, c.if-count-eq1.false)) (λ e. omega (arith, e, count, c.if-count-eq2.false)))
