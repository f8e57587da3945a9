use Rattle.std.proofs.Common.{rules, ◌≡◌, ◌+◌, ◌++◌, ◌∙◌, ◌<◌, arith}
use Rattle.ml_make.specs.Facts.{first_argument, number_behind}
use Rattle.ml_make.specs.Texts.{fact_line}
use Rattle.ml_make.proofs.FactsInTurn.{one_more}
use Rattle.ml_make.proofs.rules.make_rules.Goals as goal

pub loop-i-preserved : goal.loop-i-preserved
loop-i-preserved c =
    let inside : c.loop-i.i < c.args.facts = search (rules, arith) in
    let number : c.number_behind-number.result ≡ number_behind c.loop-i.number = c.number_behind-number.ensures in
    let first : c.first_argument.result ≡ first_argument c.number_behind-number.result = c.first_argument.ensures in
    let put : c.put_fact.new.text.items ≡ c.loop-i.text.items ++ fact_line (c.first_argument.result, c.loop-i.i + 1) = c.in_ok-put_fact.ensures in
    rw (put, first, number) (one_more c.args.facts c.loop-i.i c.loop-i.number c.loop-i.text.items inside ∙ c.loop-i.invariant)
