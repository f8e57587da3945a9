use Rattle.std.proofs.Common.{◌≡◌, ◌+◌, ◌-◌, ◌++◌}
use Rattle.std.specs.List.{flat_map}
use Rattle.ml_make.specs.Facts.{facts_from}
use Rattle.ml_make.specs.Texts.{fact_line, rules_text}
use Rattle.ml_make.proofs.rules.make_rules.Given as goal

abbrev pub invariant-loop-i : goal.invariant-loop-i
invariant-loop-i l = l.text.items ++ flat_map fact_line (facts_from (l.facts - l.i) (l.i + 1) l.number) ≡ rules_text l.facts
