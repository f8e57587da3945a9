use Rattle.ml_reader.proofs.RuleReading.OneProgram.{rules_or_wrong, rules_go_wrong_once}
use Rattle.ml_reader.proofs.RuleReading.RulesOrFault.{rules_unless_wrong}
use Rattle.ml_reader.proofs.rules_laws.clauses_are_rules_or_go_wrong.Goals as goal

pub returns-clause-either : goal.returns-clause-either
returns-clause-either c = rules_unless_wrong

pub returns-clause-not_both : goal.returns-clause-not_both
returns-clause-not_both c = rules_or_wrong

pub returns-clause-once : goal.returns-clause-once
returns-clause-once c = rules_go_wrong_once
