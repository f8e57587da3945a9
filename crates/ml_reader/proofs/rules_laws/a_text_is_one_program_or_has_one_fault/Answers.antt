use Rattle.ml_reader.proofs.RuleReading.OneRulesReading.{one_rules, one_rules_fault, rules_without_fault, rules_or_fault}
use Rattle.ml_reader.proofs.rules_laws.a_text_is_one_program_or_has_one_fault.Goals as goal

pub returns-clause-rules : goal.returns-clause-rules
returns-clause-rules c = one_rules

pub returns-clause-fault : goal.returns-clause-fault
returns-clause-fault c = one_rules_fault

pub returns-clause-not_both : goal.returns-clause-not_both
returns-clause-not_both c = rules_without_fault

pub returns-clause-either : goal.returns-clause-either
returns-clause-either c = rules_or_fault
