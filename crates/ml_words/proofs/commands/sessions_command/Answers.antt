use Rattle.std.proofs.Common.{rules, ap, ap₂, Option, Some, None, ◌≡◌, ◌∙◌, max, codes}
use Rattle.std.specs.Option.{IsSomeAnd}
use Rattle.clap.specs.Words.{app_of, rule_of, with_rule}
use Rattle.clap.specs.declared.builder.range.ValueRange.{ValueRange}
use Rattle.ml_words.specs.Commands.{names_rule, sessions_app}
use Rattle.ml_words.proofs.commands.sessions_command.Goals as goal

is_that : (o : Option ValueRange) (r : ValueRange) → IsSomeAnd o (λ x. x ≡ r) → o ≡ Some r
is_that (Some x) r h = ap Some h
is_that None r h = absurd h

pub returns : goal.returns
returns c =
    let range_is : c.num_args.result.num_vals ≡ Some (record { start_inclusive = 0; end_inclusive = 64 }) =
    is_that c.num_args.result.num_vals _ c.num_args.ensures.1
    ∙ (λ i. Some (record { start_inclusive = c.new-2.ensures.start i; end_inclusive = max (c.new-2.ensures.end i) (c.new-2.ensures.start i) })) in
    let scripts_is : rule_of c.action-scripts.result ≡ names_rule (codes "scripts") 64 = search rules in
    c.in_ok-command.ensures.shape (search rules)
    ∙ ap₂ with_rule (c.in_ok-arg-3.ensures.shape (search rules)
    ∙ ap₂ with_rule (c.in_ok-arg-2.ensures.shape (search rules)
    ∙ ap₂ with_rule (c.in_ok-arg.ensures.shape (search rules)
    ∙ ap₂ with_rule c.new-3.ensures.app c.option-image.ensures.rule) c.option-save.ensures.rule) c.name-rules.ensures.rule) scripts_is
