use Rattle.std.proofs.Common.{ap, ◌∙◌}
use Rattle.ml_term.specs.Codes.{code}
use Rattle.ml_term.specs.Keys.{argument, interleave}
use Rattle.ml_term.specs.Tree.{Trees}
use Rattle.std.proofs.Common.{map}
use Rattle.ml_key.specs.inside.Extension.{extend_list}
use Rattle.ml_key.specs.ItemKeys.{head_bits}
use Rattle.ml_key.specs.inside.PatternCodes.{word_bits}
use Rattle.ml_key.proofs.key.append_head.Goals as goal

pub returns : goal.returns
unfolding head_bits word_bits
returns c =
    c.append_in_turn.ensures
    ∙ ap (λ cs. extend_list c.args.list.now (interleave 64 cs))
    (c.codes_of-codes.ensures ∙ ap (λ (ts : Trees). map code (map (λ k. argument k ts) c.args.keys.now)) c.arguments_of.ensures.same)
