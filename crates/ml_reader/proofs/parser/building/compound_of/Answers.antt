use Rattle.std.proofs.Common.{ap, ◌∙◌}
use Rattle.ml_term.specs.Tree.{compound, trees_of}
use Rattle.ml_term.specs.Seen.{all_seen}
use Rattle.ml_term.proofs.CompoundTrees.{seen_compound}
use Rattle.ml_reader.proofs.Parsing.LastFrames.{all_args}
use Rattle.ml_reader.proofs.parser.building.compound_of.Goals as goal

pub returns : goal.returns
returns c =
    seen_compound c.args.name c.new.result
    ∙ (ap (λ ts. compound c.args.name (trees_of (all_seen ts))) c.new.ensures ∙ ap (compound c.args.name) (all_args _ _ _ c.in_ok-push.ensures.items))
