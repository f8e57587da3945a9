use Rattle.std.proofs.Common.{sym, ap, ◌∙◌}
use Rattle.std.specs.Prelude.{reverse}
use Rattle.ml_search.specs.Search.{last_of}
use Rattle.ml_stack.proofs.ListEnds.{reverse_front}
use Rattle.ml_stack.proofs.ChoicePoints.{cut_stands}
use Rattle.ml_stack.proofs.choices.cut_choices.Goals as goal

pub returns : goal.returns
returns c ps w s = record {
  seen = ap (last_of c.args.height) s.seen ∙ (sym (reverse_front c.args.height c.args.choices.now.items) ∙ sym (ap reverse c.truncate.ensures.items));
  stacked = cut_stands ps c.args.height s.stacked;
}
