use Rattle.std.proofs.Common.{◌∙◌, ap, sym}
use Rattle.ml_writer.specs.Output.{bytes_of}
use Rattle.ml_writer.proofs.LineCuts.{all_bytes}
use Rattle.ml_writer.proofs.lines.Lines.bytes.Goals as goal

pub returns : goal.returns
returns c =
    c.as_slice.ensures.value ∙ (sym (all_bytes c.self.inside.lengths.items c.self.inside.bytes.items c.self.inside.answer_bytes) ∙ ap bytes_of c.self.view_is)
