use Rattle.ml_writer.proofs.LineCuts.{line_added}
use Rattle.ml_writer.proofs.lines.Lines.add.Goals as goal

pub returns-clause-written : goal.returns-clause-written
returns-clause-written c =
    line_added _ _ _ _ _ _ _ c.self.inside.answer_bytes _ c.self.invariant c.self.view_is c.in_ok-append.ensures.written c.in_ok-reserve.ensures.items
    c.finish.ensures.lengths
