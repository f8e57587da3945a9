use Rattle.ml_writer.specs.AnswerText.{line_of_answer, bindings_seen}
use Rattle.ml_writer.proofs.LineCuts.{line_added, counted}
use Rattle.ml_writer.proofs.lines.Lines.answer.Goals as goal

pub returns-clause-written : goal.returns-clause-written
returns-clause-written c =
    let text = line_of_answer (bindings_seen c.args.terms.now) in
    counted c.append_within.new.bytes.items c.finish.new.lengths.items text c.self.inside.answer_bytes c.in_ok-count.count _
    (line_added _ _ _ _ _ text _ c.self.inside.answer_bytes _ c.self.invariant c.self.view_is c.in_ok-count.ensures.written c.in_ok-reserve.ensures.items
    c.finish.ensures.lengths)
    c.in_ok-count.ensures.count
