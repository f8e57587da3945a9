use Rattle.std.proofs.Common.{[]}
use Rattle.ml_term.specs.Seen.{seen}
use Rattle.ml_term.specs.Text.{text_of}
use Rattle.ml_writer.proofs.LineCuts.{text_added, counted}
use Rattle.ml_writer.proofs.lines.write_term.Goals as goal

pub returns-clause-written : goal.returns-clause-written
returns-clause-written c =
    let text = text_of (seen c.args.t.now) [] in
    counted c.append_within.new.bytes.items c.out.inside.lengths.items text c.out.inside.answer_bytes c.in_ok-count.count _
    (text_added _ _ _ text _ c.out.inside.answer_bytes _ c.out.invariant c.out.view_is c.in_ok-count.ensures.written) c.in_ok-count.ensures.count
