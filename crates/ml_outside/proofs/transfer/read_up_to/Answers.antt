use Rattle.std.proofs.Common.{◌∙◌, rules}
use Rattle.ml_outside.proofs.BytesPassed.{whole_front}
use Rattle.ml_outside.proofs.transfer.read_up_to.Goals as goal

pub returns-clause-content : goal.returns-clause-content
returns-clause-content g c =
    let read = rw c.new-bytes.ensures.items at c.in_default.ensures.bytes in
    rw (← c.take-front.ensures.inner)
    (whole_front _ c.args.limit c.take-front.result.limit c.read_to_end.new.buf (c.take-front.ensures.limit ∙ c.saturating_add.ensures) read (search rules))
