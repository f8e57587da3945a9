use Rattle.std.proofs.Common.{ap, sym, ◌*◌, length, ◌∙◌}
use Rattle.ml_term.specs.CanonicalBytes.{bytes_of}
use Rattle.ml_term.specs.Seen.{seen}
use Rattle.ml_key.specs.ItemKeys.{item_tail}
use Rattle.ml_key.proofs.GrowingLists.{length-byte_bits}
use Rattle.ml_key.proofs.key.tail_len.Goals as goal

pub returns-in-Relation-clause-same : goal.returns-in-Relation-clause-same
returns-in-Relation-clause-same c number =
    ap (λ n. 8 * n) c.canonical_len.ensures.same
    ∙ sym (length-byte_bits (bytes_of (seen c.args.t.now)))
    ∙ sym (ap (λ k. length (item_tail k (seen c.args.t.now) number)) c.in-Relation.is)
