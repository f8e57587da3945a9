use Rattle.std.proofs.Common.{ap, ◌≡◌, ◌*◌, length, arith, ◌∙◌}
use Rattle.ml_term.specs.CanonicalBytes.{bytes_of}
use Rattle.ml_term.specs.Seen.{seen}
use Rattle.ml_key.specs.ItemKeys.{item_tail}
use Rattle.ml_key.proofs.GrowingLists.{length-byte_bits}
use Rattle.ml_key.proofs.key.append_tail.Goals as goal

pub append_term-requires-clause-room : goal.append_term-requires-clause-room
append_term-requires-clause-room c =
    let long : length (item_tail c.args.kind (seen c.args.t.now) c.args.number) ≡ 8 * length (bytes_of (seen c.args.t.now)) =
    ap (λ k. length (item_tail k (seen c.args.t.now) c.args.number)) c.in-Relation.is ∙ length-byte_bits (bytes_of (seen c.args.t.now)) in
    omega (arith, long, c.requires.room)
