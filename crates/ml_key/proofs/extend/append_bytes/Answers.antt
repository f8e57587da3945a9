use Rattle.std.proofs.Common.{◌∙◌, ◌*◌, length}
use Rattle.ml_bits.proofs.Bytes.{length-byte_bits}
use Rattle.ml_key.proofs.GrowingLists.{within_room, byte_bits_same}
use Rattle.ml_key.proofs.extend.append_bytes.Goals as goal

pub returns : goal.returns
returns c =
    c.in-Ok.ensures.ok
    ∙ within_room c.args.list.now _ _ (8 * length c.args.bytes.now) (byte_bits_same c.args.bytes.now) (length-byte_bits c.args.bytes.now) c.requires
