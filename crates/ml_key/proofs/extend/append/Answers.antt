use Rattle.std.proofs.Common.{◌∙◌}
use Rattle.ml_bits.proofs.WordBits.{length-bits_of}
use Rattle.ml_key.proofs.GrowingLists.{within_room, bits_same}
use Rattle.ml_key.proofs.extend.append.Goals as goal

pub returns : goal.returns
returns c =
    c.in-Ok.ensures.ok
    ∙ within_room c.args.list.now _ _ c.args.count (bits_same c.args.count c.args.value) (length-bits_of c.args.count c.args.value) c.requires.room
