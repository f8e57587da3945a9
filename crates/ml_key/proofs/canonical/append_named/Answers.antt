use Rattle.std.proofs.Common.{◌+◌, ◌≡◌, ap, length, arith}
use Rattle.ml_key.proofs.GrowingLists.{room_after}
use Rattle.ml_key.proofs.canonical.append_named.Goals as goal

pub append_tagged-requires : goal.append_tagged-requires
append_tagged-requires c =
    let name : length c.as_slice-bytes.result.now ≡ length c.args.name.now = ap length c.as_slice-bytes.ensures.same in
    room_after c.args.list.now c.append_bytes.new.list c.args.front.now (1 + length c.as_slice-bytes.result.now)
    (length c.args.front.now + (1 + length c.args.name.now))
    c.append_bytes.ensures (omega (arith, name)) c.requires
