use Rattle.std.proofs.Common.{◌≡◌, ◌+◌, ◌*◌, ◌<◌, length, ap, arith}
use Rattle.ml_bits.specs.BitList.{byte_bits}
use Rattle.ml_bits.proofs.Bytes.{length-byte_bits}
use Rattle.ml_bits.proofs.PackedBits.{length_held}
use Rattle.ml_bits.proofs.StoredBits.{followed_in_room, on_err}
use Rattle.ml_bits.proofs.bit_list.Bits.push_bytes.Goals as goal

pub returns-in_default-clause-full : goal.returns-in_default-clause-full
returns-in_default-clause-full c =
    let long : length c.args.self.now.bits ≡ c.self.inside.len = length_held _ _ _ c.self.invariant.packed (ap (λ v. v.bits) c.self.view_is) in
    let room : c.self.inside.room ≡ c.args.self.now.room = ap (λ v. v.room) c.self.view_is in
    omega (arith, long, room, c.in_default.ensures)

pub returns-in_err-make_room-clause-full : goal.returns-in_err-make_room-clause-full
returns-in_err-make_room-clause-full c =
    let long : length c.args.self.now.bits ≡ c.self.inside.len = length_held _ _ _ c.self.invariant.packed (ap (λ v. v.bits) c.self.view_is) in
    let less : c.args.self.now.room < length c.args.self.now.bits + 8 * length c.args.bytes.now =
    omega (arith, long, c.in-Some.ensures.1, c.in_err-make_room.ensures.full) in
    on_err c.from_residual.result less

pub returns-clause-ok : goal.returns-clause-ok
returns-clause-ok c =
    let long : length c.args.self.now.bits ≡ c.self.inside.len = length_held _ _ _ c.self.invariant.packed (ap (λ v. v.bits) c.self.view_is) in
    let len : c.in-Some.len ≡ length c.args.self.now.bits + length (byte_bits c.args.bytes.now) =
    omega (arith, long, c.in-Some.ensures.1, length-byte_bits c.args.bytes.now) in
    followed_in_room _ _ _ _ _ c.in_ok-make_room.ensures.list c.in_ok-make_room.ensures.ok len c.push_reserved.ensures
