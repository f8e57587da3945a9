use Rattle.std.proofs.Common.{◌≡◌, ◌+◌, ◌<◌, ◌++◌, max, length, arith, ap, sym, ◌∙◌, subst}
use Rattle.ml_bits.specs.BitList.{bits_of}
use Rattle.ml_bits.specs.inside.Packing.{IsPacked, packed_bits}
use Rattle.ml_bits.proofs.WordBits.{length-bits_of}
use Rattle.ml_bits.proofs.PackedBits.{length_held}
use Rattle.ml_bits.proofs.StoredBits.{same_list, on_err}
use Rattle.ml_bits.proofs.bit_list.Bits.push_bits.Goals as goal

pub returns-in_default-clause-full : goal.returns-in_default-clause-full
returns-in_default-clause-full c =
    let long : length c.args.self.now.bits ≡ c.self.inside.len = length_held _ _ _ c.self.invariant.packed (ap (λ v. v.bits) c.self.view_is) in
    let room : c.self.inside.room ≡ c.args.self.now.room = ap (λ v. v.room) c.self.view_is in
    omega (arith, long, room, c.in_default.ensures)

pub returns-in_err-make_room-clause-full : goal.returns-in_err-make_room-clause-full
returns-in_err-make_room-clause-full c =
    let long : length c.args.self.now.bits ≡ c.self.inside.len = length_held _ _ _ c.self.invariant.packed (ap (λ v. v.bits) c.self.view_is) in
    let less : c.args.self.now.room < length c.args.self.now.bits + c.args.count = omega (arith, long, c.in-Some.ensures.1, c.in_err-make_room.ensures.full) in
    on_err c.from_residual.result less

pub append-requires-clause-fits : goal.append-requires-clause-fits
append-requires-clause-fits c =
    let long : length c.args.self.now.bits ≡ c.self.inside.len = length_held _ _ _ c.self.invariant.packed (ap (λ v. v.bits) c.self.view_is) in
    let again : length c.make_room.new.self.bits ≡ c.self-2.inside.len = length_held _ _ _ c.self-2.invariant.packed (ap (λ v. v.bits) c.self-2.view_is) in
    omega (arith, long, again, ap length c.in_ok-make_room.ensures.list, c.in-Some.ensures.0)

pub append-requires-clause-reserved : goal.append-requires-clause-reserved
append-requires-clause-reserved c =
    let long : length c.args.self.now.bits ≡ c.self.inside.len = length_held _ _ _ c.self.invariant.packed (ap (λ v. v.bits) c.self.view_is) in
    let again : length c.make_room.new.self.bits ≡ c.self-2.inside.len = length_held _ _ _ c.self-2.invariant.packed (ap (λ v. v.bits) c.self-2.view_is) in
    let room : c.self-2.inside.room ≡ c.make_room.new.self.room = ap (λ v. v.room) c.self-2.view_is in
    omega (arith, long, again, room, ap length c.in_ok-make_room.ensures.list, c.in-Some.ensures.1, c.in_ok-make_room.ensures.ok, c.self-2.invariant.reserved)

pub invariant_of-self : goal.invariant_of-self
invariant_of-self c =
    let long : length c.args.self.now.bits ≡ c.self.inside.len = length_held _ _ _ c.self.invariant.packed (ap (λ v. v.bits) c.self.view_is) in
    let again : length c.make_room.new.self.bits ≡ c.self-2.inside.len = length_held _ _ _ c.self-2.invariant.packed (ap (λ v. v.bits) c.self-2.view_is) in
    let room : c.self-2.inside.room ≡ c.make_room.new.self.room = ap (λ v. v.room) c.self-2.view_is in
    let len : c.self-2.inside.len + c.args.count ≡ c.in-Some.len = omega (arith, long, again, ap length c.in_ok-make_room.ensures.list, c.in-Some.ensures.1) in
    record {
      packed = subst (IsPacked c.append.new.words.items) len c.append.ensures.held.packed;
      within_room = omega (arith, room, c.in_ok-make_room.ensures.ok);
      reserved = omega (arith, c.append.ensures.capacity, c.self-2.invariant.reserved);
    }

pub returns-clause-ok : goal.returns-clause-ok
returns-clause-ok c =
    let long : length c.args.self.now.bits ≡ c.self.inside.len = length_held _ _ _ c.self.invariant.packed (ap (λ v. v.bits) c.self.view_is) in
    let again : length c.make_room.new.self.bits ≡ c.self-2.inside.len = length_held _ _ _ c.self-2.invariant.packed (ap (λ v. v.bits) c.self-2.view_is) in
    let len : c.self-2.inside.len + c.args.count ≡ c.in-Some.len = omega (arith, long, again, ap length c.in_ok-make_room.ensures.list, c.in-Some.ensures.1) in
    let bits : packed_bits c.self-2.inside.words.items c.self-2.inside.len ≡ c.args.self.now.bits =
    ap (λ v. v.bits) c.self-2.view_is ∙ c.in_ok-make_room.ensures.list in
    let room : c.self-2.inside.room ≡ c.make_room.new.self.room = ap (λ v. v.room) c.self-2.view_is in
    let most : c.in-Some.len ≡ length c.args.self.now.bits + length (bits_of c.args.count c.args.value) =
    omega (arith, long, c.in-Some.ensures.1, length-bits_of c.args.count c.args.value) in
    same_list _ _
    (ap (packed_bits c.append.new.words.items) (sym len) ∙ c.append.ensures.held.held ∙ ap (λ bs. bs ++ bits_of c.args.count c.args.value) bits)
    (room ∙ c.in_ok-make_room.ensures.ok ∙ ap (max c.args.self.now.room) most)
