use Rattle.std.proofs.Common.{◌≡◌, ◌+◌, ◌-◌, ◌*◌, ◌/◌, ◌%◌, ◌^◌, ◌<◌, ◌≤◌, ◌++◌, length, take, get_or, ap, sym, ◌∙◌, arith, subst}
use Rattle.std.proofs.lemmas.List.{length-take-le}
use Rattle.std.proofs.lemmas.Nat.{shr_below}
use Rattle.ml_bits.specs.BitList.{bits_of, byte_bits}
use Rattle.ml_bits.proofs.Bytes.{length-byte_bits, byte_bits_take, byte_bits_part}
use Rattle.ml_bits.proofs.StoredBits.{filled_once, filled_twice}
use Rattle.ml_bits.proofs.bit_list.Bits.from_bytes.Goals as goal

pub returns-then-rest-eq0 : goal.returns-then-rest-eq0
returns-then-rest-eq0 c =
    let whole : 8 * (c.args.count / 8) ≡ c.args.count = omega arith in
    let within : c.args.count / 8 ≤ length c.args.bytes.now = omega arith in
    let long : length (take c.args.count (byte_bits c.args.bytes.now)) ≡ c.args.count =
    length-take-le c.args.count (byte_bits c.args.bytes.now) (omega (arith, length-byte_bits c.args.bytes.now)) in
    let none = c.in_ok-make_room.ensures.list ∙ ap (λ v. v.bits) c.empty-list.ensures in
    let room : c.make_room.new.self.room ≡ c.args.count = omega (arith, c.in_ok-make_room.ensures.ok, ap (λ v. v.room) c.empty-list.ensures) in
    let same : byte_bits (take (c.args.count / 8) c.args.bytes.now) ≡ take c.args.count (byte_bits c.args.bytes.now) =
    byte_bits_take (c.args.count / 8) c.args.bytes.now within ∙ ap (λ n. take n (byte_bits c.args.bytes.now)) whole in
    filled_once _ _ _ _ _ none room c.in_ok-push_bytes.ensures.ok same long

pub push_bits-requires-clause-value : goal.push_bits-requires-clause-value
push_bits-requires-clause-value c =
    let byte : get_or c.args.bytes.now (c.args.count / 8) 0 < 2 ^ 8 = omega (arith, c.type_inv.bytes (c.args.count / 8)) in
    let width : c.args.count % 8 + (8 - c.args.count % 8) ≡ 8 = omega arith in
    rw c.from.ensures (shr_below (get_or c.args.bytes.now (c.args.count / 8) 0) (c.args.count % 8) (8 - c.args.count % 8)
    (subst (λ k. get_or c.args.bytes.now (c.args.count / 8) 0 < 2 ^ k) (sym width) byte))

pub returns : goal.returns
returns c =
    let whole : 8 * (c.args.count / 8) + c.args.count % 8 ≡ c.args.count = omega arith in
    let within : c.args.count / 8 < length c.args.bytes.now = omega arith in
    let long : length (take c.args.count (byte_bits c.args.bytes.now)) ≡ c.args.count =
    length-take-le c.args.count (byte_bits c.args.bytes.now) (omega (arith, length-byte_bits c.args.bytes.now)) in
    let none = c.in_ok-make_room.ensures.list ∙ ap (λ v. v.bits) c.empty-list.ensures in
    let room : c.make_room.new.self.room ≡ c.args.count = omega (arith, c.in_ok-make_room.ensures.ok, ap (λ v. v.room) c.empty-list.ensures) in
    let both : byte_bits (take (c.args.count / 8) c.args.bytes.now) ++ bits_of (c.args.count % 8) c.from.result
    ≡ take c.args.count (byte_bits c.args.bytes.now) =
    ap (λ v. byte_bits (take (c.args.count / 8) c.args.bytes.now) ++ bits_of (c.args.count % 8) v) c.from.ensures
    ∙ byte_bits_part (c.args.count / 8) (c.args.count % 8) c.args.bytes.now within (omega arith)
    ∙ ap (λ n. take n (byte_bits c.args.bytes.now)) whole in
    filled_twice _ _ _ _ _ _ _ none room c.in_ok-push_bytes.ensures.ok c.in_ok-push_bits.ensures.ok both long
