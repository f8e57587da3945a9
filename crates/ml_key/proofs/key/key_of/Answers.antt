use Rattle.std.proofs.Common.{ap, ◌∙◌, ◌≡◌, ◌+◌, ◌*◌, ◌≤◌, Bool, List, ◌++◌, length, arith}
use Rattle.ml_term.specs.Seen.{seen}
use Rattle.ml_key.specs.ItemKeys.{head_bits, item_key, item_tail}
use Rattle.ml_key.proofs.GrowingLists.{filled_in_two, room_for_second}
use Rattle.ml_key.proofs.KeyParts.{whole_key, length-head_bits, has_arguments}
use Rattle.ml_key.proofs.key.key_of.Goals as goal

pub item_head-head-requires-clause-has_arguments : goal.item_head-head-requires-clause-has_arguments
item_head-head-requires-clause-has_arguments c =
    let some : 1 ≤ c.args.decl.now.pred.arity = has_arguments c.args.decl.now.pred.arity c.args.decl.now.keys c.args.decl.now.keyed in
    omega (arith, some, c.requires.arity)

pub append_tail-requires-clause-room : goal.append_tail-requires-clause-room
append_tail-requires-clause-room c =
    let keys = c.as_slice-keys.result.now in
    let head = seen c.item_head-head.result.now in
    let tail = length (item_tail c.args.decl.now.kind (seen c.args.t.now) c.args.number) in
    let wanted : 64 * length keys + c.tail_len.result ≡ length (head_bits keys head) + tail =
    omega (arith, length-head_bits keys head, c.tail_len.ensures.same c.args.number) in
    room_for_second (head_bits keys head) c.empty-key.result c.make_room.new.self c.append_head.new.list (64 * length keys + c.tail_len.result) tail
    c.empty-key.ensures c.in_ok-make_room.ensures.list c.in_ok-make_room.ensures.ok wanted c.append_head.ensures

pub returns : goal.returns
returns c =
    let keys = c.as_slice-keys.result.now in
    let head = seen c.item_head-head.result.now in
    let kind = c.args.decl.now.kind in
    let t = seen c.args.t.now in
    let tail : List Bool = item_tail kind t c.args.number in
    let wanted : 64 * length keys + c.tail_len.result ≡ length (head_bits keys head) + length tail =
    omega (arith, length-head_bits keys head, c.tail_len.ensures.same c.args.number) in
    let whole : head_bits keys head ++ tail ≡ item_key kind c.args.decl.now.keys t c.args.number =
    ap (λ ks. head_bits ks head ++ tail) c.as_slice-keys.ensures
    ∙ ap (λ h. head_bits c.args.decl.now.keys h ++ tail) c.item_head-head.ensures.same
    ∙ whole_key kind c.args.decl.now.keys t c.args.number in
    filled_in_two (head_bits keys head) tail (item_key kind c.args.decl.now.keys t c.args.number) c.empty-key.result c.make_room.new.self c.append_head.new.list
    c.append_tail.new.list
    (64 * length keys + c.tail_len.result)
    c.empty-key.ensures c.in_ok-make_room.ensures.list c.in_ok-make_room.ensures.ok wanted c.append_head.ensures c.append_tail.ensures whole
