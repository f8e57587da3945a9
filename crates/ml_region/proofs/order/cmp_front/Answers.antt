use Rattle.std.proofs.Common.{◌<◌, length, sym, ◌∙◌, arith}
use Rattle.ml_region.proofs.KeyOrder.{common_front, whole_before, apart_front}
use Rattle.ml_region.proofs.order.cmp_front.Goals as goal

pub returns-then-n-common : goal.returns-then-n-common
returns-then-n-common c =
    rw (c.cmp.ensures, c.len.ensures.length) (sym (common_front c.args.list.now.bits c.args.key.now.bits c.common_len-common.result c.args.n
    c.common_len-common.ensures c.if-n-common.true))

pub returns-then-common-len : goal.returns-then-common-len
returns-then-common-len c =
    sym (whole_before c.args.list.now.bits c.args.key.now.bits c.common_len-common.result c.args.n c.common_len-common.ensures
    (c.if-common-len.true ∙ c.len-2.ensures.length)
    (omega arith) c.requires)

pub returns : goal.returns
returns c =
    let short : c.common_len-common.result < length c.args.list.now.bits =
    omega (arith, c.common_len-common.ensures.within_first, c.if-common-len.false, c.len-2.ensures.length) in
    rw (c.cmp-2.ensures, c.bit.ensures, c.bit-2.ensures)
    (sym (apart_front c.args.list.now.bits c.args.key.now.bits c.common_len-common.result c.args.n c.common_len-common.ensures (omega arith) c.requires short))
