use Rattle.std.proofs.Common.{◌<◌, ◌≤◌, ◌∙◌, length, arith, sym}
use Rattle.std.proofs.lemmas.Bool.{le-ltb}
use Rattle.ml_split.proofs.PartingKeys.{other_front, key_ended, bit_decides}
use Rattle.ml_split.proofs.place.goes_on.Goals as goal

pub returns-then-common_len-fork : goal.returns-then-common_len-fork
returns-then-common_len-fork c = sym (other_front _ _ c.common_len.result _ _ c.common_len.ensures c.if-common_len-fork.true c.requires)

pub returns-then-fork-len : goal.returns-then-fork-len
returns-then-fork-len c =
    let within : c.args.fork < length c.args.key.now.bits = omega arith in
    bit_decides _ _ c.common_len.result _ _ _ c.common_len.ensures c.if-common_len-fork.false within c.bit.ensures

pub returns-else-fork-len : goal.returns-else-fork-len
returns-else-fork-len c =
    let ended : length c.args.key.now.bits ≤ c.args.fork = omega arith in
    le-ltb c.args.fork c.len.result (omega arith) ∙ sym (key_ended c.args.guide.now.bits c.args.key.now.bits c.args.fork c.args.bit c.requires ended)
