use Rattle.std.proofs.Common.{◌≡◌, suc, ◌-◌, ◌≤◌, ◌<◌, length, arith, get_or}
use Rattle.std.proofs.lemmas.List.{get_or_read}
use Rattle.ml_bits.proofs.PackedBits as packed
use Rattle.ml_bits.proofs.words.fill_last.Goals as goal

pub returns-then-count-eq0-clause-held : goal.returns-then-count-eq0-clause-held
returns-then-count-eq0-clause-held c = packed.nothing_more _ _ _ _ c.requires.packed c.if-count-eq0.true

pub returns-clause-held : goal.returns-clause-held
returns-clause-held c =
    let spare = c.spare_bits-spare.ensures.left (length c.args.words.now.items) c.requires.packed.enough c.requires.packed.no_more in
    let last : suc (c.len-last.result - 1) ≡ length c.args.words.now.items = omega (arith, c.requires.packed.enough) in
    let within : c.len-last.result - 1 < length c.args.words.now.items = omega (arith, last) in
    let word : c.index_mut.result.now ≡ get_or c.args.words.now.items (c.len-last.result - 1) 0 =
    get_or_read c.args.words.now.items (c.len-last.result - 1) c.index_mut.result.now within c.index_mut.ensures.value 0 in
    let count : c.args.count ≤ c.spare_bits-spare.result = omega (arith, spare, c.requires.count) in
    packed.fill_last _ _ _ _ _ _ _ c.requires.packed last spare word count c.requires.value
