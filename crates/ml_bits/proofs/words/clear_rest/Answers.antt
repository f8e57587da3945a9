use Rattle.std.proofs.Common.{◌≡◌, suc, ◌-◌, ◌*◌, ◌<◌, length, arith, get_or}
use Rattle.std.proofs.lemmas.List.{get_or_read}
use Rattle.ml_bits.proofs.PackedBits as packed
use Rattle.ml_bits.proofs.words.clear_rest.Goals as goal

pub returns-then-spare-eq0-clause-held : goal.returns-then-spare-eq0-clause-held
returns-then-spare-eq0-clause-held c =
    let spare = c.spare_bits-spare.ensures.left (length c.args.words.now.items) c.requires.enough c.requires.no_more in
    let full : c.args.len ≡ 64 * length c.args.words.now.items = omega (arith, spare, c.requires.enough) in
    packed.full_words _ _ full

pub returns-clause-held : goal.returns-clause-held
returns-clause-held c =
    let spare = c.spare_bits-spare.ensures.left (length c.args.words.now.items) c.requires.enough c.requires.no_more in
    let last : suc (c.len-last.result - 1) ≡ length c.args.words.now.items = omega (arith, spare) in
    let within : c.len-last.result - 1 < length c.args.words.now.items = omega (arith, last) in
    let word : c.index.result.now ≡ get_or c.args.words.now.items (c.len-last.result - 1) 0 =
    get_or_read c.args.words.now.items (c.len-last.result - 1) c.index.result.now within c.index.ensures 0 in
    packed.clear_rest _ _ _ _ _ last spare word c.requires.enough c.requires.no_more
