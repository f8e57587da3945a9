use Rattle.std.proofs.Common.{length}
use Rattle.ml_bits.proofs.PackedBits as packed
use Rattle.ml_bits.proofs.words.append.Goals as goal

pub fill_last-requires-else-spare-eq0-clause-value : goal.fill_last-requires-else-spare-eq0-clause-value
fill_last-requires-else-spare-eq0-clause-value c = packed.high_part _ _ _ c.if-count-spare.false c.requires.value

pub returns-then-spare-eq0-clause-held : goal.returns-then-spare-eq0-clause-held
returns-then-spare-eq0-clause-held c =
    let spare = c.spare_bits-spare.ensures.left (length c.args.words.now.items) c.requires.packed.enough c.requires.packed.no_more in
    packed.append_full _ _ _ _ _ _ c.requires.packed c.if-spare-eq0.true spare c.start_word.ensures.held

pub returns-else-spare-eq0-clause-held : goal.returns-else-spare-eq0-clause-held
returns-else-spare-eq0-clause-held c =
    let spare = c.spare_bits-spare.ensures.left (length c.args.words.now.items) c.requires.packed.enough c.requires.packed.no_more in
    packed.append_across _ _ _ _ _ _ _ c.requires.packed c.if-count-spare.false spare c.fill_last-else-spare-eq0.ensures.len
    c.fill_last-else-spare-eq0.ensures.held c.start_word-else-spare-eq0.ensures.held
