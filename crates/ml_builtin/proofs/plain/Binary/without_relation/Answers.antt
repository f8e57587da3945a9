-- There is none of another name.
use Rattle.ml_builtin.proofs.Meanings.{compared, no_builtin_2}
use Rattle.ml_builtin.proofs.plain.Binary.without_relation.Goals as goal

pub returns-else-eq-5 : goal.returns-else-eq-5
returns-else-eq-5 c =
    let name = c.as_slice-name.ensures.same in
    no_builtin_2 c.args.name.now (compared _ _ _ _ _ name c.as_slice.ensures c.eq.ensures c.if-eq.false)
    (compared _ _ _ _ _ name c.as_slice-else-eq.ensures c.eq-else-eq.ensures c.if-eq-2.false)
    (compared _ _ _ _ _ name c.as_slice-else-eq-2.ensures c.eq-else-eq-2.ensures c.if-eq-3.false)
    (compared _ _ _ _ _ name c.as_slice-else-eq-3.ensures c.eq-else-eq-3.ensures c.if-eq-4.false)
    (compared _ _ _ _ _ name c.as_slice-else-eq-4.ensures c.eq-else-eq-4.ensures c.if-eq-5.false)
