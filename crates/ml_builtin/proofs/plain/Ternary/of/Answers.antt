-- There is none of another name.
use Rattle.ml_builtin.proofs.Meanings.{compared, no_builtin_3}
use Rattle.ml_builtin.proofs.plain.Ternary.of.Goals as goal

pub returns-else-eq-2 : goal.returns-else-eq-2
returns-else-eq-2 c =
    let name = c.as_slice-name.ensures.same in
    no_builtin_3 c.args.name.now (compared _ _ _ _ _ name c.as_slice.ensures c.eq.ensures c.if-eq.false)
    (compared _ _ _ _ _ name c.as_slice-else-eq.ensures c.eq-else-eq.ensures c.if-eq-2.false)
