use Rattle.std.proofs.Common.{refl}
use Rattle.ml_machine.proofs.NothingToDo.{stands_for_nothing}
use Rattle.ml_machine.proofs.machine.Machine.new.Goals as goal

pub returns-clause-stands : goal.returns-clause-stands
returns-clause-stands c ps =
    stands_for_nothing ps _ c.args.left c.new.ensures c.new-2.ensures.items c.new-3.ensures.items c.new-4.ensures.items c.new-5.ensures refl
