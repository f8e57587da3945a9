use Rattle.std.proofs.Common.{◌-◌}
use Rattle.std.proofs.lemmas.Result.{IfOk-weaker}
use Rattle.ml_machine.proofs.InferencesUsed.{cell_exhausted, cell_given, cell_inside, one_used}
use Rattle.ml_machine.proofs.machine.Machine.call_cell.Goals as goal

pub returns-then-self-eq0 : goal.returns-then-self-eq0
returns-then-self-eq0 c p ps written v i = cell_exhausted p ps c.args.self.now written c.args.cell c.args.next v c.if-self-eq0.true i

pub call_term-requires : goal.call_term-requires
call_term-requires c = cell_inside c.requires.1.2

pub returns : goal.returns
returns c =
    IfOk-weaker c.call_term.result _ _
    (λ then gives p ps written v i.
    gives p ps written v
    (cell_given p ps c.args.self.now written c.args.cell c.args.next (c.args.self.now.left - 1) v (one_used c.args.self.now.left c.if-self-eq0.false) i))
    c.call_term.ensures
