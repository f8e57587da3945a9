use Rattle.std.proofs.Common.{◌≡◌, subst}
use Rattle.std.proofs.lemmas.Result.{IfOk-weaker}
use Rattle.ml_called.specs.Faults.{raised}
use Rattle.ml_search.specs.Errors.{kept_small}
use Rattle.ml_stack.specs.Memories.{tree}
use Rattle.ml_term.specs.Seen.{seen}
use Rattle.ml_machine.specs.declared.machine.Machine.{Machine}
use Rattle.ml_machine.proofs.machine.Machine.raise_fault.Goals as goal

pub returns : goal.returns
returns c =
    let same = subst (λ (s : Machine). kept_small (raised (tree s.memory c.args.cell) c.args.fault) ≡ kept_small (seen c.in_ok-error.error)) c.self.view_is
    c.in_ok-error.ensures.same in
    IfOk-weaker c.raise.result _ _ (λ then raises p ps. raises p ps _ same) c.raise.ensures
