use Rattle.std.proofs.Common.{◌≡◌}
use Rattle.ml_writer.proofs.BindingTexts.{SomeArePut}
use Rattle.ml_writer.proofs.piece.put_bindings.Given as goal

abbrev pub invariant-loop-binding : goal.invariant-loop-binding
invariant-loop-binding l = record {
  kept : l.out.before ≡ l.fn.out.before;
  put : SomeArePut l.fn.out.text l.out.text l.fn.met l.met l.fn.bindings l.rest l.binding-index;
}
