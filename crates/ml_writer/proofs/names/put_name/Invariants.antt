use Rattle.std.proofs.Common.{◌≡◌, ◌++◌, ◌∷◌, take}
use Rattle.std.specs.List.{flat_map}
use Rattle.ml_term.specs.Text.{quoted_byte}
use Rattle.ml_writer.proofs.names.put_name.Given as goal

abbrev pub invariant-loop-b : goal.invariant-loop-b
invariant-loop-b l = record {
  kept : l.out.before ≡ l.fn.out.before;
  text : l.out.text ≡ l.fn.out.text ++ 39 ∷ flat_map quoted_byte (take l.b-index l.name);
}
