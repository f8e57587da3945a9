use Rattle.std.proofs.Common.{arith, take}
use Rattle.std.proofs.lemmas.List.{length-take}
use Rattle.ml_term.proofs.NameBytes.{is_a_name}
use Rattle.ml_term.proofs.reading.name_behind.Goals as goal

pub new-requires : goal.new-requires
new-requires c =
    let len = length-take c.min.result c.in-Some.rest.now in
    is_a_name (take c.min.result c.in-Some.rest.now) (omega (arith, len)) (omega (arith, len))
