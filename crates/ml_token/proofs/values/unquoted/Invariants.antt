use Rattle.std.proofs.Common.{◌≡◌, ◌++◌, length}
use Rattle.ml_token.specs.Quoted.{inside}
use Rattle.ml_token.proofs.values.unquoted.Given as goal

abbrev pub invariant-parts : goal.invariant-parts
invariant-parts l = l.name.items ++ (inside 0 l.rest).name ≡ (inside 0 l.text).name

abbrev pub decreases-parts : goal.decreases-parts
decreases-parts l = length l.rest
