use Rattle.std.proofs.Common.{◌≡◌, ◌++◌}
use Rattle.std.specs.Option.{option_map}
use Rattle.ml_term.specs.Seen.{seen}
use Rattle.ml_term.specs.Tree.{nodes}
use Rattle.ml_reader.specs.inside.rules.DeclarationSteps.{numbers}
use Rattle.ml_reader.proofs.rules.declaration.numbers.Given as goal

-- the numbers so far, in front of those of the rest
abbrev pub invariant-loop-first : goal.invariant-loop-first
invariant-loop-first l = option_map (λ ks. l.numbers.items ++ ks) (numbers (seen l.rest)) ≡ numbers (seen l.fn.t)

abbrev pub decreases-loop-first : goal.decreases-loop-first
decreases-loop-first l = nodes (seen l.rest)
