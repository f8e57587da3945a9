use Rattle.std.proofs.Common.{◌≡◌, map, take, length}
use Rattle.ml_term.specs.Codes.{code}
use Rattle.ml_term.specs.Keys.{argument}
use Rattle.ml_term.specs.Seen.{all_seen}
use Rattle.ml_term.specs.Tree.{trees_of}
use Rattle.ml_key.specs.inside.PatternCodes.{word_bits}
use Rattle.ml_key.proofs.key.codes_of.Given as goal

abbrev pub invariant-loop-place : goal.invariant-loop-place
invariant-loop-place l = record {
  slots : length l.codes ≡ 8;
  filled : map word_bits (take l.place l.codes) ≡ map (λ k. code (argument k (trees_of (all_seen l.ts)))) (take l.place l.keys);
}
