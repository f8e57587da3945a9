use Rattle.std.proofs.Common.{◌≡◌, map, take, length}
use Rattle.ml_term.specs.Keys.{argument}
use Rattle.ml_term.specs.Patterns.{asked_code}
use Rattle.ml_term.specs.Seen.{all_seen}
use Rattle.ml_term.specs.Tree.{trees_of}
use Rattle.ml_key.specs.inside.PatternCodes.{asked_bits}
use Rattle.ml_key.proofs.pattern.asked_words.Given as goal

abbrev pub invariant-loop-place : goal.invariant-loop-place
invariant-loop-place l = record {
  slots : length l.words ≡ 8;
  filled : map asked_bits (take l.place l.words) ≡ map (λ k. asked_code (argument k (trees_of (all_seen l.ts)))) (take l.place l.keys);
}
