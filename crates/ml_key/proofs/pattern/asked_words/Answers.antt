use Rattle.std.proofs.Common.{ap, ◌∙◌, ◌≡◌, ◌<◌, ℕ, length, arith}
use Rattle.std.proofs.Math.ListN.{length-set}
use Rattle.ml_term.specs.Keys.{argument}
use Rattle.ml_term.specs.Patterns.{asked_code}
use Rattle.ml_term.specs.Seen.{all_seen}
use Rattle.ml_term.specs.Tree.{trees_of}
use Rattle.ml_key.specs.inside.PatternCodes.{asked_bits}
use Rattle.ml_key.proofs.FilledSlots.{filled_more, all_filled, map_twice}
use Rattle.ml_key.proofs.pattern.asked_words.Goals as goal

pub loop-place-preserved : goal.loop-place-preserved
loop-place-preserved c =
    let slots : length c.loop-place.words ≡ 8 = c.loop-place.invariant.slots in
    let room : c.loop-place.place < length c.loop-place.words = omega arith in
    record {
      slots = length-set c.loop-place.words c.loop-place.place c.asked_word.result ∙ slots;
      filled =
          filled_more (λ k. asked_code (argument k (trees_of (all_seen c.args.ts.now)))) asked_bits c.args.keys.now c.loop-place.words c.loop-place.place 0
          c.asked_word.result
          c.loop-place-test.true room (c.asked_word.ensures ∙ ap asked_code c.argument_at.ensures.same) c.loop-place.invariant.filled;
    }

pub returns : goal.returns
returns c =
    let at = λ (k : ℕ). argument k (trees_of (all_seen c.args.ts.now)) in
    let all : c.loop-place.place ≡ length c.args.keys.now = omega arith in
    all_filled (λ k. asked_code (at k)) asked_bits c.args.keys.now c.loop-place.words c.loop-place.place all c.loop-place.invariant.filled
    ∙ map_twice asked_code at c.args.keys.now
