use Rattle.std.proofs.Common.{ap, ◌∙◌, ◌≡◌, ◌<◌, ℕ, length, arith}
use Rattle.std.proofs.Math.ListN.{length-set}
use Rattle.ml_term.specs.Codes.{code}
use Rattle.ml_term.specs.Keys.{argument}
use Rattle.ml_term.specs.Seen.{all_seen}
use Rattle.ml_term.specs.Tree.{trees_of}
use Rattle.ml_key.specs.inside.PatternCodes.{word_bits}
use Rattle.ml_key.proofs.FilledSlots.{filled_more, all_filled, map_twice}
use Rattle.ml_key.proofs.key.codes_of.Goals as goal

pub loop-place-preserved : goal.loop-place-preserved
unfolding word_bits
loop-place-preserved c =
    let slots : length c.loop-place.codes ≡ 8 = c.loop-place.invariant.slots in
    let room : c.loop-place.place < length c.loop-place.codes = omega arith in
    record {
      slots = length-set c.loop-place.codes c.loop-place.place c.code_word.result ∙ slots;
      filled =
          filled_more (λ k. code (argument k (trees_of (all_seen c.args.ts.now)))) word_bits c.args.keys.now c.loop-place.codes c.loop-place.place 0
          c.code_word.result
          c.loop-place-test.true room (c.code_word.ensures ∙ ap code c.argument_at.ensures.same) c.loop-place.invariant.filled;
    }

pub returns : goal.returns
returns c =
    let at = λ (k : ℕ). argument k (trees_of (all_seen c.args.ts.now)) in
    let all : c.loop-place.place ≡ length c.args.keys.now = omega arith in
    all_filled (λ k. code (at k)) word_bits c.args.keys.now c.loop-place.codes c.loop-place.place all c.loop-place.invariant.filled
    ∙ map_twice code at c.args.keys.now
