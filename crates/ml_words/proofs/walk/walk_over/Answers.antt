use Rattle.std.proofs.Common.{rules, ◌+◌, ◌<◌, ◌∙◌, ap, arith, drop, length}
use Rattle.ml_words.specs.Seen.{texts, walk_seen}
use Rattle.ml_words.specs.Walks.{Walk, behind_words}
use Rattle.ml_words.proofs.WordsInTurn.{word_then}
use Rattle.ml_words.proofs.walk.walk_over.Goals as goal

pub loop-i-preserved : goal.loop-i-preserved
loop-i-preserved c =
    let inside : c.loop-i.i < length c.args.words.now = search (rules, arith) in
    ap (λ (w : Walk). behind_words (c.loop-i.i + 1 + 1) (drop (c.loop-i.i + 1) (texts c.args.words.now)) w) c.in_ok-pass.ensures
    ∙ word_then c.args.words.now c.loop-i.i (c.loop-i.i + 1) (walk_seen c.loop-i.found) _ inside
    ∙ c.loop-i.invariant
