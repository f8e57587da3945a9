use Rattle.std.proofs.Common.{◌≤◌, ◌≢◌, ◌∙◌, length, length-drop, arith}
use Rattle.ml_token.specs.inside.Gap.{piece_len}
use Rattle.ml_token.proofs.GapLengths.{gap_len-piece}
use Rattle.ml_token.proofs.gap.gap_len.Goals as goal

pub loop-rest-preserved : goal.loop-rest-preserved
loop-rest-preserved c =
    let rest = c.loop-rest.rest.now in
    let some : piece_len rest ≢ 0 = λ none. c.if-piece-eq0.false (c.piece_len-piece.ensures.len ∙ none) in
    let within : piece_len rest ≤ length rest = omega arith in
    rw (c.split_at.ensures.back, c.piece_len-piece.ensures.len) (record {
      len = omega (arith, gap_len-piece rest some within);
      within = omega (arith, length-drop (piece_len rest) rest);
    })
