use Rattle.std.proofs.Common.{refl, ap, ◌∙◌, ◌≡◌, ◌+◌, ◌<◌, ◌++◌, ◌∷◌, [], arith, length, take, get_or, bit_xor}
use Rattle.std.specs.Ordering.{nat_cmp}
use Rattle.std.specs.Int.Count.{count_leading_zeros}
use Rattle.std.proofs.lemmas.List.{take_more}
use Rattle.ml_term.specs.Codes.{code}
use Rattle.ml_term.specs.Seen.{all_seen}
use Rattle.ml_term.specs.Tree.{trees_of}
use Rattle.ml_term.proofs.KeyHeads.{IsCoded, along, key_decides, key_follows}
use Rattle.ml_term.proofs.key.head_cmp.Goals as goal
use Rattle.ml_term.proofs.key.head_cmp.Goals.{then-zeros-same, else-zeros-same}

pub loop-key-preserved : goal.loop-key-preserved
loop-key-preserved c =
    let i = c.loop-key.key-index in
    let keys = c.args.keys.now in
    let k = get_or keys i 0 in
    let ts = trees_of (all_seen c.args.ts.now) in
    let us = trees_of (all_seen c.args.us.now) in
    let x = c.code_word-x.result in
    let y = c.code_word-y.result in
    let zeros = count_leading_zeros 64 (bit_xor x y) in
    let within : i < length keys = omega arith in
    let more : take (i + 1) keys ≡ take i keys ++ k ∷ [] = take_more keys i 0 within in
    let coded : IsCoded 64 k ts us x y = record {
      first = c.code_word-x.ensures ∙ ap code c.argument_at.ensures.same;
      second = c.code_word-y.ensures ∙ ap code c.argument_at-in-loop-key.ensures.same;
      first_fits = c.code_word-x.type_inv;
      second_fits = c.code_word-y.type_inv;
    } in
    elim c.if-zeros-same.branch [
      | then-zeros-same w ↦
          along 64 _ _ ts us _ zeros _ (nat_cmp x y) more w.same-is (w.order-is ∙ w.cmp-order.ensures)
          (key_decides 64 k (take i keys) ts us x y c.loop-key.same zeros c.loop-key.order coded refl w.if-zeros-same.true c.loop-key.invariant)
      | else-zeros-same w ↦
          along 64 _ _ ts us _ c.loop-key.same _ c.loop-key.order more w.same-is w.order-is
          (key_follows 64 k (take i keys) ts us x y c.loop-key.same zeros c.loop-key.order coded refl w.if-zeros-same.false c.loop-key.invariant)
    ]
