use Rattle.std.proofs.Common.{sym, ap, ◌∙◌, ◌≡◌, ◌++◌, ◌-◌, ◌+◌, arith, drop, length}
use Rattle.std.specs.List.{zip}
use Rattle.ml_search.specs.inside.Unifying.{equations_of, trees_from}
use Rattle.ml_search.proofs.Unifying.ArgumentsPushed.{pushed, sound_more}
use Rattle.ml_search.proofs.unification.solve.push_arguments.Goals as goal

pub loop-k-preserved : goal.loop-k-preserved
loop-k-preserved c =
    let ts = trees_from c.args.ts.base c.args.ts.terms.now in
    let us = trees_from c.args.us.base c.args.us.terms.now in
    let k = c.loop-k.k in
    let count = length c.args.ts.terms.now in
    let i = count - 1 - k in
    let next : count - k ≡ i + 1 = omega arith in
    let here : count - (k + 1) ≡ i = omega arith in
    let es = equations_of c.args.pairs.now.items in
    record {
      first =
          pushed ts us i
          (count - k) c.pair_of-pair.result c.loop-k.pairs.items c.push.new.self.items es c.in_ok-push.ensures.items next c.pair_of-pair.ensures.left
          c.pair_of-pair.ensures.right c.loop-k.invariant.first
          ∙ ap (λ n. zip (drop n ts) (drop n us) ++ es) (sym here);
      sound =
          λ most a b h. sound_more most c.loop-k.pairs.items c.push.new.self.items c.pair_of-pair.result c.in_ok-push.ensures.items
          (c.loop-k.invariant.sound most a b h) (c.pair_of-pair.ensures.sound most a b);
    }
