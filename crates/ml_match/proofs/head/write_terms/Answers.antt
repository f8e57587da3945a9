-- One term's instruction less is left.
use Rattle.std.proofs.Common.{◌≡◌, ℕ, ◌+◌, ◌-◌, subst, ◌∙◌, arith}
use Rattle.ml_heap.proofs.StoredTerms.{grows_none, grows_on}
use Rattle.ml_compile.proofs.CodeKept.{matches_forward}
use Rattle.ml_match.specs.inside.Matching.{IsWriting}
use Rattle.ml_match.proofs.HeadParts.{suffix}
use Rattle.ml_match.proofs.HeadsWritten.{writing_begins}
use Rattle.ml_match.proofs.head.write_terms.Goals as goal

pub loop-at-init : goal.loop-at-init
loop-at-init c = record {
  low = matches_forward c.requires.2.1.0;
  high = omega arith;
  writing = λ after s. writing_begins _ _ _ _ _ _ _ s;
  grown = grows_none c.args.heap.now;
  counted = omega arith;
}

pub write-requires : goal.write-requires
write-requires c =
    let r = c.requires in
    let i = c.loop-at.invariant in
    let e : c.loop-at.at ≡ c.loop-at.at - 1 + 1 = omega (arith, c.loop-at-test.true) in
    let f = suffix (c.loop-at.at - 1) r.2.1.0 (omega (arith, c.loop-at-test.true)) (omega (arith, i.high)) in
    record {
      old = c.args.heap.now;
      before = c.args.cells.now.items;
      to = c.args.to;
      met = f.met;
      after = r.1;
      terms = f.terms;
      writing = subst (λ (x : ℕ). IsWriting c.args.heap.now c.args.slots.now c.args.env c.args.code.now c.args.cells.now.items c.args.to r.1 x c.loop-at.heap
          c.loop-at.cells.items) e
          (i.writing r.1 r.2.1.1);
      matches = f.matches;
      early = omega (arith, i.high, c.loop-at-test.true);
    }

pub loop-at-preserved : goal.loop-at-preserved
loop-at-preserved c =
    let i = c.loop-at.invariant in
    let e : c.loop-at.at ≡ c.loop-at.at - 1 + 1 = omega (arith, c.loop-at-test.true) in
    record {
      low = omega (arith, c.loop-at-test.true);
      high = omega (arith, i.high);
      writing = λ after s. c.in_ok-write.ensures.built _ _ _ after
          (subst (λ (x : ℕ). IsWriting c.args.heap.now c.args.slots.now c.args.env c.args.code.now c.args.cells.now.items c.args.to after x c.loop-at.heap
          c.loop-at.cells.items) e
          (i.writing after s)) (omega (arith, i.high, c.loop-at-test.true));
      grown = grows_on _ _ _ i.grown c.in_ok-write.ensures.grown;
      counted = c.in_ok-write.ensures.counted ∙ i.counted;
    }
