-- One term more is matched.
use Rattle.std.proofs.Common.{ℕ, ◌<◌, List, Option, IfSome, subst, ◌∙◌, arith}
use Rattle.ml_heap.proofs.HeapMarks.{marks_go_on}
use Rattle.ml_match.specs.inside.Running.{IsRunning, RunsOn}
use Rattle.ml_match.proofs.HeadsRun.{here_within}
use Rattle.ml_match.proofs.matching.match_head.Goals as goal

pub match_term-requires : goal.match_term-requires
match_term-requires c =
    let r = c.requires in
    record {
      equations = r.equations;
      old = r.old;
      next = r.next;
      wide = r.wide;
      q = r.q;
      running = subst (λ (qs : List ℕ). IsRunning c.args.code.now r.equations r.old r.next r.wide c.args.env r.q c.loop-cell.at c.loop-cell.heap
          c.loop-cell.slots qs) c.in-Some.ensures.items (c.loop-cell.invariant.running r.equations r.old r.next r.wide r.q r.running);
    }

pub returns-in_err-next-clause-marks : goal.returns-in_err-next-clause-marks
returns-in_err-next-clause-marks c = marks_go_on _ _ _ c.loop-cell.invariant.marks c.in_err-next.ensures.marks

pub loop-cell-smaller : goal.loop-cell-smaller
loop-cell-smaller c =
    let r = c.requires in
    let s = c.loop-cell.invariant.running r.equations r.old r.next r.wide r.q r.running in
    let here = here_within _ _ _ _ _ _ _ _ _ _ _ s _ _ c.in-Some.ensures.items in
    let later : c.loop-cell.at < c.in-Some-2.next =
    subst (λ (o : Option ℕ). IfSome o (λ next. c.loop-cell.at < next)) c.in-Some-2.is c.in_ok-next.ensures.later in
    omega (arith, here, later)

pub loop-cell-preserved : goal.loop-cell-preserved
loop-cell-preserved c =
    let i = c.loop-cell.invariant in
    let e = c.in_ok-next.ensures in
    record {
      running = λ es old next wide q s.
          subst (λ (o : Option ℕ). RunsOn c.args.code.now es old next wide c.args.env q c.match_term.new.heap c.match_term.new.slots
          c.match_term.new.todo.items o) c.in-Some-2.is
          (e.goes_on es old next wide q
          (subst (λ (qs : List ℕ). IsRunning c.args.code.now es old next wide c.args.env q c.loop-cell.at c.loop-cell.heap c.loop-cell.slots qs)
          c.in-Some.ensures.items (i.running es old next wide q s)));
      front = λ before l p. e.front before l (i.front before l p);
      many = e.many ∙ i.many;
      counted = e.counted ∙ i.counted;
      marks = marks_go_on _ _ _ i.marks e.marks;
    }

pub returns-in-None-clause-goes_on : goal.returns-in-None-clause-goes_on
returns-in-None-clause-goes_on c es old next wide q s =
    subst (λ (o : Option ℕ). RunsOn c.args.code.now es old next wide c.args.env q c.match_term.new.heap c.match_term.new.slots
    c.match_term.new.todo.items o) c.in-None.is
    (c.in_ok-next.ensures.goes_on es old next wide q
    (subst (λ (qs : List ℕ). IsRunning c.args.code.now es old next wide c.args.env q c.loop-cell.at c.loop-cell.heap c.loop-cell.slots qs)
    c.in-Some.ensures.items (c.loop-cell.invariant.running es old next wide q s)))

pub returns-in-None-clause-marks : goal.returns-in-None-clause-marks
returns-in-None-clause-marks c = marks_go_on _ _ _ c.loop-cell.invariant.marks c.in_ok-next.ensures.marks
