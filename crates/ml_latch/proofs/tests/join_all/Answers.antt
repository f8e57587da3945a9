use Rattle.std.proofs.Common.{rules, arith, ◌≡◌, ◌+◌, ap, sym, subst, length, vec_len, Contains}
use Rattle.ml_latch.proofs.SeatNumbers.{last_and_others, took_in_one_more}
use Rattle.ml_latch.proofs.tests.join_all.Goals as goal

pub loop-seat-preserved : goal.loop-seat-preserved
loop-seat-preserved c =
    let i = c.loop-seat.invariant in
    let len : vec_len c.pop.new.self ≡ length c.pop.new.self.items = search rules in
    let fewer : vec_len c.pop.new.self + 1 ≡ vec_len c.loop-seat.seats = search rules in
    let last = last_and_others c.args.latch.now c.loop-seat.seats.items c.pop.new.self.items c.in-Some.seat (vec_len c.pop.new.self) len c.in-Some.ensures.items
    i.numbered in
    let kept = ap (λ s. s.kept) c.join.ensures.into in record {
      latch = search rules;
      same = search rules;
      numbered = last.1;
      later = λ n some le.
          let t = took_in_one_more c.loop-seat.into.kept c.in-Some.seat (vec_len c.pop.new.self) (vec_len c.args.seats) last.0.1
          (λ m after le. i.later m (omega (arith, after, fewer)) le) n some le in
          (t.0, subst (λ l. Contains l (n, t.0)) (sym kept) t.1);
    }
