use Rattle.std.proofs.Common.{◌≡◌, ◌∷◌, ◌++◌, [], length, ap, sym, ◌∙◌, arith}
use Rattle.ml_list_desk.proofs.KeptLists.{all_in_turn, kept_in_turn, listed}
use Rattle.ml_list_desk.proofs.Numbers.{turn_on}
use Rattle.ml_list_desk.proofs.plain_list.PlainList.new.Goals as goal

pub loop-n-preserved : goal.loop-n-preserved
loop-n-preserved c = c.in_ok-push.ensures.items ∙ ap (λ ns. ns ++ c.loop-n.n ∷ []) c.loop-n.invariant ∙ sym (turn_on c.loop-n.n)

pub invariant_of-result : goal.invariant_of-result
invariant_of-result c =
    let all : c.loop-n.n ≡ length c.args.items.items = omega (arith, c.args.items.ok.0) in
    kept_in_turn c.args.decl c.args.items.items c.loop-n.numbers.items _ c.loop-n.n _ c.loop-n.invariant all c.in_ok-room.ensures.items
    (omega (arith, c.in_ok-room.ensures.capacity)) c.requires.allowed c.requires.ordered

pub returns : goal.returns
returns c =
    let all : c.loop-n.n ≡ length c.args.items.items = omega (arith, c.args.items.ok.0) in
    ap (λ is. listed c.args.decl is c.args.items.items) (all_in_turn c.args.items.items c.loop-n.numbers.items c.loop-n.n c.loop-n.invariant all)
